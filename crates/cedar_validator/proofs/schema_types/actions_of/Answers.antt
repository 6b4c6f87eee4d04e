-- What is put at the keys passed is what is found at them; what is told of one is told of the schema.
use Rattle.std.proofs.Common.{◌≡◌, ◌∙◌, ◌++◌, ◌≤◌, [], ◌∷◌, cond, ap, sym, map, take, length, None, Some, arith}
use Rattle.std.specs.List.{list_any}
use Rattle.std.specs.Map.Iter.{deref}
use Rattle.std.proofs.lemmas.List.{take_all}
use Rattle.cedar_language.specs.Uid.{Name, Uid}
use Rattle.cedar_language.specs.Order.{same_uid, uid_cmp}
use Rattle.cedar_literals.specs.Laws.{same_uid_equiv, uid_cmp_ties}
use Rattle.cedar_typing.proofs.Sameness.{uid_is}
use Rattle.cedar_validator_schema.specs.Applying.{application_view}
use Rattle.cedar_validator_schema.specs.Actions.{application_at}
use Rattle.cedar_validator.specs.SchemaTypes.{action_at, TellsNamed}
use Rattle.cedar_validator.proofs.Filled.{so_far, put_next, skip_next, all_put, next_key}
use Rattle.cedar_validator.proofs.Told.{handed, told_action}
use Rattle.cedar_validator.proofs.schema_types.actions_of.Goals as goal
use Rattle.cedar_validator.proofs.schema_types.actions_of.Goals.{in-Some+in_ok-put_action, in_default}

pub returns-in_err-put_action-clause-err : goal.returns-in_err-put_action-clause-err
returns-in_err-put_action-clause-err c =
    let v = c.args.schema.now in
    let e = c.in_err-put_action.field-0.0 in
    handed _ (TellsNamed v) c.from_residual-in_err-put_action.result e c.from_residual-in_err-put_action.ensures
    (told_action v c.uid-item.result.now (application_view c.in-Some.action.now) e (sym (c.in-Some.ensures)) c.in_err-put_action.ensures.err)

pub loop-uid-preserved : goal.loop-uid-preserved
loop-uid-preserved c =
    let v = c.args.schema.now in
    let k = c.uid-item.result.now in
    let items = c.deref-uid-items.result.now in
    let ks = map deref (take c.loop-uid.uid-index items) in
    let more = next_key deref items c.loop-uid.uid-index c.uid-item.result c.loop-uid-test.true c.uid-item.is in
    let old = action_at c.loop-uid.actions in
    elim c.match-action.branch [
      | in-Some+in_ok-put_action w ↦ λ q.
          let x = application_view w.in-Some.action.now in
          let put = λ (p : Uid). w.in_ok-put_action.ensures.ok p ∙ ap (λ b. cond b (Some x) (old p)) (sym (uid_cmp_ties k p)) in
          ap (λ m. action_at m q) w.actions-is
          ∙ put_next same_uid uid_is same_uid_equiv.symm (application_at v.actions) ks k x old (action_at w.put_action.new.actions) (sym (w.in-Some.ensures)) put c.loop-uid.invariant q
          ∙ ap (λ l. so_far same_uid (application_at v.actions) l q) (sym more)
      | in_default w ↦ λ q.
          ap (λ m. action_at m q) w.actions-is
          ∙ skip_next same_uid uid_is same_uid_equiv.symm (application_at v.actions) ks k old (sym (w.in_default.ensures)) c.loop-uid.invariant q
          ∙ ap (λ l. so_far same_uid (application_at v.actions) l q) (sym more)
    ]

pub returns-clause-ok : goal.returns-clause-ok
returns-clause-ok c =
    let v = c.args.schema.now in
    let items = c.deref-uid-items.result.now in
    let over : length items ≤ c.loop-uid.uid-index = omega arith in
    let done : take c.loop-uid.uid-index items ≡ items = take_all c.loop-uid.uid-index items over in
    let was = λ (q : Uid). c.loop-uid.invariant q ∙ ap (λ l. so_far same_uid (application_at v.actions) (map deref l) q) done in
    let all = λ (q : Uid). ap (λ l. list_any (same_uid q) (map deref l)) c.deref-uid-items.ensures.value ∙ c.in_ok-uids.ensures (λ n. None) q in
    all_put same_uid uid_is same_uid_equiv.symm (application_at v.actions) (map deref items) (action_at c.loop-uid.actions) all was

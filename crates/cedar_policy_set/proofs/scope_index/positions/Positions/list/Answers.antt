-- One more position stands behind those that are there (Listing).
use Rattle.std.proofs.Common.{[], ap, sym, ◌∙◌, is_some}
use Rattle.std.specs.BTreeMap.{get}
use Rattle.std.specs.Option.{option_map_or}
use Rattle.std.proofs.lemmas.Result.{on_err_weaker}
use Rattle.cedar_language.specs.Order.{text_cmp}
use Rattle.cedar_policy_set.proofs.ListedPlaces.{alike_there, put_at, on_err, listed_behind, listed_none, said_of, still_some, still_full}
use Rattle.cedar_policy_set.proofs.scope_index.positions.Positions.list.Goals as goal

pub invariant_of-self : goal.invariant_of-self
invariant_of-self c =
    let m = c.args.self.now.by_id in
    let id = c.eid.result.now in
    let w = c.push.new.self in
    record {
      listing = still_some (get text_cmp m) (get text_cmp (c.get_mut.follows.lender w)) w id c.args.self.now.listing
          (still_full c.push.result c.in-Some.places.now.items w.items c.args.place c.push.ensures.items (c.args.self.now.listing id c.in-Some.places.now (sym c.in-Some.ensures.value)))
          (((c.get_mut.follows.holds w).3 (ap is_some (sym c.in-Some.ensures.value))).0);
    }

pub returns-in-None-clause-err : goal.returns-in-None-clause-err
returns-in-None-clause-err c =
    on_err_weaker c.list_first.result (λ same u. same u ∙ ap (λ m. option_map_or (λ v. v.items) (get text_cmp m u.id) []) c.get_mut.follows.holds-at-none) c.list_first.ensures.err

pub returns-in_err-push-in-Some-clause-err : goal.returns-in_err-push-in-Some-clause-err
returns-in_err-push-in-Some-clause-err c =
    let m = c.args.self.now.by_id in
    let id = c.eid.result.now in
    let v = c.in-Some.places.now in
    let w = c.push.new.self in
    on_err c.from_residual.result
    (λ u. listed_none (λ x. x.items) (get text_cmp m) (get text_cmp (c.get_mut.follows.lender w)) id v w c.args.place
    (λ t. put_at _ w (get text_cmp m t) id t (((c.get_mut.follows.holds w).3 (ap is_some (sym c.in-Some.ensures.value))).0 t))
    (λ t same. sym (alike_there m id t same) ∙ sym c.in-Some.ensures.value)
    c.in_err-push-in-Some.ensures.items
    u.id)

pub returns-in_ok-push-in-Some-clause-listed : goal.returns-in_ok-push-in-Some-clause-listed
returns-in_ok-push-in-Some-clause-listed c =
    let m = c.args.self.now.by_id in
    let id = c.eid.result.now in
    let w = c.push.new.self in
    let n = c.get_mut.follows.lender w in
    said_of (λ v. v.items) (get text_cmp m) (get text_cmp n) id c.args.uid.now.id c.args.place c.eid.ensures
    (listed_behind (λ v. v.items) (get text_cmp m) (get text_cmp n) id c.in-Some.places.now w c.args.place
    (λ t. put_at _ w (get text_cmp m t) id t (((c.get_mut.follows.holds w).3 (ap is_some (sym c.in-Some.ensures.value))).0 t))
    (λ t same. sym (alike_there m id t same) ∙ sym c.in-Some.ensures.value)
    c.in_ok-push-in-Some.ensures.items)

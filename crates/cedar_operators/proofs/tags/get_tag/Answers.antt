-- The tag of the entity that is held is the one that the facts have.
use Rattle.std.proofs.Common.{◌≡◌, ap, sym, subst, ◌∙◌}
use Rattle.std.specs.Rc.{rc_str_bytes}
use Rattle.cedar_language.specs.Value.{EntityDoesNotExist, Fails}
use Rattle.cedar_language.specs.Operators.{tag_of, tag_held}
use Rattle.cedar_extensions.specs.Giving.{Gives}
use Rattle.cedar_entities.specs.Held.{held_of}
use Rattle.cedar_value_operators.specs.Operands.{two}
use Rattle.cedar_operators.specs.Store.{IsFound}
use Rattle.cedar_operators.proofs.ByStore.{held_known, none_known}
use Rattle.cedar_operators.proofs.ByTag.{tag_is}
use Rattle.cedar_operators.proofs.Passing.{passed, fails_as}
use Rattle.cedar_operators.proofs.tags.get_tag.Goals as goal

pub returns-in_err-entity : goal.returns-in_err-entity
returns-in_err-entity c = λ facts f.
    passed (λ v. _) c.in_err-entity.field-0.0 c.from_residual-in_err-entity.result (λ k h. absurd h) c.from_residual-in_err-entity.ensures (c.in_err-entity.ensures facts f)

pub returns-in-Some : goal.returns-in-Some
returns-in-Some c = λ facts f.
    let uid = c.in_ok-uid.uid.now.value in
    let tag = rc_str_bytes c.in_ok-tag.tag.now in
    let h = subst (IsFound c.args.entities.now uid) c.in-Some.is (c.in_ok-entity.ensures facts f) in
    let k = held_known c.args.entities.now facts f uid (held_of c.in-Some.entity.now) h.0 in
    let meant = tag_is facts c.args.arg1.now c.args.arg2.now uid tag c.in_ok-uid.ensures c.in_ok-tag.ensures ∙ ap (tag_held tag) k.is in
    subst (Gives (λ v. v) ⊥ c.tag_of.result) (sym meant) (c.tag_of.ensures (k.shown.tag tag) (k.tags tag))

pub returns-in_ok-clone-in-None : goal.returns-in_ok-clone-in-None
returns-in_ok-clone-in-None c = λ facts f.
    let uid = c.in_ok-uid.uid.now.value in
    let tag = rc_str_bytes c.in_ok-tag.tag.now in
    let h = subst (IsFound c.args.entities.now uid) c.in-None.is (c.in_ok-entity.ensures facts f) in
    fails_as (λ k. tag_of facts (two c.args.arg1.now c.args.arg2.now) ≡ Fails k) c.entity_does_not_exist.result EntityDoesNotExist c.entity_does_not_exist.ensures.kind
    (tag_is facts c.args.arg1.now c.args.arg2.now uid tag c.in_ok-uid.ensures c.in_ok-tag.ensures ∙ ap (tag_held tag) (none_known c.args.entities.now facts f uid h))

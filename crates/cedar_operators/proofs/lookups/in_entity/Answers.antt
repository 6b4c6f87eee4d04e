-- What is held there is what the facts have.
use Rattle.std.proofs.Common.{◌≡◌, ap, ◌∙◌, subst}
use Rattle.cedar_language.specs.Operators.{attribute_held, or_fails}
use Rattle.cedar_language.specs.Value.{EntityAttrDoesNotExist}
use Rattle.cedar_entities.specs.Held.{held_of}
use Rattle.cedar_operators.specs.Store.{IsFound}
use Rattle.cedar_operators.proofs.ByStore.{held_known, none_known}
use Rattle.cedar_operators.proofs.ByLookup.{shows_on}
use Rattle.cedar_operators.proofs.Passing.{passed}
use Rattle.cedar_operators.proofs.lookups.in_entity.Goals as goal

pub returns-in-Some : goal.returns-in-Some
returns-in-Some c = λ facts f.
    let h = subst (IsFound c.args.entities.now c.args.uid.now.value) c.in-Some.is (c.in_ok-entity.ensures facts f) in
    let k = held_known c.args.entities.now facts f c.args.uid.now.value (held_of c.in-Some.entity.now) h.0 in
    shows_on (λ o. or_fails EntityAttrDoesNotExist (k.shown.attribute c.args.attr.now) ≡ o) (λ o. attribute_held c.args.attr.now (facts.entity c.args.uid.now.value) ≡ o) (λ o g. ap (attribute_held c.args.attr.now) k.is ∙ g) c.in_held.result (c.in_held.ensures (k.shown.attribute c.args.attr.now) (k.attributes c.args.attr.now))

pub returns-in-None : goal.returns-in-None
returns-in-None c = λ facts f.
    let h = subst (IsFound c.args.entities.now c.args.uid.now.value) c.in-None.is (c.in_ok-entity.ensures facts f) in
    ap (attribute_held c.args.attr.now) (none_known c.args.entities.now facts f c.args.uid.now.value h)

pub returns-in_err-entity : goal.returns-in_err-entity
returns-in_err-entity c = λ facts f.
    passed (λ l. _) c.in_err-entity.field-0.0 c.from_residual.result (λ k h. absurd h) c.from_residual.ensures (c.in_err-entity.ensures facts f)

-- An entity has what is held of it; no other value has attributes.
use Rattle.std.proofs.Common.{◌≡◌, refl, ◌∙◌}
use Rattle.cedar_language.specs.Value.{TypeError, Fails}
use Rattle.cedar_language.specs.Operators.{attribute, attribute_held}
use Rattle.cedar_operators.proofs.ByLookup.{gives_on, of_entity, of_others}
use Rattle.cedar_operators.proofs.Passing.{fails_as}
use Rattle.cedar_operators.proofs.lookups.find_in_entity.Goals as goal

pub returns-in-Some : goal.returns-in-Some
returns-in-Some c = λ facts f n.
    gives_on (λ o. attribute_held c.args.attr.now (facts.entity c.in-Some.uid.now.value) ≡ o) (λ o. attribute facts c.args.attr.now c.args.of.now ≡ o) (λ k. ⊥)
    (λ k. (attribute facts c.args.attr.now c.args.of.now ≡ Fails k) × (k ≡ TypeError)) (λ o g. of_entity facts c.args.attr.now c.args.of.now c.in-Some.uid.now.value c.in-Some.ensures ∙ g) (λ k h. absurd h) c.in_entity.result (c.in_entity.ensures facts f)

pub returns-in_ok-has_no_attributes-in-None : goal.returns-in_ok-has_no_attributes-in-None
returns-in_ok-has_no_attributes-in-None c = λ facts f n.
    fails_as (λ k. (attribute facts c.args.attr.now c.args.of.now ≡ Fails k) × (k ≡ TypeError)) c.in_ok-has_no_attributes-in-None.field-0 TypeError c.in_ok-has_no_attributes-in-None.ensures (of_others facts c.args.attr.now c.args.of.now n c.in-None.ensures, refl)

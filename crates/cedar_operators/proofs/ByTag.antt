-- Tags, by what the operands are.
use Rattle.std.proofs.Common.{◌≡◌, Option, None, Some, option_map, Result, Ok, Err, refl, ap, ◌∙◌}
use Rattle.either.specs.declared.Either.TheVariants.{Right}
use Rattle.cedar_language.specs.Uid.{Text, Uid}
use Rattle.cedar_language.specs.Tree.{Boolean, Long, String, Entity, Tree}
use Rattle.cedar_language.specs.Value as language
use Rattle.cedar_language.specs.Value.{Value, Plain, SetOf, RecordOf, ExtensionOf, EntityAttrDoesNotExist}
use Rattle.cedar_language.specs.Operators.{or_fails, tag_held, tag_of}
use Rattle.cedar_language.specs.Facts.{Facts}
use Rattle.cedar_extensions.specs.Failures.{failure_of}
use Rattle.cedar_extensions.specs.Giving.{Gives, GivesBy, fails_on}
use Rattle.cedar_extensions.specs.declared.evaluation_error.EvaluationError.{EvaluationError}
use Rattle.cedar_entities.specs.Attributes.{Attribute}
use Rattle.cedar_value_operators.specs.Operands.{uid_in, text_in, at_operand, two}
use Rattle.cedar_operators.proofs.ByLookup.{written}

entity_at : (facts : Facts) (u : Uid) (w : Value) → tag_of facts (two (Plain (Entity u)) w) ≡ at_operand (λ s. tag_held s (facts.entity u)) (text_in w)
entity_at facts u (Plain (Boolean b)) = refl
entity_at facts u (Plain (Long n)) = refl
entity_at facts u (Plain (String s)) = refl
entity_at facts u (Plain (Entity x)) = refl
entity_at facts u (SetOf vs) = refl
entity_at facts u (RecordOf ks vs) = refl
entity_at facts u (ExtensionOf x) = refl

pub tag_at : (facts : Facts) (v w : Value) → tag_of facts (two v w) ≡ at_operand (λ u. at_operand (λ s. tag_held s (facts.entity u)) (text_in w)) (uid_in v)
tag_at facts (Plain (Boolean b)) w = refl
tag_at facts (Plain (Long n)) w = refl
tag_at facts (Plain (String s)) w = refl
tag_at facts (Plain (Entity u)) w = entity_at facts u w
tag_at facts (SetOf vs) w = refl
tag_at facts (RecordOf ks vs) w = refl
tag_at facts (ExtensionOf x) w = refl

-- both operands are of the types that are taken
pub tag_is : (facts : Facts) (v w : Value) (u : Uid) (s : Text) → uid_in v ≡ Some u → text_in w ≡ Some s → tag_of facts (two v w) ≡ tag_held s (facts.entity u)
tag_is facts v w u s e f = tag_at facts v w ∙ ap (at_operand (λ x. at_operand (λ y. tag_held y (facts.entity x)) (text_in w))) e ∙ ap (at_operand (λ y. tag_held y (facts.entity u))) f

abbrev left_over : Tree → Attribute
left_over t = Right t

no_residual : (o : Option Value) (p : Attribute) (t : Tree) → Some p ≡ option_map written o → p ≡ left_over t → ⊥
no_residual None p t e h = cc
no_residual (Some w) p t e h = cc

-- what is told of the part that is held is what the facts have
pub told_gives : (o : Option Value) (p : Attribute) → Some p ≡ option_map written o → (r : Result Value EvaluationError) →
    GivesBy (λ v. p ≡ written v) (λ k. (t : Tree) × (p ≡ left_over t)) ⊥ r → Gives (λ v. v) ⊥ r (or_fails EntityAttrDoesNotExist o)
told_gives None p e r h = absurd (cc)
told_gives (Some w) p e (Ok v) h = let same : w ≡ v = cc in ap language.Gives same
told_gives (Some w) p e (Err x) h = fails_on (failure_of x) (λ k g. absurd (no_residual (Some w) p g.0 e g.1)) (λ d. d) h

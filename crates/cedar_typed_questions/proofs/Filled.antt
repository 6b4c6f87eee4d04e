-- Under a filling that conforms, a policy stands as in any request of the schema.
use Rattle.std.proofs.Common.{◌≡◌, Bool, true, false, [], sym, ap, ◌∙◌, subst}
use Rattle.cedar_language.specs.Tree.{Boolean}
use Rattle.cedar_language.specs.Value.{Plain, Kind, Outcome, Gives, Fails}
use Rattle.cedar_language.specs.Facts.{Facts}
use Rattle.cedar_language.specs.Meaning.{Request, meaning}
use Rattle.cedar_language.specs.Answering.{Standing, Satisfied, Erring}
use Rattle.cedar_language.specs.Authorization.{standing_of}
use Rattle.cedar_typing.specs.Types.{AlwaysFalse, Booleans}
use Rattle.cedar_typing.specs.Capabilities.{Capabilities}
use Rattle.cedar_typing.specs.Schema.{Schema}
use Rattle.cedar_typing.specs.Conforming.{Conforms}
use Rattle.cedar_typing.specs.Validated.{TypesAllow, IsSound, TypesAreSound, IsBooleanOrAllowed, ValidatedPoliciesErrOnlyBy}
use Rattle.cedar_partial_evaluation.specs.Filling.{request_filled}
use Rattle.cedar_typed_questions.specs.Filled.{FilledPoliciesStand, FilledImpossiblesAreNeverSatisfied}

kind_in : Standing → Kind → Kind
kind_in (Erring k) l = k
kind_in _ l = l

boolean_stands : (b : Bool) (k : Kind) → standing_of (Gives (Plain (Boolean b))) ≡ Erring k → TypesAllow k
boolean_stands true k h = absurd (cc h)
boolean_stands false k h = absurd (cc h)

stands_allowed : (o : Outcome) → IsBooleanOrAllowed o → (k : Kind) → standing_of o ≡ Erring k → TypesAllow k
unfolding kind_in
stands_allowed (Gives v) h k s = boolean_stands h.0 k (sym (ap (λ w. standing_of (Gives w)) h.1) ∙ s)
stands_allowed (Fails l) h k s = subst TypesAllow (ap (λ t. kind_in t l) s) h

pub filled_policies_stand : ValidatedPoliciesErrOnlyBy → FilledPoliciesStand
filled_policies_stand law schema facts conforms may p valid q filling known f k s =
    stands_allowed (meaning facts (request_filled known p.slots filling) p.condition)
    (law schema facts conforms may p.condition valid f.environment f.is_environment (request_filled known p.slots filling) f.is_request) k s

false_stands : (b : Bool) → b ≡ false → standing_of (Gives (Plain (Boolean b))) ≡ Satisfied → ⊥
false_stands true e h = cc e
false_stands false e h = cc h

not_satisfied : (facts : Facts) (request : Request) (d : Capabilities) (o : Outcome) → IsSound facts request (Booleans AlwaysFalse) d o → standing_of o ≡ Satisfied → ⊥
not_satisfied facts request d (Gives v) h s = false_stands h.0.0 h.0.2 (sym (ap (λ w. standing_of (Gives w)) h.0.1) ∙ s)
not_satisfied facts request d (Fails k) h s = cc s

schema_conforms : (s r : Schema) (facts : Facts) → s ≡ r → Conforms s facts → Conforms r facts
schema_conforms s r facts h k = subst (λ x. Conforms x facts) h k

pub filled_impossibles_are_never_satisfied : TypesAreSound → FilledImpossiblesAreNeverSatisfied
filled_impossibles_are_never_satisfied law schema facts conforms may p impossible q filling known f s =
    let h = impossible f.environment f.is_environment in
    let asked = request_filled known p.slots filling in
    not_satisfied facts asked h.0 (meaning facts asked p.condition)
    (law f.environment facts asked (schema_conforms schema f.environment.schema facts (sym f.is_environment.of) conforms) f.is_request p.condition [] h.0 (Booleans AlwaysFalse) tt h.1) s

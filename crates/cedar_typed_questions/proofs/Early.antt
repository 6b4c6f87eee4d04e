-- What is settled and answered is what is meant under a filling, which typing knows.
use Rattle.std.proofs.Common.{◌≡◌, true, false, refl, sym, ap, ◌∙◌}
use Rattle.cedar_language.specs.Tree.{Boolean}
use Rattle.cedar_language.specs.Value.{Value, Plain, Outcome, Gives, Fails}
use Rattle.cedar_language.specs.Facts.{Facts}
use Rattle.cedar_language.specs.Meaning.{meaning}
use Rattle.cedar_language.specs.Answering.{Satisfied}
use Rattle.cedar_language.specs.Authorization.{standing_of}
use Rattle.cedar_typing.specs.Validated.{IsBooleanOrAllowed, ValidatedPoliciesErrOnlyBy}
use Rattle.cedar_partial_evaluation.specs.Settling.{Settling, Open, Errs, Is, LeafSettlings, Below, kindless, settled_in}
use Rattle.cedar_partial_evaluation.specs.Partial.{Answer, Evaluated, ResidualTree, Failed, partial_in}
use Rattle.cedar_partial_evaluation.specs.Fair.{read}
use Rattle.cedar_partial_evaluation.specs.Question.{settled_of, held_of}
use Rattle.cedar_partial_evaluation.specs.Filling.{filled, request_filled, FilledIsMeant, AnswersAreFair}
use Rattle.cedar_partial_evaluation.specs.Telling.{SettledIsMeant}
use Rattle.cedar_partial_evaluation.specs.Early.{standing_of_answer}
use Rattle.cedar_typed_questions.specs.Filled.{FilledImpossiblesAreNeverSatisfied}
use Rattle.cedar_typed_questions.specs.Early.{GivesBoolean, FailsAsAllowed, SettlesByType, LeavesByType, AnswersByType, ValidPoliciesSettleByType, ValidPoliciesAreAnsweredByType, ImpossiblePoliciesAreNotSatisfiedEarly}

gives : (v : Value) (o : Outcome) → IsBooleanOrAllowed o → Is v ≡ kindless o → GivesBoolean v o
gives v (Gives w) h e = let same : v ≡ w = cc e in (h.0, same ∙ h.1, ap Gives (sym same))
gives v (Fails k) h e = absurd (cc e)

fails : (o : Outcome) → IsBooleanOrAllowed o → Errs ≡ kindless o → FailsAsAllowed o
fails (Gives w) h e = absurd (cc e)
fails (Fails k) h e = (k, h, refl)

settles : (s t : Settling) (o : Outcome) → IsBooleanOrAllowed o → Below s t → t ≡ kindless o → SettlesByType s o
settles Open t o h b e = h
settles Errs t o h b e = fails o h (b ∙ e)
settles (Is v) t o h b e = gives v o h (b ∙ e)

pub valid_policies_settle_by_type : ValidatedPoliciesErrOnlyBy → SettledIsMeant → FilledIsMeant → ValidPoliciesSettleByType
valid_policies_settle_by_type typed settled meant schema facts conforms made may p valid q told filling known told_made accepted c f =
    settles (settled_in facts (settled_of facts q p.slots told) p.condition) (settled_in facts (filled facts q p.slots filling) p.condition)
    (meaning facts (request_filled known p.slots filling) p.condition)
    (typed schema facts conforms may p.condition valid f.environment f.is_environment (request_filled known p.slots filling) f.is_request)
    (settled facts made q p.slots told filling known c.keeps told_made accepted f.fills p.condition c.gives)
    (meant facts q p.slots filling known f.fills p.condition c.gives)

leaves : (s : Settling) (o : Outcome) → IsBooleanOrAllowed o → s ≡ kindless o → LeavesByType s o
leaves s (Gives v) h e = (h.0, h.1, e)
leaves s (Fails k) h e = (h, e)

answers : (facts : Facts) (around : LeafSettlings) (a : Answer) (o : Outcome) → IsBooleanOrAllowed o → read facts around a ≡ kindless o → AnswersByType facts around a o
answers facts around (Evaluated v) o h e = gives v o h e
answers facts around (ResidualTree r) o h e = leaves (settled_in facts around r) o h e
answers facts around (Failed k) o h e = fails o h e

pub valid_policies_are_answered_by_type : ValidatedPoliciesErrOnlyBy → AnswersAreFair → FilledIsMeant → ValidPoliciesAreAnsweredByType
valid_policies_are_answered_by_type typed fair meant schema facts conforms made may p valid q told filling known told_made c f =
    answers facts (filled facts q p.slots filling) (partial_in facts (held_of facts q p.slots told) p.condition)
    (meaning facts (request_filled known p.slots filling) p.condition)
    (typed schema facts conforms may p.condition valid f.environment f.is_environment (request_filled known p.slots filling) f.is_request)
    (sym (fair facts made q p.slots told filling known c.keeps told_made f.fills p.condition c.gives) ∙ meant facts q p.slots filling known f.fills p.condition c.gives)

-- ---- impossible policies

standing_given : (v : Value) (o : Outcome) → Is v ≡ kindless o → standing_of (Gives v) ≡ standing_of o
standing_given v (Gives w) e = let same : v ≡ w = cc e in ap (λ x. standing_of (Gives x)) same
standing_given v (Fails k) e = absurd (cc e)

satisfied_value : (v : Value) → standing_of_answer (Evaluated v) ≡ Satisfied → standing_of (Gives v) ≡ Satisfied
satisfied_value (Plain (Boolean true)) e = refl
satisfied_value (Plain (Boolean false)) e = absurd (cc e)
satisfied_value _ e = absurd (cc e)

satisfied_early : (facts : Facts) (around : LeafSettlings) (a : Answer) (o : Outcome) → read facts around a ≡ kindless o → standing_of_answer a ≡ Satisfied → standing_of o ≡ Satisfied
satisfied_early facts around (Evaluated v) o e s = sym (standing_given v o e) ∙ satisfied_value v s
satisfied_early facts around (ResidualTree r) o e s = absurd (cc s)
satisfied_early facts around (Failed k) o e s = absurd (cc s)

pub impossible_policies_are_not_satisfied_early : FilledImpossiblesAreNeverSatisfied → AnswersAreFair → FilledIsMeant → ImpossiblePoliciesAreNotSatisfiedEarly
impossible_policies_are_not_satisfied_early never fair meant schema facts conforms made may p impossible q told filling known told_made c f s =
    never schema facts conforms may p impossible q filling known f
    (satisfied_early facts (filled facts q p.slots filling) (partial_in facts (held_of facts q p.slots told) p.condition)
    (meaning facts (request_filled known p.slots filling) p.condition)
    (sym (fair facts made q p.slots told filling known c.keeps told_made f.fills p.condition c.gives) ∙ meant facts q p.slots filling known f.fills p.condition c.gives) s)

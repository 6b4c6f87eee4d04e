-- What is told of the faults of a body.
use Rattle.std.proofs.Common.{◌≡◌, ◌⊎◌, ◌==◌, false, length, List, [], ◌∷◌, ◌++◌, inl, inr, refl, sym, ap, subst, ◌∙◌}
use Rattle.std.proofs.lemmas.List.{append-nil}
use Rattle.cedar_language.specs.Uid.{Text}
use Rattle.cedar_parser.specs.declared.restricted.RestrictedExpressionParseError.{RestrictedExpressionParseError}
use Rattle.cedar_parser.specs.declared.restricted.RestrictedExpressionParseError.TheVariants as parse
use Rattle.cedar_restricted.specs.declared.errors.RestrictedExpressionError.TheVariants as refused
use Rattle.cedar_world.specs.Commands.{Refusal}
use Rattle.cedar_world.specs.Setting.{Setting}
use Rattle.cedar_messages.specs.declared.fault.Fault.{Fault}
use Rattle.cedar_messages.specs.Faults.{reach, start_of, Tells}
use Rattle.cedar_messages.specs.Telling.{TellsEach, TellsOf}
use Rattle.cedar_messages.proofs.FaultsTold.{told_of_errors}
use Rattle.cedar_refusals.specs.Reasons.{AreOfBody, IsOne, ShowsBody, ShowsPart}
use Rattle.cedar_refusals.specs.RefusedBodies.{IsBodyWithin, TellsBody, TellsOfAPart, TellsUnread, a_part, unread}

one_told : (name : Text) (faults : List Fault) (told : Text) → IsOne faults → TellsEach (Tells name) faults told → TellsOfAPart name told
one_told name faults told is lines =
    let place = start_of (reach is.0) in
    let h = subst (λ (fs : List Fault). TellsEach (Tells name) fs told) is.1 lines in
    (place, subst (TellsOf name place) (sym (h.4 ∙ (ap (λ (o : Text). h.0 ++ o) h.3 ∙ append-nil h.0))) h.2)

error_told : (name text : Text) (error : RestrictedExpressionParseError) (faults : List Fault) (told : Text) → AreOfBody text error faults
    → TellsEach (Tells name) faults told
    → TellsUnread name text error told
error_told name text (parse.Parse errors) faults told are lines = (are.0, told_of_errors name text errors faults faults told refl are.1 lines)
error_told name text (parse.InvalidRestrictedExpression (refused.InvalidRestrictedExpression e)) faults told are lines = one_told name faults told are lines
error_told name text (parse.InvalidRestrictedExpression (refused.Memory e)) faults told are lines = absurd are

part_told : (by : Setting) (name text : Text) (r : Refusal) (faults : List Fault) (told : Text) → IsBodyWithin by text → (faults ≡ [] → ⊥)
    → TellsEach (Tells name) faults told → ShowsPart r faults
    → TellsBody by name text r told
part_told by name text r faults told is some lines (inl none) = absurd (some none)
part_told by name text r faults told is some lines (inr one) = a_part is one.0 (one_told name faults told one.1 lines)

-- what is told of some faults of a body that is so refused
pub told_of_body : (by : Setting) (name text : Text) (r : Refusal) (faults : List Fault) (told : Text) → (faults ≡ [] → ⊥)
    → TellsEach (Tells name) faults told → ShowsBody by text r faults
    → TellsBody by name text r told
told_of_body by name text r faults told some lines (inl h) = unread h.0 h.1 (error_told name text h.0 faults told h.2 lines)
told_of_body by name text r faults told some lines (inr h) = part_told by name text r faults told h.0 some lines h.1

some_unread : (text : Text) (error : RestrictedExpressionParseError) (faults : List Fault) → faults ≡ [] → AreOfBody text error faults → ⊥
some_unread text (parse.Parse errors) [] none are = absurd (cc (are.1))
some_unread text (parse.Parse errors) (f ∷ fs) none are = absurd (cc)
some_unread text (parse.InvalidRestrictedExpression (refused.InvalidRestrictedExpression e)) faults none are = absurd (cc (none, are.1))
some_unread text (parse.InvalidRestrictedExpression (refused.Memory e)) faults none are = are

-- a text without faults is a body
pub body_if_none : (by : Setting) (text : Text) (r : Refusal) (faults : List Fault) → faults ≡ [] → ShowsBody by text r faults → IsBodyWithin by text
body_if_none by text r faults none (inl h) = absurd (some_unread text h.0 faults none h.2)
body_if_none by text r faults none (inr h) = h.0

pub some_left : (faults : List Fault) → (length faults == 0) ≡ false → faults ≡ [] → ⊥
some_left [] h none = absurd (cc (h))
some_left (f ∷ fs) h none = absurd (cc (none))

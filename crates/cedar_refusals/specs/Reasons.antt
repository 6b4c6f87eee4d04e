-- Faults that show why a command is refused.
use Rattle.std.specs.Prelude.{◌≡◌, ◌⊎◌, ℕ, List, [], ◌∷◌, true, Option, Some, Ok, Err, IsUtf8}
use Rattle.std.specs.Str.Lossy.{utf8_valid_len}
use Rattle.cedar_language.specs.Uid.{Text}
use Rattle.cedar_frames.specs.declared.verb.Verb.{Verb}
use Rattle.cedar_frames.specs.declared.verb.Verb.TheVariants as verbs
use Rattle.cedar_grammar.specs.Functions.{body_names, policy_names}
use Rattle.cedar_parser.specs.Strict.{ReadsRestricted, ReadsSet}
use Rattle.cedar_parser.specs.declared.errors.ParseErrors.{ParseErrors}
use Rattle.cedar_parser.specs.declared.restricted.RestrictedExpressionParseError.{RestrictedExpressionParseError}
use Rattle.cedar_parser.specs.declared.restricted.RestrictedExpressionParseError.TheVariants as parse
use Rattle.cedar_policy_set.specs.declared.sets.PolicySet.{PolicySet}
use Rattle.cedar_restricted.specs.declared.errors.RestrictedExpressionError.TheVariants as refused
use Rattle.cedar_world.specs.Commands.{Refusal}
use Rattle.cedar_world.specs.Setting.{Setting}
use Rattle.cedar_messages.specs.declared.fault.Fault.{Fault}
use Rattle.cedar_messages.specs.Faults.{reach, start_of, AreUnread}
use Rattle.cedar_messages.specs.Places.{position_at}
use Rattle.cedar_refusals.specs.Checks.{IsUnread}
use Rattle.cedar_refusals.specs.RefusedBodies.{is_for_a_part, IsBodyWithin}

abbrev pub IsOne : List Fault → Type 0
IsOne faults = (fault : Fault) × (faults ≡ fault ∷ [])

abbrev pub AreAtMostOne : List Fault → Type 0
AreAtMostOne faults = (faults ≡ []) ⊎ IsOne faults

-- bytes are no text: the fault stands at this one
abbrev pub ShowsNoText : Text → ℕ → List Fault → Type 0
ShowsNoText bytes byte faults = (fault : Fault) × (faults ≡ fault ∷ []) × (start_of (reach fault) ≡ Some (position_at bytes byte))

-- A text is read as policies, and has no fault; or it isn't, and each error is one, in order: want of memory is none.
abbrev pub ShowsPolicies : Setting → Text → List Fault → Type 0
ShowsPolicies by text faults =
    ((set : PolicySet) × ReadsSet (policy_names by.functions) by.depth text (Ok set) × (faults ≡ []))
    ⊎ ((errors : ParseErrors) × IsUnread by text errors × AreUnread text errors faults)

-- the faults of an error by which a text is no body: each that it has, in order, or the part that may not stand there
abbrev pub AreOfBody : Text → RestrictedExpressionParseError → List Fault → Type 0
AreOfBody text (parse.Parse errors) faults = AreUnread text errors faults
AreOfBody text (parse.InvalidRestrictedExpression (refused.InvalidRestrictedExpression e)) faults = IsOne faults
AreOfBody text (parse.InvalidRestrictedExpression (refused.Memory e)) faults = ⊥

-- the text isn't read as a body, and these are the faults by which it isn't
abbrev pub ShowsUnread : Setting → Text → List Fault → Type 0
ShowsUnread by text faults =
    (error : RestrictedExpressionParseError) × ReadsRestricted (body_names by.functions) by.depth text (Err error) × AreOfBody text error faults

-- the part for which a body is so refused, if it is for one and one is found
abbrev pub ShowsPart : Refusal → List Fault → Type 0
ShowsPart r faults = (faults ≡ []) ⊎ ((is_for_a_part r ≡ true) × IsOne faults)

-- why a body is so refused
abbrev pub ShowsBody : Setting → Text → Refusal → List Fault → Type 0
ShowsBody by text r faults = ShowsUnread by text faults ⊎ (IsBodyWithin by text × ShowsPart r faults)

-- why a body is refused, if it is
abbrev pub FindsBody : Setting → Text → List Fault → Type 0
FindsBody by text faults = ShowsUnread by text faults ⊎ (IsBodyWithin by text × AreAtMostOne faults)

-- Why the command of a verb and a text is refused: of a load its errors; of another the body's, unless no question is open
-- that a `tell` could be of.
pub data ShowsText (by : Setting) (verb : Verb) (text : Text) (faults : List Fault) : Type 0 where
  of_policies : verb ≡ verbs.Load → ShowsPolicies by text faults → ShowsText by verb text faults
  of_body : (verb ≡ verbs.Load → ⊥) → FindsBody by text faults → ShowsText by verb text faults
  of_no_question : verb ≡ verbs.Tell → faults ≡ [] → ShowsText by verb text faults

-- The same of bytes, which may be no text.
abbrev pub ShowsWhy : Setting → Verb → Text → List Fault → Type 0
ShowsWhy by verb bytes faults =
    ((IsUtf8 bytes → ⊥) × ShowsNoText bytes (utf8_valid_len bytes) faults) ⊎ (IsUtf8 bytes × ShowsText by verb bytes faults)

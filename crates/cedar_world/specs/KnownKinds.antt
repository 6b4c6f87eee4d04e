-- Which kinds of errors an answer to a known question doesn't name. (Cedar language reference, "Semantics of operators".)
use Rattle.std.specs.Prelude.{◌≡◌, ⊤, true, List, Contains}
use Rattle.cedar_language.specs.Uid.{Text}
use Rattle.cedar_language.specs.Value.{Kind, FailedExtensionFunctionLookup, UnlinkedSlot, Outcome, Gives, Fails}
use Rattle.cedar_language.specs.Facts.{Facts}
use Rattle.cedar_language.specs.Authorization.{Known}
use Rattle.cedar_grammar.specs.Bindings.{Bindings, linked, binds_exactly}
use Rattle.cedar_grammar.specs.Syntax.{PolicySyntax, condition}
use Rattle.cedar_world.specs.World.{Entities, AreFacts}
use Rattle.cedar_world.specs.Setting.{Setting, ArePolicies, means}

-- neither a failed look-up of a function nor a slot that isn't linked
abbrev pub IsOrdinary : Kind → Type 0
IsOrdinary FailedExtensionFunctionLookup = ⊥
IsOrdinary UnlinkedSlot = ⊥
IsOrdinary k = ⊤

-- no failed look-up of a function
abbrev pub IsFound : Kind → Type 0
IsFound FailedExtensionFunctionLookup = ⊥
IsFound k = ⊤

abbrev pub ErrsOrdinarily : Outcome → Type 0
ErrsOrdinarily (Gives v) = ⊤
ErrsOrdinarily (Fails k) = IsOrdinary k

-- A policy of a text, its slots bound, means no other error for a known question, whatever entities are held.
abbrev pub TextsErrOrdinarily : Type 0
TextsErrOrdinarily =
    (by : Setting) (entities : Entities) (facts : Facts) → AreFacts by.functions entities facts
    → (text : Text) (ss : List PolicySyntax) → ArePolicies by text ss
    → (s : PolicySyntax) → Contains ss s → (b : Bindings) → binds_exactly b s ≡ true
    → (request : Known) → ErrsOrdinarily (means facts request (condition (linked b s)))

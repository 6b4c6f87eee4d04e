-- A value that is tested and is no Boolean.
use Rattle.std.proofs.Common.{◌≡◌, None, refl, sym, ◌∙◌, ap, subst}
use Rattle.std.specs.Prelude.{⊤}
use Rattle.cedar_language.specs.Tree.{Boolean, Long, String, Entity}
use Rattle.cedar_language.specs.Value.{Value, Kind, Plain, SetOf, RecordOf, ExtensionOf, TypeError}
use Rattle.cedar_partial_evaluation.specs.Partial.{Answer, Evaluated, Failed}
use Rattle.cedar_extensions.specs.Failures.{Failure, OfKind}
use Rattle.cedar_extensions.specs.Giving.{FailsBy}
use Rattle.cedar_values.specs.Readers.{boolean_in}
use Rattle.cedar_interpreter.specs.Meeting.{tested_answer}

other_value : (v : Value) → boolean_in v ≡ None → tested_answer (Evaluated v) ≡ Failed TypeError
other_value (Plain (Boolean x)) e = absurd (cc e)
other_value (Plain (Long n)) e = refl
other_value (Plain (String t)) e = refl
other_value (Plain (Entity u)) e = refl
other_value (SetOf vs) e = refl
other_value (RecordOf ks vs) e = refl
other_value (ExtensionOf x) e = refl

-- an answer that is such a value fails by its type
pub no_boolean : (v : Value) (b : Answer) (f : Failure) → boolean_in v ≡ None → b ≡ Evaluated v → f ≡ OfKind TypeError → FailsBy ⊤ (λ (k : Kind). tested_answer b ≡ Failed k) f
no_boolean v b f e is kind = subst (FailsBy ⊤ (λ (k : Kind). tested_answer b ≡ Failed k)) (sym kind) (ap tested_answer is ∙ other_value v e)

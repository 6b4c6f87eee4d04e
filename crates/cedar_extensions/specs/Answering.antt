-- What functions of a caller's answer. (Cedar language reference, "Extension functions".)
use Rattle.std.specs.Prelude.{◌≡◌, ◌<◌, ⊤, Option, Some, None, Result, Ok, Err}
use Rattle.std.specs.List.{AllByRecursion}
use Rattle.cedar_language.specs.Order.{IsRising}
use Rattle.cedar_language.specs.Value.{Value, Plain, SetOf, RecordOf, ExtensionOf, Values, no_values, a_value}
use Rattle.cedar_extensions.specs.declared.objects.CallError.{CallError}
use Rattle.cedar_extensions.specs.declared.objects.CallError.TheVariants.{NoAnswer, Memory}

-- literals, sets that rise, records of such values, and extension values with keys of bytes
abbrev mutual
  pub IsBuilt : Value → Type 0
  IsBuilt (Plain l) = Unit {0}
  IsBuilt (SetOf vs) = IsRising vs × AreBuilt vs
  IsBuilt (RecordOf ks vs) = AreBuilt vs
  IsBuilt (ExtensionOf e) = AllByRecursion (λ b. b < 256) e.key

  pub AreBuilt : Values → Type 0
  AreBuilt no_values = Unit {0}
  AreBuilt (a_value v vs) = IsBuilt v × AreBuilt vs

-- what a function gives, where it gives a value: what any `Value` of code is
pub record FunctionAnswers : Type 0 where
  pub given : Values → Option Value
  pub built : (vs : Values) (v : Value) → given vs ≡ Some v → IsBuilt v

pub none_built : (v : Value) → None ≡ Some v → IsBuilt v
none_built v is = cc

abbrev pub no_answers : FunctionAnswers
no_answers = record { given = λ vs. None; built = λ vs v is. none_built v is }

-- a call gave that, or was refused because there is nothing to give, or for memory
abbrev pub Answered : Option Value → Result Value CallError → Type 0
Answered o (Ok v) = o ≡ Some v
Answered o (Err (NoAnswer msg)) = o ≡ None
Answered o (Err (Memory e)) = ⊤

-- What `between` answers.
use Rattle.std.specs.Prelude.{◌≡◌, ℤ, int_le, Bool, ◌&&◌, Option, Some, None, option_map}
use Rattle.cedar_language.specs.Tree.{Boolean}
use Rattle.cedar_language.specs.Value.{Value, Plain, Values, no_values, a_value}
use Rattle.cedar_expressions.specs.FunctionAnswering.{FunctionAnswers, IsBuilt}
use Rattle.cedar_expressions.specs.ValueReaders.{long_in}

abbrev pub between_longs : Option ℤ → Option ℤ → Option ℤ → Option Bool
between_longs (Some low) (Some x) (Some high) = Some (int_le low x && int_le x high)
between_longs low x high = None

-- whether the second of three longs is no less than the first and no more than the third; of anything else nothing
abbrev pub between : Values → Option Bool
between (a_value low (a_value x (a_value high no_values))) = between_longs (long_in low) (long_in x) (long_in high)
between vs = None

-- ---- functions that give Booleans

abbrev pub boolean_value : Bool → Value
boolean_value b = Plain (Boolean b)

pub booleans_built : (o : Option Bool) (v : Value) → option_map boolean_value o ≡ Some v → IsBuilt v
booleans_built (Some b) (Plain l) is = tt
booleans_built o v is = cc

abbrev pub boolean_answers : (Values → Option Bool) → FunctionAnswers
boolean_answers f = record {
  given = λ vs. option_map boolean_value (f vs);
  built = λ vs. booleans_built (f vs);
}

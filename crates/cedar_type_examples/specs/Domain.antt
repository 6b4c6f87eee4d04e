-- What `domain` answers.
use Rattle.std.specs.Prelude.{◌≡◌, ℕ, ◌==◌, cond, [], ◌∷◌, Option, Some, None, option_map}
use Rattle.std.specs.Option.{option_or}
use Rattle.cedar_language.specs.Uid.{Text}
use Rattle.cedar_language.specs.Tree.{String}
use Rattle.cedar_language.specs.Value.{Value, Plain, Values}
use Rattle.cedar_expressions.specs.FunctionAnswering.{FunctionAnswers, IsBuilt}
use Rattle.cedar_extension_types.specs.Types.{onward, text_alone}

-- the byte of `@`
abbrev pub at_sign : ℕ
at_sign = 64

-- what stands behind the last `@` of a text; of one without it nothing
abbrev pub domain_of : Text → Option Text
domain_of [] = None
domain_of (b ∷ bs) = option_or (domain_of bs) (cond (b == at_sign) (Some bs) None)

-- that of the one argument, which is a text; of anything else nothing
abbrev pub domain_alone : Values → Option Text
domain_alone vs = onward domain_of (text_alone vs)

-- ---- functions that give texts

abbrev pub text_value : Text → Value
text_value t = Plain (String t)

pub texts_built : (o : Option Text) (v : Value) → option_map text_value o ≡ Some v → IsBuilt v
texts_built (Some t) (Plain l) is = tt
texts_built o v is = cc

abbrev pub text_answers : (Values → Option Text) → FunctionAnswers
text_answers f = record {
  given = λ vs. option_map text_value (f vs);
  built = λ vs. texts_built (f vs);
}

-- What is found of each part.
use Rattle.std.specs.Prelude.{◌≡◌, ⊤, Bool, true, false, List, [], ◌∷◌, map, Option, None, Result}
use Rattle.std.specs.Global.{Vec}
use Rattle.either.specs.declared.Either.{Either}
use Rattle.either.specs.declared.Either.TheVariants.{Left, Right}
use Rattle.cedar_language.specs.Uid.{Text, Name}
use Rattle.cedar_language.specs.Tree.{String, Tree, Unknown}
use Rattle.cedar_language.specs.Value.{Value, Plain, Values, Gives, Fails, Kind}
use Rattle.cedar_language.specs.Facts.{Function, Facts}
use Rattle.cedar_language.specs.Operators.{called}
use Rattle.cedar_language.specs.Restricted.{is_restricted}
use Rattle.cedar_partial_evaluation.specs.Partial.{Evaluated, ResidualTree, Failed, SomeFailed}
use Rattle.cedar_grammar.specs.Build.{trees}
use Rattle.cedar_grammar.specs.Functions.{is_the_unknown}
use Rattle.cedar_extensions.specs.Giving.{GivesBy}
use Rattle.cedar_extensions.specs.declared.evaluation_error.EvaluationError.{EvaluationError}
use Rattle.cedar_extensions.specs.Table.{Table}
use Rattle.cedar_restricted.specs.Expressing.{is_ground}
use Rattle.cedar_restricted.specs.PartialValues.{partial_of}
use Rattle.cedar_restricted.specs.declared.partial_values.PartialValue.{PartialValue}
use Rattle.cedar_restricted_evaluation.specs.Evaluations.{HasFunctions, answer_in, answers_in}

-- ---- calls

-- a value is what the function gives, and an unknown is named by the text that the built-in function gives
abbrev pub IsCalledBy : Option Function → Bool → Name → Values → Either Value Tree → Type 0
IsCalledBy function has_unknown n vs (Left v) = record {
  gives : called function vs ≡ Gives v;
  other : is_the_unknown n ≡ false;
}
IsCalledBy function has_unknown n vs (Right r) = record {
  name : Text;
  unknown : r ≡ Unknown name None;
  gives : called function vs ≡ Gives (Plain (String name));
  built_in : is_the_unknown n ≡ true;
  held : has_unknown ≡ true;
}

-- the answer of this function, which the name calls; whether the built-in function is among those that names call
abbrev pub CallsBy : Option Function → Bool → Name → Values → Result PartialValue EvaluationError → Type 0
CallsBy function has_unknown n vs result = GivesBy (λ p. IsCalledBy function has_unknown n vs (partial_of p)) (λ k. called function vs ≡ Fails k) ⊥ result

abbrev pub IsCalled : Table → Name → Values → Either Value Tree → Type 0
IsCalled table n vs p = IsCalledBy (table.function n) table.has_unknown n vs p

abbrev pub Calls : Table → Name → Values → Result PartialValue EvaluationError → Type 0
Calls table n vs result = CallsBy (table.function n) table.has_unknown n vs result

-- ---- trees

abbrev pub IsFound : Table → Tree → Either Value Tree → Type 0
IsFound table t (Left v) = (facts : Facts) → HasFunctions table facts → answer_in table facts t ≡ Evaluated v
IsFound table t (Right r) = record {
  answer : (facts : Facts) → HasFunctions table facts → answer_in table facts t ≡ ResidualTree r;
  restricted : is_restricted r ≡ true;
  waits : is_ground r ≡ false;
}

abbrev pub Errs : Table → Tree → Kind → Type 0
Errs table t k = (facts : Facts) → HasFunctions table facts → answer_in table facts t ≡ Failed k

abbrev pub Evaluates : Table → Tree → Type 0 → Result PartialValue EvaluationError → Type 0
Evaluates table t deep result = GivesBy (λ p. IsFound table t (partial_of p)) (Errs table t) deep result

-- ---- trees one after another

-- each is found, at its place
abbrev pub AreFound : Table → List Tree → List (Either Value Tree) → Type 0
AreFound table [] [] = ⊤
AreFound table (t ∷ ts) (p ∷ ps) = IsFound table t p × AreFound table ts ps
AreFound table ts ps = ⊥

abbrev pub SomeErrs : Table → List Tree → Kind → Type 0
SomeErrs table ts k = (facts : Facts) → HasFunctions table facts → answers_in table facts (trees ts) ≡ SomeFailed k

abbrev pub EvaluateAll : Table → List Tree → Type 0 → Result (Vec PartialValue) EvaluationError → Type 0
EvaluateAll table ts deep result = GivesBy (λ ps. AreFound table ts (map partial_of ps.items)) (SomeErrs table ts) deep result

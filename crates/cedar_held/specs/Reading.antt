-- What is answered of the trees of a body, against what is refused of them.
use Rattle.std.specs.Prelude.{◌≡◌, Bool, true, false, Some}
use Rattle.std.specs.FinMap as map
use Rattle.cedar_language.specs.Uid.{Name}
use Rattle.cedar_language.specs.Tree.{Tree}
use Rattle.cedar_language.specs.Value.{Gives}
use Rattle.cedar_language.specs.Restricted.{is_restricted}
use Rattle.cedar_partial_evaluation.specs.Partial.{Answer, Evaluated, ResidualTree, Failed}
use Rattle.cedar_grammar.specs.UnknownCalls.{named, holds_call}
use Rattle.cedar_grammar.specs.Functions.{is_the_unknown, unknown_function}
use Rattle.cedar_world.specs.Setting.{Setting, functions_alone, value_of}
use Rattle.cedar_world.specs.Values.{holds_unknown, errs_alone}
use Rattle.cedar_extensions.specs.Table.{Table, HasFunctions}
use Rattle.cedar_restricted_evaluation.specs.Evaluations.{answer_in}

-- The functions are those of the table, and `unknown` isn't called where the table lacks it.
pub record Serves (table : Table) (by : Setting) (calls_unknown : Bool) : Type 0 where
  pub functions : HasFunctions table (functions_alone by.functions)
  pub held : table.has_unknown ≡ false → calls_unknown ≡ false

-- where the table has `unknown`, that is the built-in function
abbrev pub HasUnknown : Table → Type 0
HasUnknown table = table.has_unknown ≡ true → (n : Name) → is_the_unknown n ≡ true → table.function n ≡ Some unknown_function

-- a value is the tree's; a residual holds an unknown; and an error is that of some part without one
abbrev pub IsRead : Setting → Tree → Answer → Type 0
IsRead by t (Evaluated v) = (value_of by.functions map.empty t ≡ Gives v) × (holds_unknown t ≡ false) × (errs_alone by t ≡ false)
IsRead by t (ResidualTree r) = (holds_unknown t ≡ true) × (errs_alone by t ≡ false)
IsRead by t (Failed k) = errs_alone by t ≡ true

abbrev pub TreesAreRead : Type 0
TreesAreRead =
    (by : Setting) (table : Table) → HasUnknown table → (t : Tree) → Serves table by (holds_call t) → is_restricted t ≡ true →
    IsRead by (named t) (answer_in table (functions_alone by.functions) t)

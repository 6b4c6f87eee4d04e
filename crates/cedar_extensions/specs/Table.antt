-- What a table of extensions gives to an evaluation. (Cedar language reference, "Extension functions".)
use Rattle.std.specs.Prelude.{◌≡◌, Bool, false, Option, None}
use Rattle.cedar_language.specs.Uid.{Name}
use Rattle.cedar_language.specs.Facts.{Function, Facts}
use Rattle.cedar_language.specs.Constructing.{or_constructor}
use Rattle.cedar_extensions.specs.Answering.{FunctionAnswers}
use Rattle.cedar_extensions.specs.Tables.{function_called, holds_unknown}
use Rattle.cedar_extensions.specs.declared.extensions.Extensions.{Extensions}

-- what each name calls, the language's own constructor of extension values included, and whether the built-in function that
-- names unknowns is among the functions
pub record Table : Type 0 where
  pub function : Name → Option Function
  pub has_unknown : Bool

abbrev pub as_table : {F : Type 0} → (F → FunctionAnswers) → Extensions F → Table
as_table answers extensions = record { function = or_constructor (function_called answers extensions); has_unknown = holds_unknown extensions }

-- the functions are those of the table
abbrev pub HasFunctions : Table → Facts → Type 0
HasFunctions table facts = (n : Name) → facts.function n ≡ table.function n

-- these functions, and no entity
abbrev pub functions_of : Table → Facts
functions_of table = record {
  entity = λ uid. None;
  reaches = λ a b. false;
  function = table.function;
}

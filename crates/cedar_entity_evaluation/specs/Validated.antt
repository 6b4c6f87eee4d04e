-- What a validation of calls answers.
use Rattle.std.specs.Prelude.{◌≡◌, ℕ, List, true, Result, Ok, Err}
use Rattle.std.specs.List.{list_all}
use Rattle.cedar_language.specs.Uid.{Name}
use Rattle.cedar_extensions.specs.Table.{Table}
use Rattle.cedar_extensions.specs.Calls.{call_fits, first_fault}
use Rattle.cedar_extensions.specs.ValidationRefusals.{Refuses}
use Rattle.cedar_extensions.specs.declared.validation_errors.ExprValidationError.{ExprValidationError}

-- each call fits the table, or what is wrong with the first other one is told
abbrev pub ValidatesCalls : {A : Type 0} → Table → List (Name × ℕ) → Result A ExprValidationError → Type 0
ValidatesCalls table cs (Ok a) = list_all (call_fits table) cs ≡ true
ValidatesCalls table cs (Err e) = Refuses (first_fault table cs) e

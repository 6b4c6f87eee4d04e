-- What a validation answers.
use Rattle.std.specs.Prelude.{◌≡◌, ⊤, ℕ, true, Option, Some, Result, Ok, Err}
use Rattle.cedar_language.specs.Uid.{Name}
use Rattle.cedar_language.specs.Tree.{Tree}
use Rattle.cedar_extensions.specs.Causes.{Cause, lookup_cause, miscounted}
use Rattle.cedar_extensions.specs.declared.lookups.ExtensionFunctionLookupError.{ExtensionFunctionLookupError}
use Rattle.cedar_extensions.specs.declared.lookups.ExtensionFunctionLookupError.TheVariants as lookup
use Rattle.cedar_extensions.specs.Table.{Table}
use Rattle.cedar_extensions.specs.Calls.{CallsFit, calls_in, call_fits, fault_of, first_fault}
use Rattle.cedar_extensions.specs.declared.validation_errors.ExprValidationError.{ExprValidationError}
use Rattle.cedar_extensions.specs.declared.validation_errors.ExprValidationError.TheVariants.{FuncDoesNotExist, WrongNumArguments, Memory}

-- a function that isn't found is why an expression isn't valid
abbrev pub by_lookup : ExtensionFunctionLookupError → ExprValidationError
by_lookup (lookup.FuncDoesNotExist e) = FuncDoesNotExist e
by_lookup (lookup.Memory e) = Memory e

-- a refusal for what is wrong, or for want of memory
abbrev pub Refuses : Option Cause → ExprValidationError → Type 0
Refuses wrong (FuncDoesNotExist e) = wrong ≡ Some (lookup_cause (lookup.FuncDoesNotExist e))
Refuses wrong (WrongNumArguments e) = wrong ≡ Some (miscounted e)
Refuses wrong (Memory e) = ⊤

-- a call fits the table, or what is wrong with it is told
abbrev pub Checks : {A : Type 0} → Table → Name × ℕ → Result A ExprValidationError → Type 0
Checks table c (Ok u) = call_fits table c ≡ true
Checks table c (Err e) = Refuses (fault_of table c) e

-- each call of the tree fits the table, or what is wrong with the first other one is told
abbrev pub Validates : {A : Type 0} → Table → Tree → Result A ExprValidationError → Type 0
Validates table t (Ok u) = CallsFit table t
Validates table t (Err e) = Refuses (first_fault table (calls_in t)) e

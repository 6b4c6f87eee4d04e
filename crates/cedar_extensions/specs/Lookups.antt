-- What is found in a table.
use Rattle.std.specs.Prelude.{◌≡◌, ⊤, List, [], ◌∷◌, true, Option, Some, None, Result, Ok, Err}
use Rattle.std.specs.Borrow.{Bor}
use Rattle.cedar_language.specs.Uid.{Name}
use Rattle.cedar_language.specs.Tree.{StringType}
use Rattle.cedar_grammar.specs.Functions.{the_unknown, as_function}
use Rattle.cedar_extensions.specs.Causes.{name_sought}
use Rattle.cedar_extensions.specs.declared.lookups.ExtensionFunctionLookupError.{ExtensionFunctionLookupError}
use Rattle.cedar_extensions.specs.declared.lookups.ExtensionFunctionLookupError.TheVariants.{FuncDoesNotExist, Memory}
use Rattle.cedar_extensions.specs.Functions.{function_name, function_style, is_unknown, argument_types, returned_type}
use Rattle.cedar_extensions.specs.declared.functions.ExtensionFunction.{ExtensionFunction}

-- a look-up of this name answers what was found; where nothing was, the error names what was sought
abbrev pub Finds : {F : Type 0} → Option (ExtensionFunction F) → Name → Result (Bor (ExtensionFunction F)) ExtensionFunctionLookupError → Type 0
Finds found n (Ok f) = found ≡ Some f.now
Finds found n (Err (FuncDoesNotExist e)) = (found ≡ None) × (name_sought e ≡ n)
Finds found n (Err (Memory e)) = ⊤

-- the built-in function that names unknowns, under its name, which takes a text, and no other
abbrev pub IsUnknownAlone : {F : Type 0} → List (ExtensionFunction F) → Type 0
IsUnknownAlone (f ∷ []) = record {
  unknown : is_unknown f ≡ true;
  name : function_name f ≡ the_unknown;
  style : function_style f ≡ as_function;
  arguments : argument_types f ≡ StringType ∷ [];
  untyped : returned_type f ≡ None;
}
IsUnknownAlone fs = ⊥

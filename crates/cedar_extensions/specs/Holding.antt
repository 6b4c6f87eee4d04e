-- What extensions hold.
use Rattle.std.specs.Prelude.{List, find, Bool, not, cond, Option}
use Rattle.std.specs.List.{list_all}
use Rattle.cedar_language.specs.Uid.{Name}
use Rattle.cedar_language.specs.Order.{same_name}
use Rattle.cedar_grammar.specs.Functions.{is_the_unknown}
use Rattle.cedar_extensions.specs.Functions.{function_name, is_unknown}
use Rattle.cedar_extensions.specs.declared.functions.ExtensionFunction.{ExtensionFunction}
use Rattle.cedar_extensions.specs.declared.extension.Extension.{Extension}

abbrev pub extension_name : {F : Type 0} → Extension F → Name
extension_name e = e.name

abbrev pub extension_functions : {F : Type 0} → Extension F → List (ExtensionFunction F)
extension_functions e = e.functions.items

-- the types whose values have an order
abbrev pub ordered_types : {F : Type 0} → Extension F → List Name
ordered_types e = e.types_with_operator_overloading.items

-- the first function of this name
abbrev pub found_in : {F : Type 0} → List (ExtensionFunction F) → Name → Option (ExtensionFunction F)
found_in fs n = find (λ f. same_name (function_name f) n) fs

-- whether it is named `unknown` exactly where it is the built-in one
abbrev pub is_named : {F : Type 0} → ExtensionFunction F → Bool
is_named f = cond (is_unknown f) (is_the_unknown (function_name f)) (not (is_the_unknown (function_name f)))

abbrev pub are_named : {F : Type 0} → List (ExtensionFunction F) → Bool
are_named fs = list_all is_named fs

-- What extensions and tables of them hold, and what walks over them still give.
use Rattle.std.specs.Prelude.{List, ◌++◌, map, Bool, Option, Some, None, option_map}
use Rattle.std.specs.List.{list_any, filter_map, flat_map}
use Rattle.std.specs.Slice.Iter.{iter_rest}
use Rattle.cedar_language.specs.Uid.{Name}
use Rattle.cedar_language.specs.Tree.{ValueType}
use Rattle.cedar_language.specs.Facts as facts
use Rattle.cedar_extensions.specs.Answering.{FunctionAnswers}
use Rattle.cedar_extensions.specs.Functions.{is_unknown, meaning_of, returned_type, value_type_in, extension_type_of}
use Rattle.cedar_extensions.specs.Holding.{extension_name, extension_functions, ordered_types, found_in}
use Rattle.cedar_extensions.specs.declared.functions.ExtensionFunction.{ExtensionFunction}
use Rattle.cedar_extensions.specs.declared.extension.Extension.{Extension}
use Rattle.cedar_extensions.specs.declared.extensions.Extensions.{Extensions}
use Rattle.cedar_extensions.specs.declared.iteration.Funcs.{Funcs}
use Rattle.cedar_extensions.specs.declared.iteration.ExtNames.{ExtNames}
use Rattle.cedar_extensions.specs.declared.iteration.ExtTypes.{ExtTypes}
use Rattle.cedar_extensions.specs.declared.iteration.OrderedTypes.{OrderedTypes}

-- what walks still give
abbrev pub functions_left : {F : Type 0} → Funcs F → List (ExtensionFunction F)
functions_left it = iter_rest it.functions ++ flat_map extension_functions (iter_rest it.extensions)

abbrev pub names_left : {F : Type 0} → ExtNames F → List Name
names_left it = map extension_name (iter_rest it.extensions)

abbrev pub type_names_left : {F : Type 0} → ExtTypes F → List Name
type_names_left it = filter_map extension_type_of (functions_left it.functions)

abbrev pub ordered_left : {F : Type 0} → OrderedTypes F → List Name
ordered_left it = iter_rest it.types ++ flat_map ordered_types (iter_rest it.extensions)

abbrev pub extensions_in : {F : Type 0} → Extensions F → List (Extension F)
extensions_in table = table.extensions.items

-- the functions of a table, one extension after the other
abbrev pub functions_in : {F : Type 0} → Extensions F → List (ExtensionFunction F)
functions_in table = flat_map extension_functions (extensions_in table)

-- whether the built-in function that names unknowns is among them
abbrev pub holds_unknown : {F : Type 0} → Extensions F → Bool
holds_unknown table = list_any is_unknown (functions_in table)

-- the function of the table that the name calls, as the definitions have functions
abbrev pub function_called : {F : Type 0} → (F → FunctionAnswers) → Extensions F → Name → Option facts.Function
function_called answers table n = option_map (meaning_of answers) (found_in (functions_in table) n)

-- the type of the function's answers, where there is one that states it
abbrev pub type_stated : {F : Type 0} → Option (ExtensionFunction F) → Option ValueType
type_stated None = None
type_stated (Some f) = value_type_in (returned_type f)

-- the type of the answers of the function of this name
abbrev pub answer_type : {F : Type 0} → Extensions F → Name → Option ValueType
answer_type table n = type_stated (found_in (functions_in table) n)

-- Which extensions a table is made of, and why none is made of the others. (Cedar language reference, "Extension functions".)
use Rattle.std.specs.Prelude.{◌≡◌, ⊤, List, ◌∷◌, map, cond, Option, Some, None, Result, Ok, Err}
use Rattle.std.specs.List.{filter_map, flat_map, IsDistinct}
use Rattle.cedar_language.specs.Uid.{Name}
use Rattle.cedar_language.specs.Tree.{ValueType, ExtensionType}
use Rattle.cedar_language.specs.Order.{same_name}
use Rattle.cedar_language.specs.Constructing.{the_constructor}
use Rattle.cedar_extensions.specs.Collecting.{IsFirstRepeated}
use Rattle.cedar_extensions.specs.Functions.{function_name, extension_type_of, is_single_argument_constructor}
use Rattle.cedar_extensions.specs.Holding.{extension_functions}
use Rattle.cedar_extensions.specs.Tables.{extensions_in}
use Rattle.cedar_extensions.specs.TableRefusals.{name_repeated, type_repeated}
use Rattle.cedar_extensions.specs.declared.functions.ExtensionFunction.{ExtensionFunction}
use Rattle.cedar_extensions.specs.declared.extension.Extension.{Extension}
use Rattle.cedar_extensions.specs.declared.extensions.Extensions.{Extensions}
use Rattle.cedar_extensions.specs.declared.table_errors.ExtensionInitializationError.{ExtensionInitializationError}
use Rattle.cedar_extensions.specs.declared.table_errors.ExtensionInitializationError.TheVariants.{FuncMultiplyDefined, MultipleConstructorsSameSignature, Memory}

-- the names that are taken: that of the language's own constructor of extension values, and those of these functions
abbrev pub names_taken : {F : Type 0} → List (ExtensionFunction F) → List Name
names_taken fs = the_constructor ∷ map function_name fs

-- the extension type of which it makes values from one text, if it is no method
abbrev pub type_made : {F : Type 0} → ExtensionFunction F → Option Name
type_made f = cond (is_single_argument_constructor f) (extension_type_of f) None

-- these types, one for each such function
abbrev pub types_made : {F : Type 0} → List (ExtensionFunction F) → List Name
types_made fs = filter_map type_made fs

-- the first name that stands before it too; none where each stands once
abbrev pub Repeats : List Name → Option Name → Type 0
Repeats ns None = IsDistinct same_name ns
Repeats ns (Some n) = IsFirstRepeated same_name ns n

-- the same of a type, among extension types of these names
abbrev pub IsTypeRepeated : List Name → ValueType → Type 0
IsTypeRepeated ns (ExtensionType n) = IsFirstRepeated same_name ns n
IsTypeRepeated ns ty = ⊥

-- a table has these extensions, whose functions differ in their names, also from the language's own constructor, and those
-- that make values from one text in the types of these; else what stands twice is told, of names before types
abbrev pub MakesTable : {F : Type 0} → List (Extension F) → Result (Extensions F) ExtensionInitializationError → Type 0
MakesTable es (Ok table) = record {
  names : IsDistinct same_name (names_taken (flat_map extension_functions es));
  types : IsDistinct same_name (types_made (flat_map extension_functions es));
  extensions : extensions_in table ≡ es;
}
MakesTable es (Err (FuncMultiplyDefined e)) = IsFirstRepeated same_name (names_taken (flat_map extension_functions es)) (name_repeated e)
MakesTable es (Err (MultipleConstructorsSameSignature e)) = record {
  names : IsDistinct same_name (names_taken (flat_map extension_functions es));
  types : IsTypeRepeated (types_made (flat_map extension_functions es)) (type_repeated e);
}
MakesTable es (Err (Memory e)) = ⊤

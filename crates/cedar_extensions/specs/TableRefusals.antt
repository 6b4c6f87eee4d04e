-- What the errors of tables name.
use Rattle.cedar_language.specs.Uid.{Name}
use Rattle.cedar_language.specs.Tree.{ValueType}
use Rattle.cedar_literals.specs.Types.{value_type_of}
use Rattle.cedar_extensions.specs.declared.table_errors.FuncMultiplyDefinedError.{FuncMultiplyDefinedError}
use Rattle.cedar_extensions.specs.declared.table_errors.MultipleConstructorsSameSignatureError.{MultipleConstructorsSameSignatureError}

-- the name that is defined twice
abbrev pub name_repeated : FuncMultiplyDefinedError → Name
name_repeated e = e.name

-- the type of which two functions make values
abbrev pub type_repeated : MultipleConstructorsSameSignatureError → ValueType
type_repeated e = value_type_of e.return_type

-- The type of a value.
use Rattle.cedar_language.specs.Tree.{ValueType, SetType, RecordType, ExtensionType}
use Rattle.cedar_language.specs.Value.{Value, Plain, SetOf, RecordOf, ExtensionOf}
use Rattle.cedar_literals.specs.Types.{literal_type}

abbrev pub type_of_value : Value → ValueType
type_of_value (Plain l) = literal_type l
type_of_value (SetOf vs) = SetType
type_of_value (RecordOf ks vs) = RecordType
type_of_value (ExtensionOf e) = ExtensionType e.type_name

-- Fields in code, as the definition of typing has them.
use Rattle.cedar_typing.specs.Types.{Field as AField}
use Rattle.cedar_typing.specs.Attributes as typing
use Rattle.cedar_typing.specs.Attributes.{of_record, of_entity, of_none}
use Rattle.cedar_typechecker.specs.Types.{field_view, fields_view}
use Rattle.cedar_typechecker.specs.Results.{fault_view}
use Rattle.cedar_typechecker.specs.declared.types.Field.{Field}
use Rattle.cedar_typechecker.specs.declared.attributes.Attributes.{Attributes}
use Rattle.cedar_typechecker.specs.declared.attributes.Attributes.TheVariants.{OfRecord, OfEntity, OfNone}

abbrev pub attributes_view : Attributes → typing.Attributes
attributes_view (OfRecord fs) = of_record (fields_view fs.now)
attributes_view (OfEntity fs) = of_entity (fields_view fs.now)
attributes_view (OfNone k) = of_none (fault_view k)

-- a field without its name
abbrev pub field_part : Field → AField
field_part f = (field_view f).1

-- What schemas declare in code, as the definition of typing has it.
use Rattle.std.specs.Prelude.{Bool, false, List, map, Option, Some, None, is_some}
use Rattle.std.specs.Option.{option_map}
use Rattle.cedar_language.specs.Uid.{Text}
use Rattle.cedar_language.specs.Tree.{ValueType}
use Rattle.cedar_literals.specs.Types.{value_type_of}
use Rattle.cedar_typing.specs.Types.{CedarType}
use Rattle.cedar_typing.specs.Schema as typing
use Rattle.cedar_typechecker.specs.Types.{type_view, fields_view}
use Rattle.cedar_typechecker.specs.declared.environment.EntityShape.{EntityShape}
use Rattle.cedar_typechecker.specs.declared.environment.Signature.{Signature}

abbrev pub shape_view : EntityShape → typing.EntityShape
shape_view s = record { attributes = fields_view s.attributes.value.items; tags = option_map type_view s.tags }

-- a signature without the texts that it takes: whether it takes one text alone
pub record SignatureHead : Type 0 where
  pub arguments : List ValueType
  pub result : CedarType
  pub is_constructor : Bool

abbrev pub signature_head : typing.Signature → SignatureHead
signature_head g = record { arguments = g.arguments; result = g.result; is_constructor = is_some g.constructs }

abbrev pub signature_view : Signature → SignatureHead
signature_view s = record { arguments = map value_type_of s.arguments.items; result = type_view s.result; is_constructor = s.is_constructor }

abbrev pub accepts_text : Option (Text → Bool) → Text → Bool
accepts_text (Some accepts) text = accepts text
accepts_text None text = false

-- the function makes values of one text alone, and one of this text
abbrev pub accepts : Option typing.Signature → Text → Bool
accepts (Some g) text = accepts_text g.constructs text
accepts None text = false

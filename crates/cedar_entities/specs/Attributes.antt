-- Attributes and tags: at each name a value, or the tree of a residual.
use Rattle.std.specs.Prelude.{List, map}
use Rattle.std.specs.FinMap as finite
use Rattle.std.specs.FinMap.{FinMap}
use Rattle.std.specs.Coded.{Coded}
use Rattle.std.specs.declared.alloc.Global.{Global}
use Rattle.std.specs.declared.rc.RcStr.{RcStr}
use Rattle.std.specs.Rc.{rc_str_bytes}
use Rattle.either.specs.declared.Either.{Either}
use Rattle.cedar_language.specs.Uid.{Text}
use Rattle.cedar_language.specs.Tree.{Tree}
use Rattle.cedar_language.specs.Value.{Value}
use Rattle.cedar_language.specs.Order.{text_cmp}
use Rattle.cedar_language.specs.OrderLaws.{text_code, value_code}
use Rattle.cedar_restricted.specs.PartialValues.{partial_of}
use Rattle.cedar_restricted.specs.declared.partial_values.PartialValue.{PartialValue}
use Rattle.cedar_entities.specs.Codes.{tree_code, either_code}

-- what stands at a name
abbrev pub Attribute : Type 0
Attribute = Either Value Tree

abbrev pub AttributeMap : Type 0
AttributeMap = FinMap text_cmp Attribute

abbrev pub Entries : Type 0
Entries = List (RcStr Global × PartialValue)

-- a name and what stands there
abbrev pub seen_entry : RcStr Global × PartialValue → Text × Attribute
seen_entry e = (rc_str_bytes e.0, partial_of e.1)

abbrev pub seen_entries : Entries → List (Text × Attribute)
seen_entries es = map seen_entry es

abbrev pub attributes_of : Entries → AttributeMap
attributes_of es = finite.from_entries (seen_entries es)

abbrev pub attributes_code : Coded AttributeMap
attributes_code = finite.code text_code (either_code value_code tree_code)

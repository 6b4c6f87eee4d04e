-- The value that a kind makes.
use Rattle.std.specs.Prelude.{List, map}
use Rattle.std.specs.declared.alloc.Global.{Global}
use Rattle.std.specs.declared.rc.RcStr.{RcStr}
use Rattle.std.specs.Rc.{rc_str_bytes}
use Rattle.cedar_language.specs.Uid.{Text}
use Rattle.cedar_language.specs.Value.{Value, Plain, SetOf, RecordOf, ExtensionOf, Values}
use Rattle.cedar_language.specs.Order.{all_of}
use Rattle.cedar_literals.specs.Literals.{literal_of}
use Rattle.cedar_literals.specs.declared.literals.Literal.{Literal}
use Rattle.cedar_values.specs.Representations.{extension_of}
use Rattle.cedar_values.specs.declared.values.ValueKind.{ValueKind}
use Rattle.cedar_values.specs.declared.values.ValueKind.TheVariants as kind

-- the keys of a record's attributes
abbrev pub keys_of : List (RcStr Global × Value) → List Text
keys_of es = map (λ e. rc_str_bytes e.0) es

-- and their values
abbrev pub values_of : List (RcStr Global × Value) → Values
values_of es = all_of (map (λ e. e.1) es)

abbrev pub value_of : ValueKind → Value
value_of (kind.Lit l) = Plain (literal_of l)
value_of (kind.Set s) = SetOf (all_of s)
value_of (kind.Record m) = RecordOf (keys_of m.value.entries) (values_of m.value.entries)
value_of (kind.ExtensionValue e) = ExtensionOf (extension_of e.value)

abbrev pub plain_of : Literal → Value
plain_of l = Plain (literal_of l)

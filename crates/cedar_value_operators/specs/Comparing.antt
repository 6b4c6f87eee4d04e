-- How two values compare: two longs, or two extension values of one type that has an order.
use Rattle.std.specs.Prelude.{ℤ, Bool, true, false, cond, int_lt, int_le, Option, Some, None}
use Rattle.std.specs.Option.{option_or}
use Rattle.std.specs.Ordering.{is_lt, is_le}
use Rattle.cedar_language.specs.Value.{Extension, Value}
use Rattle.cedar_language.specs.Operators.{are_comparable}
use Rattle.cedar_language.specs.Order.{text_cmp}
use Rattle.cedar_literals.specs.declared.operators.BinaryOp.{BinaryOp}
use Rattle.cedar_literals.specs.declared.operators.BinaryOp.TheVariants.{Eq, Less, LessEq}
use Rattle.cedar_value_operators.specs.declared.comparing.Comparison.{Comparison}
use Rattle.cedar_value_operators.specs.Operands.{long_in, extension_in}

abbrev pub is_relation : BinaryOp → Bool
is_relation Eq = true
is_relation Less = true
is_relation LessEq = true
is_relation op = false

-- whether it is below, and whether it is below or equal
abbrev pub Below : Type 0
Below = Bool × Bool

abbrev pub seen : Comparison → Below
seen c = (c.is_less, c.is_less_or_equal)

abbrev pub order_of_longs : Option ℤ → Option ℤ → Option Below
order_of_longs None o = None
order_of_longs (Some x) None = None
order_of_longs (Some x) (Some y) = Some (int_lt x y, int_le x y)

abbrev pub order_of_extensions : Option Extension → Option Extension → Option Below
order_of_extensions None o = None
order_of_extensions (Some x) None = None
order_of_extensions (Some x) (Some y) = cond (are_comparable x y) (Some (is_lt (text_cmp x.key y.key), is_le (text_cmp x.key y.key))) None

abbrev pub order_of : Value → Value → Option Below
order_of v w = option_or (order_of_longs (long_in v) (long_in w)) (order_of_extensions (extension_in v) (extension_in w))

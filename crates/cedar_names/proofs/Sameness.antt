-- `==` of names holds of the same ones alone.
use Rattle.std.specs.Cmp.Lexicographic.{pointwise_decides, bytes_decides}
use Rattle.cedar_language.specs.Order.{same_name}
use Rattle.cedar_names.specs.Laws.{TestsSame}

pub names_same : TestsSame same_name
names_same = pointwise_decides bytes_decides

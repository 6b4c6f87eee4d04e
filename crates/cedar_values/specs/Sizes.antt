-- How deep values nest: each value in a set or a record weighs less than what holds it.
use Rattle.std.specs.Prelude.{ℕ, ◌+◌, max}
use Rattle.cedar_language.specs.Value.{Value, Plain, SetOf, RecordOf, ExtensionOf, Values, no_values, a_value}

abbrev mutual
  pub weigh : Value → ℕ
  weigh (Plain l) = 0
  weigh (SetOf vs) = weigh_all vs + 1
  weigh (RecordOf ks vs) = weigh_all vs + 1
  weigh (ExtensionOf e) = 0

  pub weigh_all : Values → ℕ
  weigh_all no_values = 0
  weigh_all (a_value v vs) = max (weigh v + 1) (weigh_all vs)

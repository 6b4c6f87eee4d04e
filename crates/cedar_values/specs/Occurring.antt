-- The uids that occur in a value as literals.
use Rattle.std.specs.Prelude.{Bool, false, ◌||◌}
use Rattle.cedar_language.specs.Uid.{Uid}
use Rattle.cedar_language.specs.Tree.{Literal, Entity}
use Rattle.cedar_language.specs.Value.{Value, Plain, SetOf, RecordOf, ExtensionOf, Values, no_values, a_value}
use Rattle.cedar_language.specs.Order.{same_uid}

abbrev pub is_uid : Literal → Uid → Bool
is_uid (Entity w) u = same_uid w u
is_uid _ u = false

abbrev mutual
  pub occurs_in : Value → Uid → Bool
  occurs_in (Plain l) u = is_uid l u
  occurs_in (SetOf vs) u = occurs_among vs u
  occurs_in (RecordOf ks vs) u = occurs_among vs u
  occurs_in (ExtensionOf e) u = false

  pub occurs_among : Values → Uid → Bool
  occurs_among no_values u = false
  occurs_among (a_value v vs) u = occurs_in v u || occurs_among vs u

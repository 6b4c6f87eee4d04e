-- What values feed a hasher: the number of their kind, and what they hold.
use Rattle.std.proofs.Common.{◌++◌, List, [], ap}
use Rattle.std.specs.Hash as fed
use Rattle.std.specs.Hash.{HashWrites, Alike}
use Rattle.std.specs.List.{flat_map}
use Rattle.cedar_language.specs.Value.{Value, Plain, SetOf, RecordOf, ExtensionOf, Values, no_values, a_value}
use Rattle.cedar_language.specs.Order.{same, all_of}
use Rattle.cedar_language.specs.OrderLaws.{same_is}
use Rattle.cedar_literals.specs.Literals.{literal_hash}
use Rattle.cedar_values.specs.Extensions.{extension_hash}
use Rattle.cedar_values.specs.Kinds.{value_of}
use Rattle.cedar_values.specs.Orders.{same_kind, same_set}

-- a set feeds each of its members, a record its keys and then what stands at each
abbrev mutual
  pub value_hash : Value → HashWrites
  value_hash (Plain l) = literal_hash l
  value_hash (SetOf vs) = fed.u8 4 ++ values_hash vs
  value_hash (RecordOf ks vs) = fed.u8 5 ++ flat_map fed.str ks ++ values_hash vs
  value_hash (ExtensionOf e) = fed.u8 6 ++ extension_hash e

  pub values_hash : Values → HashWrites
  values_hash no_values = []
  values_hash (a_value v vs) = value_hash v ++ values_hash vs

abbrev pub set_hash : List Value → HashWrites
set_hash vs = values_hash (all_of vs)

pub values_alike : Alike same value_hash
values_alike = record { fed = λ x y h. ap value_hash (same_is x y h) }

pub kinds_alike : Alike same_kind (λ k. value_hash (value_of k))
kinds_alike = record { fed = λ x y h. ap value_hash (same_is (value_of x) (value_of y) h) }

members_of : Value → Values
members_of (SetOf vs) = vs
members_of _ = no_values

pub sets_alike : Alike same_set set_hash
unfolding members_of
sets_alike = record { fed = λ x y h. ap (λ v. values_hash (members_of v)) (same_is (SetOf (all_of x)) (SetOf (all_of y)) h) }

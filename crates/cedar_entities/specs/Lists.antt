-- Sets of uids, and lists of them in rising order.
use Rattle.std.specs.Prelude.{◌≡◌, ◌<◌, ◌^◌, List, ◌++◌, not, length}
use Rattle.std.specs.Coded.{Coded}
use Rattle.std.specs.FinSet as set
use Rattle.std.specs.FinSet.{FinSet}
use Rattle.std.specs.List.{filter}
use Rattle.std.specs.List.Sorted.{IsStrictlySortedBy}
use Rattle.cedar_language.specs.Uid.{Uid}
use Rattle.cedar_language.specs.Order.{uid_cmp}
use Rattle.cedar_language.specs.OrderLaws.{uid_code}

abbrev pub UidSet : Type 0
UidSet = FinSet uid_cmp

abbrev pub uids_code : Coded UidSet
uids_code = set.code uid_code

-- each uid is below those after it
abbrev pub AreRising : List Uid → Type 0
AreRising uids = IsStrictlySortedBy uid_cmp uids

-- what a store of uids keeps: a list that rises, as long as memory can hold
pub record IsKept (uids : List Uid) : Type 0 where
  pub rising : AreRising uids
  pub small : length uids < 2 ^ 63

-- those uids that a set lacks
abbrev pub beside : UidSet → List Uid → List Uid
beside s uids = filter (λ u. not (set.contains s u)) uids

-- the uids of a set, each below the next, and then those of another that it lacks, each below the next
pub record AreInTurn (s t : UidSet) (uids : List Uid) : Type 0 where
  pub first : List Uid
  pub others : List Uid
  pub listed : uids ≡ first ++ others
  pub first_rise : AreRising first
  pub others_rise : AreRising others
  pub are_first : set.from_list first ≡ s
  pub are_others : set.from_list others ≡ set.difference t s

use Rattle.std.proofs.Common.{◌≡◌, ◌+◌, ◌≤◌, ◌||◌, length}
use Rattle.std.specs.List.{list_any}
use Rattle.std.specs.Vec.{vec_len, vec_capacity}
use Rattle.cedar_language.specs.Uid.{Uid}
use Rattle.cedar_language.specs.Order.{same_uid}
use Rattle.cedar_entities.specs.Lists.{AreRising}
use Rattle.cedar_entities.proofs.uid_lists.insert_each_in_turn.Given as goal

abbrev pub invariant-loop-uid : goal.invariant-loop-uid
invariant-loop-uid l =
    let rest = l.uid-iterator.rest.items in
    record {
      rising : AreRising l.list.items;
      room : vec_len l.list + length rest ≤ vec_capacity l.list;
      stand : (q : Uid) → (list_any (same_uid q) rest || list_any (same_uid q) l.list.items) ≡ (list_any (same_uid q) l.fn.uids.items || list_any
          (same_uid q) l.fn.list.items);
    }

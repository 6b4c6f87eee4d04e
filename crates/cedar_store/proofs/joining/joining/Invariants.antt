-- What was joined so far, and what is left, are the whole rest; and the templates that are left list their slots.
use Rattle.cedar_policy_set.specs.Bounds.{seen, ListTheirSlots}
use Rattle.cedar_store.proofs.Joins.{IsJoining}
use Rattle.cedar_store.proofs.joining.joining.Given as goal

abbrev pub invariant-loop-bound : goal.invariant-loop-bound
invariant-loop-bound l = record {
  joins : IsJoining l.mine l.theirs l.renaming (seen l.bound-iterator) l.more;
  listed : ListTheirSlots l.bound-iterator;
}

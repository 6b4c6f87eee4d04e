-- What has new ids so far, and what is left, are the conflicts of the whole.
use Rattle.cedar_policy_set.specs.Bounds.{seen}
use Rattle.cedar_store.proofs.Numbering.{IsNumbered}
use Rattle.cedar_store.proofs.renaming.renaming_of.Given as goal

abbrev pub invariant-loop-bound : goal.invariant-loop-bound
invariant-loop-bound l = IsNumbered l.mine l.theirs (seen l.bound-iterator) l.from l.renaming

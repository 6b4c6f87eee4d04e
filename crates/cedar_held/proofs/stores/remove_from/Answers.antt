-- A removal from the store is the world's, which memory alone can refuse.
use Rattle.std.proofs.Common.{Ok}
use Rattle.std.specs.FinSet as set
use Rattle.cedar_held.proofs.EditedStores.{removes, remove_refused}
use Rattle.cedar_held.proofs.stores.remove_from.Goals as goal

pub returns-in-Ok-clause-edited : goal.returns-in-Ok-clause-edited
returns-in-Ok-clause-edited c = λ old shows. removes c.args.store.now old shows (set.from_list c.args.uids.now.keys) (Ok c.remove_in_place.new.self) c.removes_are_the_worlds.ensures c.in-Ok.ensures.removed

pub returns-in-Err-clause-edited : goal.returns-in-Err-clause-edited
returns-in-Err-clause-edited c =
    rw c.refusal.ensures (λ old shows. remove_refused old (set.from_list c.args.uids.now.keys) c.in-Err.error (c.in-Err.ensures.only_memory c.requires.closed))

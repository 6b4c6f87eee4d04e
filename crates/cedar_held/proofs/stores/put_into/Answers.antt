-- A put to the store is the world's put to what the store shows, and is refused for the world's cycles.
use Rattle.std.proofs.Common.{Ok, Err}
use Rattle.cedar_held.proofs.EditedStores.{puts, put_refused}
use Rattle.cedar_held.proofs.stores.put_into.Goals as goal

pub returns-in-Ok-clause-edited : goal.returns-in-Ok-clause-edited
returns-in-Ok-clause-edited c = λ old vs shows same. puts c.args.store.now old shows c.args.versions.items vs same (Ok c.upsert_in_place.new.self) c.puts_are_the_worlds.ensures c.in-Ok.ensures.put

pub returns-in-Err-clause-edited : goal.returns-in-Err-clause-edited
returns-in-Err-clause-edited c = rw c.refusal.ensures (λ old vs shows same. put_refused old vs c.in-Err.error (puts c.args.store.now old shows c.args.versions.items vs same (Err c.in-Err.error) c.puts_are_the_worlds.ensures c.in-Err.ensures.put))

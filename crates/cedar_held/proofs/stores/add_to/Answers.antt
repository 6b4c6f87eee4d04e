-- Listed versions keep parents alone, so that adding them to a closed store is adding them in the world.
use Rattle.std.proofs.Common.{Ok, Err}
use Rattle.cedar_held.proofs.EditedStores.{adds, add_refused}
use Rattle.cedar_held.proofs.stores.add_to.Goals as goal

pub returns-in-Ok-clause-edited : goal.returns-in-Ok-clause-edited
returns-in-Ok-clause-edited c = λ old vs shows same. adds c.args.store.now old shows c.args.versions.items vs same (Ok c.add_in_place.new.self) c.adds_are_the_worlds.ensures c.requires.closed c.in-Ok.ensures.added

pub returns-in-Err-clause-edited : goal.returns-in-Err-clause-edited
returns-in-Err-clause-edited c = rw c.refusal.ensures (λ old vs shows same. add_refused old vs c.in-Err.error (adds c.args.store.now old shows c.args.versions.items vs same (Err c.in-Err.error) c.adds_are_the_worlds.ensures c.requires.closed c.in-Err.ensures.added))

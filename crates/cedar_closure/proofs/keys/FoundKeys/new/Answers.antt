-- No key is there.
use Rattle.cedar_closure.specs.Keys.{digest}
use Rattle.cedar_closure.proofs.KeysFound.{found_begins}
use Rattle.cedar_closure.proofs.keys.FoundKeys.new.Goals as goal

pub returns-clause-found : goal.returns-clause-found
returns-clause-found g c = found_begins g.K.PartialEq.eq (λ x. digest (g.K.Hash.hash_input x)) c.new.result.items c.new-2.result c.new.ensures.items c.new-2.ensures.empty

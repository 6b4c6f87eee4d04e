-- What an edit of the entities' uids touches is what one of the entities does.
use Rattle.cedar_entities.proofs.Passing.{ok_weaker}
use Rattle.cedar_entities.proofs.Untouched.{some_weaker}
use Rattle.cedar_entities.proofs.store.Entities.touched_by.Goals as goal

pub returns : goal.returns
returns c = ok_weaker c.touched_few.result (λ few h. some_weaker _ _ (λ uids k. (k.0, (c.in_ok-uids.uids.keys, c.in_ok-uids.ensures, k.1))) few h) c.touched_few.ensures

-- A store that is known to be closed keeps the ancestors that its parents reach.
use Rattle.std.proofs.Common.{rules}
use Rattle.cedar_entities.specs.Store.{found_in}
use Rattle.cedar_entities.proofs.Passing.{ok_weaker}
use Rattle.cedar_entities.proofs.Untouched.{some_weaker}
use Rattle.cedar_entities.proofs.Whole.{kept_of_whole}
use Rattle.cedar_entities.proofs.store.Entities.touched_few.Goals as goal

pub touched_below-requires-clause-closed : goal.touched_below-requires-clause-closed
touched_below-requires-clause-closed c = kept_of_whole (found_in c.args.self.now) (c.args.self.now.closed (search rules))

pub returns-in-Some : goal.returns-in-Some
returns-in-Some c =
    let keeps = kept_of_whole (found_in c.args.self.now) (c.args.self.now.closed (search rules)) in
    ok_weaker c.touched_below.result (λ few h. some_weaker _ _ (λ uids covers. (keeps, covers)) few h) c.touched_below.ensures

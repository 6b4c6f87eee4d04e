-- The uids touched are few, and the ancestors of all others are known to be whole.
use Rattle.std.proofs.Common.{sym, subst}
use Rattle.cedar_entities.specs.Kept.{Covers}
use Rattle.cedar_entities.specs.Store.{found_in}
use Rattle.cedar_entities.proofs.Whole.{kept_of_whole}
use Rattle.cedar_entities.proofs.Untouched.{some_weaker}
use Rattle.cedar_entities.proofs.store.Entities.stale.Goals as goal

pub returns : goal.returns
returns c =
    let found = found_in c.args.self.now in
    some_weaker _ _ (λ some h. (
      kept_of_whole found (c.args.self.now.closed h.0),
      (c.in_ok-edited.edited.keys, c.in_ok-edited.ensures, subst (Covers found c.in_ok-edited.edited.keys) (sym h.1) c.in_ok-uids.ensures),
    )) c.few.result c.few.ensures

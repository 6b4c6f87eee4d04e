-- What is listed at the place that stands there is found there (Growing).
use Rattle.std.proofs.Common.{ap, ◌∙◌}
use Rattle.cedar_policy_set.specs.ClosedPlaces.{position_of}
use Rattle.cedar_policy_set.proofs.Growing.{counted, found_there}
use Rattle.cedar_policy_set.proofs.scope_index.index.ScopeIndex.push.Goals as goal

pub returns-clause-found : goal.returns-clause-found
returns-clause-found c =
    found_there c.list.new.self _ c.place-place.result c.args.self.now.len _ _
    (ap (λ gaps. position_of gaps.taken.items c.place-place.result) c.list.ensures.gaps ∙ c.place-place.ensures.here)
    (c.in_ok-list.ensures.found _ _ c.key_of.ensures)

pub returns-clause-kept : goal.returns-clause-kept
returns-clause-kept c = λ p b s found. counted c.list.new.self _ p b s (c.list.ensures.kept p b s found)

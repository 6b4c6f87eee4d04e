-- The lemmas of StayingContexts, by the laws of contexts that are evaluated again and of what errs in data.
use Rattle.cedar_requests.proofs.StayingContexts.{told_stay}
use Rattle.cedar_requests.proofs.laws.told_contexts_stay.Goals as goal

pub returns : goal.returns
returns c = told_stay c.leaves_dont_matter.ensures c.contexts_stay.ensures c.told_contexts_are_evaluated.ensures c.data_errs_in_parts.ensures

-- The members of a set rise, so that a binary search finds each of them, and nothing else.
use Rattle.std.proofs.Common.{◌∙◌}
use Rattle.cedar_telling.proofs.JoinedIds.{found}
use Rattle.cedar_telling.proofs.joining.has.Goals as goal

pub returns : goal.returns
returns c = c.is_ok.ensures.value ∙ found c.args.ids.now c.as_slice.result.now c.args.id.now c.binary_search.result c.as_slice.ensures c.binary_search.ensures.bound c.binary_search.ensures.position

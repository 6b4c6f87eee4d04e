-- Equality of contexts is that of what contracts see of them, which it decides.
use Rattle.cedar_requests.specs.Contexts.{context_part}
use Rattle.cedar_requests.specs.Sameness.{part_decides}
use Rattle.cedar_requests.proofs.laws.equality_is_sameness.Goals as goal

pub returns : goal.returns
returns c = λ d e. part_decides (context_part d) (context_part e)

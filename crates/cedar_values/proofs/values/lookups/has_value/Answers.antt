-- In a list that rises strictly a search by halves finds what ties with the value, and that is the value.
use Rattle.cedar_values.proofs.Sets.{found}
use Rattle.cedar_values.proofs.values.lookups.has_value.Goals as goal

pub returns : goal.returns
returns c = rw c.is_ok.ensures.value (found c.args.members.now c.args.value.now c.binary_search.result c.requires c.binary_search.ensures.bound c.binary_search.ensures.position)

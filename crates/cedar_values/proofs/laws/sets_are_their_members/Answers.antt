-- A list that rises is the language's set of its members, and such a set is determined by these.
use Rattle.cedar_values.proofs.Sameness.{by_members}
use Rattle.cedar_values.proofs.laws.sets_are_their_members.Goals as goal

pub returns : goal.returns
returns c = by_members c.sets_are_finite.ensures

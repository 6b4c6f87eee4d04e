-- Each constraint settles by what is given of its part, a conjunction from the left, and a set holds the uids it lists.
use Rattle.cedar_world.proofs.Scope.{scopes_settle as law}
use Rattle.cedar_world.proofs.scopes_settle.Goals as goal

pub returns : goal.returns
returns c = law

-- A key that stands there already adds nothing.
use Rattle.cedar_closure.proofs.KeysFound.{union_of_old}
use Rattle.cedar_closure.proofs.keys.FoundKeys.number_of.Goals as goal

pub returns-in-Some-clause-union : goal.returns-in-Some-clause-union
returns-in-Some-clause-union g c = union_of_old g.met.K.Eq.laws c.args.self.now.keys.items c.args.key.now c.in-Some.number c.in-Some.ensures.found

-- Where the place matches nothing, the last wildcard takes one character more, and less is left.
use Rattle.std.proofs.Common.{refl}
use Rattle.cedar_literals.proofs.Turns.{later_turn}
use Rattle.cedar_literals.proofs.matching.Search.later.Goals as goal

pub returns : goal.returns
returns c =
    later_turn c.args.self.start c.args.self.at c.in_ok-start.start (record { elems = c.in_ok-start.start.elems; rest = c.in_ok-rest.rest }) c.in_ok-rest.field-0-0
    c.in_ok-start.was c.in_ok-rest.ensures refl c.requires.come c.requires.fails

-- Kind by kind; of a record the keys of its tree are fed.
use Rattle.std.proofs.Common.{rules}
use Rattle.cedar_shapes.proofs.MarkOrder.{held-Record}
use Rattle.cedar_shapes.proofs.marks.feed_mark.Goals as goal

pub returns-in-Record : goal.returns-in-Record
returns-in-Record g c =
    let held = held-Record g.row.T.Denot c.args.kind.now c.in-Record.entries c.in-Record.is in
    search (rules, held)

-- Kind by kind; what stands in the mark of a record are its keys.
use Rattle.std.proofs.Common.{rules}
use Rattle.cedar_shapes.proofs.MarkOrder.{record_node, record_sort}
use Rattle.cedar_shapes.proofs.marks.held_by.Goals as goal

pub returns-in-Record-clause-node : goal.returns-in-Record-clause-node
returns-in-Record-clause-node g c =
    let made = record_node g.row.T.Denot c.args.kind.now c.in-Record.entries c.in-Record.is in
    search (rules, made)

pub returns-in-Record-clause-sort : goal.returns-in-Record-clause-sort
returns-in-Record-clause-sort g c = record_sort g.row.T.Denot c.args.kind.now c.in-Record.entries c.in-Record.is

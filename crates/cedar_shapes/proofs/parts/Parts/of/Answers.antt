-- The parts of a call, a set and a record are what their lists and maps hold; the others' are their operands.
use Rattle.std.proofs.Common.{rules}
use Rattle.cedar_shapes.proofs.Listing.{parts-Call, parts-Set, parts-Record}
use Rattle.cedar_shapes.proofs.parts.Parts.of.Goals as goal

pub returns-in-ExtensionFunctionApp : goal.returns-in-ExtensionFunctionApp
returns-in-ExtensionFunctionApp g c =
    let are = parts-Call g.row.T.Denot c.args.expr.now c.in-ExtensionFunctionApp.fn_name c.in-ExtensionFunctionApp.args c.in-ExtensionFunctionApp.is in
    search (rules, are)

pub returns-in-Set : goal.returns-in-Set
returns-in-Set g c =
    let are = parts-Set g.row.T.Denot c.args.expr.now c.in-Set.items c.in-Set.is in
    search (rules, are)

pub returns-in-Record : goal.returns-in-Record
returns-in-Record g c =
    let are = parts-Record g.row.T.Denot c.args.expr.now c.in-Record.entries c.in-Record.is in
    search (rules, are)

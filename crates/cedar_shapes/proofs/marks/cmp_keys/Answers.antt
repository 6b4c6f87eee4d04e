-- The keys that a map's iterator gives are those of its tree, in the same order.
use Rattle.std.proofs.Common.{rules}
use Rattle.cedar_shapes.proofs.Listing.{entries_keys}
use Rattle.cedar_shapes.proofs.marks.cmp_keys.Goals as goal

pub loop-key-init : goal.loop-key-init
loop-key-init g c =
    let a = entries_keys g.row.T.Denot c.args.a.now.entries in
    let b = entries_keys g.row.U.Denot c.args.b.now.entries in
    search (rules, a, b)

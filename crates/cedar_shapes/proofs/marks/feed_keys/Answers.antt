-- To walk a map's keys is to walk those of its tree.
use Rattle.std.proofs.Common.{rules}
use Rattle.cedar_shapes.proofs.Listing.{entries_keys}
use Rattle.cedar_shapes.proofs.marks.feed_keys.Goals as goal

pub loop-key-init : goal.loop-key-init
loop-key-init g c =
    let are = entries_keys g.row.T.Denot c.args.entries.now.entries in
    search (rules, are)

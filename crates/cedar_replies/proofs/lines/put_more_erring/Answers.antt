-- As put_more_ids does, of ids with their kinds.
use Rattle.std.proofs.Common.{◌≡◌, take, take_all}
use Rattle.cedar_replies.proofs.Lists.{item_more}
use Rattle.cedar_replies.specs.Lines.{with_name}
use Rattle.cedar_replies.proofs.lines.put_more_erring.Goals as goal

pub loop-entry-preserved : goal.loop-entry-preserved
loop-entry-preserved g c =
    item_more with_name _ _ _ _ _ _ _ _ c.args.entries.now c.loop-entry.entry-index c.entry-item.result c.loop-entry-test.true c.entry-item.is c.loop-entry.invariant c.put.ensures c.put_erring_id.ensures

pub returns : goal.returns
returns g c =
    let all : take c.loop-entry.entry-index c.args.entries.now ≡ c.args.entries.now = take_all c.loop-entry.entry-index c.args.entries.now c.loop-entry-test.false in
    rw all at c.loop-entry.invariant

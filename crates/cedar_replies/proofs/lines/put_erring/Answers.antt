-- As put_ids does, of ids with their kinds.
use Rattle.cedar_replies.specs.Lines.{with_name}
use Rattle.cedar_replies.proofs.Lists.{items_listed}
use Rattle.cedar_replies.proofs.lines.put_erring.Goals as goal

pub returns : goal.returns
returns g c =
    items_listed with_name _ _ _ _ _ _ _ _ _ _ c.args.entries.now c.in-Some.first.now c.in-Some.others.now c.in-Some.ensures.cases.0 c.put-2.ensures c.put_erring_id.ensures c.put_more_erring.ensures c.put-3.ensures

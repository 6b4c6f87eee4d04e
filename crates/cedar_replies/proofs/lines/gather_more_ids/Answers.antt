-- What is gathered is that of the ids so far; each turn adds one more behind what parts it from the one before.
use Rattle.std.proofs.Common.{◌≡◌, ◌++◌, take, take_all, append-nil, sym, subst, codes}
use Rattle.cedar_replies.specs.Gathering.{WritesAll}
use Rattle.cedar_replies.specs.Lines.{reopened}
use Rattle.cedar_replies.proofs.Lists.{id_more}
use Rattle.cedar_replies.proofs.lines.gather_more_ids.Goals as goal

pub loop-id-init : goal.loop-id-init
loop-id-init g c = λ start past all. subst (WritesAll g.W.Write.contents start c.args.writer.now c.args.gathered.now.bytes) (sym (append-nil past)) all

pub loop-id-preserved : goal.loop-id-preserved
loop-id-preserved g c = λ start past all.
    let ids = c.args.ids.now in
    let before = past ++ reopened (take c.loop-id.id-index ids) in
    let id = rw c.as_str.ensures at c.gather_escaped.ensures in
    subst (WritesAll g.W.Write.contents start c.gather_escaped.new.writer c.gather_escaped.new.gathered.bytes) (id_more past ids c.loop-id.id-index c.id-item.result c.loop-id-test.true c.id-item.is)
    (id start (before ++ codes "\",\"") (c.gather.ensures start before (c.loop-id.invariant start past all)))

pub returns : goal.returns
returns g c = λ start past all.
    let whole : take c.loop-id.id-index c.args.ids.now ≡ c.args.ids.now = take_all c.loop-id.id-index c.args.ids.now c.loop-id-test.false in
    subst (λ l. WritesAll g.W.Write.contents start c.loop-id.writer c.loop-id.gathered.bytes (past ++ reopened l)) whole (c.loop-id.invariant start past all)

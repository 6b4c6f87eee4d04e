-- A text without a byte that is escaped is gathered as it is; any other is put behind what was gathered.
use Rattle.std.proofs.Common.{◌++◌, sym, subst}
use Rattle.cedar_frames.specs.Quoting.{escaped_all}
use Rattle.cedar_replies.specs.Gathering.{WritesAll}
use Rattle.cedar_replies.proofs.Gathered.{all_put}
use Rattle.cedar_replies.proofs.gathering.gather_escaped.Goals as goal

pub returns-then-is_plain : goal.returns-then-is_plain
returns-then-is_plain g c = λ start past all.
    subst (λ t. WritesAll g.W.Write.contents start c.gather.new.writer c.gather.new.gathered.bytes (past ++ t)) (sym (c.is_plain.ensures c.if-is_plain.true))
    (c.gather.ensures start past all)

pub returns : goal.returns
returns g c = λ start past all.
    all_put _ _ _ _ _ _ _ _ c.args.gathered.now.bytes _ past (escaped_all c.args.text.now) all c.put_gathered.ensures c.put_escaped.ensures c.clear.ensures

-- A list in brackets is its first id, and then each further one; what parts two ids closes the one and opens the other.
use Rattle.std.proofs.Common.{◌≡◌, [], ◌++◌, map, codes, sym, ap, subst, ◌∙◌}
use Rattle.cedar_frames.specs.Quoting.{escaped_all, quoted}
use Rattle.cedar_frames.specs.Writing.{Writes}
use Rattle.cedar_world.specs.Lines.{listed}
use Rattle.cedar_replies.specs.Lines.{reopened}
use Rattle.cedar_replies.proofs.Gathered.{nothing_gathered, gathered_put}
use Rattle.cedar_replies.proofs.Lists.{closed_is_listed}
use Rattle.cedar_replies.proofs.lines.put_ids.Goals as goal

pub returns : goal.returns
returns g c =
    let start = c.args.writer.now in
    let first = c.in-Some.first.now in
    let others = c.in-Some.others.now in
    let id = rw c.as_str.ensures at c.gather_escaped.ensures in
    let begun = codes "[\"" ++ escaped_all first in
    let opened = c.gather.ensures start [] (nothing_gathered _ _ _ c.new-gathered.ensures) in
    let all = c.gather-2.ensures start (begun ++ reopened others) (c.gather_more_ids.ensures start begun (id start (codes "[\"") opened)) in
    let whole : ((begun ++ reopened others) ++ codes "\"]") ≡ listed (map quoted c.args.ids.now) = closed_is_listed first others ∙ ap (λ l. listed (map quoted l)) (sym c.in-Some.ensures.cases.0) in
    subst (Writes g.W.Write.contents start c.put_gathered.new.writer) whole (gathered_put _ _ _ _ _ _ _ _ all c.put_gathered.ensures)

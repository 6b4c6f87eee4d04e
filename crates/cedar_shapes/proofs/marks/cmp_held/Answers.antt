-- Each sort of what is held has its own order; that of a pattern goes by its elements.
use Rattle.std.proofs.Common.{rules}
use Rattle.cedar_shapes.proofs.MarkOrder.{elems_cmp}
use Rattle.cedar_shapes.proofs.marks.cmp_held.Goals as goal

pub returns-in-Pattern-Pattern : goal.returns-in-Pattern-Pattern
returns-in-Pattern-Pattern g c =
    let elems = elems_cmp c.in-Pattern-Pattern.a.now c.in-Pattern-Pattern.b.now in
    search (rules, elems)

-- No candidate before the index is declared, so the search from there on finds the one that stands there.
use Rattle.std.proofs.Common.{sym, ◌∙◌}
use Rattle.cedar_names.proofs.Finding.{find-here}
use Rattle.cedar_names.proofs.raw_names.ConditionalName.first_defined.Goals as goal

pub returns-then-is_defined : goal.returns-then-is_defined
returns-then-is_defined c =
    let below = rw c.deref-name-items.ensures.value at c.loop-index-test.true in
    let is = rw c.deref-name-items.ensures.value at c.name-item.is in
    (below, c.loop-index.invariant ∙ find-here _ _ _ _ below is (sym c.is_defined.ensures ∙ c.if-is_defined.true))

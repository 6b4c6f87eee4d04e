use Rattle.std.proofs.Common.{◌≡◌, ◌||◌, drop}
use Rattle.std.specs.Set.{is_member}
use Rattle.cedar_closure.specs.Numbering.{is_numbered}
use Rattle.cedar_closure.proofs.numbering.keys_at.Given as goal

abbrev pub invariant-loop-number : goal.invariant-loop-number
invariant-loop-number g l =
    let eq = g.K.PartialEq.eq in
    (q : g.row.K.Denot) → (is_member eq l.all.items q || is_numbered eq l.keys (drop l.number-index l.numbers) q) ≡ is_numbered eq l.keys l.numbers q

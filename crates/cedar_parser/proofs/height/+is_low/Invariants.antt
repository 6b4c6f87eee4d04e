use Rattle.std.proofs.Common.{◌≡◌, ◌+◌, ◌*◌}
use Rattle.std.specs.Prelude.{nat_le}
use Rattle.cedar_shapes.specs.Parts.{highest}
use Rattle.cedar_shapes.specs.PartsLeft.{parts_left}
use Rattle.cedar_parser.proofs.height.+is_low.Given as goal

abbrev pub decreases-is_low : goal.decreases-is_low
decreases-is_low g l = 2 * l.depth

abbrev pub decreases-are_low : goal.decreases-are_low
decreases-are_low g l = 2 * l.depth + 1

abbrev pub invariant-are_low-loop-part : goal.invariant-are_low-loop-part
invariant-are_low-loop-part g l =
    nat_le (highest (parts_left l.initial.part-iterator)) l.depth ≡ nat_le (highest (parts_left l.part-iterator)) l.depth

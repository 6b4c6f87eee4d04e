use Rattle.std.proofs.Common.{◌≡◌, ◌+◌, ◌≤◌, length}
use Rattle.std.specs.Prelude.{min}
use Rattle.cedar_tokens.specs.View.{mark_view}
use Rattle.cedar_grammar.specs.Steps.{signs_of}
use Rattle.cedar_loose.proofs.cursor.Cursor.count.Given as goal

abbrev pub invariant-marks : goal.invariant-marks
invariant-marks l = record {
  few : l.found ≤ 255;
  count : min (l.found + (signs_of (mark_view l.mark) l.self).0) 255 ≡ min (signs_of (mark_view l.mark) l.initial.self).0 255;
  after : (signs_of (mark_view l.mark) l.self).1 ≡ (signs_of (mark_view l.mark) l.initial.self).1;
}

abbrev pub decreases-marks : goal.decreases-marks
decreases-marks l = length l.self

-- Marks of two characters go first, so one of one character is the longest where none of two begins.
use Rattle.std.proofs.Common.{◌≡◌, List, ℕ, Option, Some, None}
use Rattle.std.specs.Prelude.{MatchOption}
use Rattle.std.specs.Str.{chars}
use denote.Ref.{Bor}
use Rattle.cedar_grammar.specs.Tokens.{all_marks, mark_among}
use Rattle.cedar_tokens.specs.declared.tokens.Mark.{Mark}
use Rattle.cedar_tokens.specs.View.{mark_view}
use Rattle.cedar_tokens.specs.Marks.{StartsNoComment, StartsWithNone, StartsWithMark, ReadsMark}
use Rattle.cedar_tokens.proofs.MarkReading.{marked, double-stops, single-marks, no_mark}
use Rattle.cedar_tokens.proofs.marks.split_mark.Goals as goal

single : (text : List ℕ) → StartsWithNone 2 (chars text) → StartsNoComment (chars text) → (r : Option (Mark × Bor (List ℕ))) → MatchOption r (StartsWithNone 1 (chars text)) (λ x. StartsWithMark 1 text (mark_view x.0) x.1.now)
    → MatchOption r (mark_among all_marks (chars text) ≡ None) (λ x. ReadsMark text (mark_view x.0) x.1.now)
single text two comment None h = no_mark (chars text) two h
single text two comment (Some x) h =
    let ends = single-marks (mark_view x.0) (chars text) (chars x.1.now) h.characters two comment in
    record { token = marked (mark_view x.0) (chars text) (chars x.1.now) h.characters ends; cut = h.cut; shorter = h.shorter }

pub returns-in-None : goal.returns-in-None
returns-in-None c = single c.args.text.now c.in-None.ensures c.requires c.split_single.result c.split_single.ensures

pub returns-in-Some : goal.returns-in-Some
returns-in-Some c =
    let h = c.in-Some.ensures in
    record {
      token = marked (mark_view c.in-Some.found.0) (chars c.args.text.now) (chars c.in-Some.found.1.now) h.characters (double-stops (mark_view c.in-Some.found.0) (chars c.in-Some.found.1.now) h.width);
      cut = h.cut;
      shorter = h.shorter;
    }

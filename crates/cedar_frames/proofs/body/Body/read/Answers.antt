-- What was taken and what is left are the length; all that was taken is held while there is memory, so what isn't held has a
-- byte.
use Rattle.std.proofs.Common.{◌≡◌, ◌++◌, ◌≤◌, ◌<◌, ◌+◌, length, take, rules, arith, length-append}
use Rattle.std.proofs.lemmas.List.{length-take-le}
use Rattle.std.proofs.lemmas.Grind.{common_steps}
use Rattle.cedar_frames.proofs.Bytes.{consumes_more, not_nil}
use Rattle.cedar_frames.proofs.body.Body.read.Goals as goal
use Rattle.cedar_frames.proofs.body.Body.read.Goals.{then-held, else-held, then-held-2, else-held-2}

pub loop-left-preserved : goal.loop-left-preserved
loop-left-preserved g c =
    let before = c.loop-left.invariant.read in
    let piece = take c.in_ok-count.count c.read_piece.new.scratch in
    let fits : c.in_ok-count.count ≤ length c.read_piece.new.scratch = search rules in
    let len : length piece ≡ c.in_ok-count.count = length-take-le _ _ fits in
    let joined : length (before.0 ++ piece) ≡ length before.0 + length piece = length-append before.0 piece in
    let some : 0 < length (before.0 ++ piece) = omega (arith, joined, len, c.if-count-eq0.false) in
    record {
      sound = search rules;
      read = (before.0 ++ piece, omega (arith, before.1, c.min.ensures, c.in_ok-count.ensures.within), consumes_more _ _ _ before.0 piece before.2 c.in_ok-count.ensures.bytes, λ h. elim c.if-held.branch [ then-held w ↦ let was = before.3 w.if-held.true in grind (arith, common_steps) | else-held w ↦ grind (arith, common_steps) ], λ h. not_nil (before.0 ++ piece) some);
    }

pub returns-clause-body : goal.returns-clause-body
returns-clause-body g c =
    let read = c.loop-left.invariant.read in
    let whole : length read.0 ≡ c.args.len = omega (arith, read.1) in
    (read.0, read.2, (whole, elim c.if-held-2.branch [ then-held-2 w ↦ rw w.result-is (read.3 w.if-held-2.true) | else-held-2 w ↦ rw w.result-is (read.4 w.if-held-2.false) ]))

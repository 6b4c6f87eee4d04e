-- The bytes in front are written, and each write takes the next ones of the rest.
use Rattle.std.proofs.Common.{◌≡◌, ◌∙◌, false, arith, rules}
use Rattle.std.proofs.lemmas.List.{length-drop}
use Rattle.cedar_frames.specs.Watching.{watched_failed}
use Rattle.cedar_frames.proofs.Bytes.{appends_tail, tail_is_drop, puts_until}
use Rattle.std.proofs.lemmas.Grind.{common_steps}
use Rattle.cedar_frames.proofs.writing.put.Goals as goal

pub loop-at-preserved : goal.loop-at-preserved
loop-at-preserved g c = record {
  in_range = let fits = simp (tail_is_drop, length-drop) at c.in-Ok.ensures.bound in omega arith;
  sound = grind (arith, common_steps);
  written = appends_tail _ _ _ c.args.bytes.now c.loop-at.at c.in-Ok.count c.loop-at.invariant.written c.in-Ok.ensures.bytes;
}

pub returns-in_default-2 : goal.returns-in_default-2
returns-in_default-2 g c =
    let fresh : watched_failed c.args.writer.now ≡ false = search rules in
    puts_until _ _ _ _ _ c.args.bytes.now c.loop-at.at fresh c.in_default.ensures.failed (c.in_default.ensures.late ∙ c.loop-at.invariant.sound) c.loop-at-test.true c.loop-at.invariant.written
    c.in_default.ensures.bytes

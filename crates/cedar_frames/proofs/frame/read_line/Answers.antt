-- The bytes so far are those taken, none of them a line feed; 33 are more than a head has.
use Rattle.std.proofs.Common.{◌≡◌, ◌≤◌, ◌<◌, length, take, rules, arith}
use Rattle.std.proofs.lemmas.List.{length-take-le, take_more_set}
use Rattle.cedar_frames.proofs.Bytes.{consumes_more, consumes_none, not_nil}
use Rattle.cedar_frames.proofs.Heads.{lacks_more}
use Rattle.cedar_frames.proofs.frame.read_line.Goals as goal

pub returns-else-at-eq0-clause-line : goal.returns-else-at-eq0-clause-line
returns-else-at-eq0-clause-line g c =
    let end = rw c.in_default.is at c.in_ok-byte.ensures.end in
    let within : c.loop-at.at ≤ length c.loop-at.line = omega arith in
    let len : length (take c.loop-at.at c.loop-at.line) ≡ c.loop-at.at = length-take-le c.loop-at.at c.loop-at.line within in
    let some : 0 < length (take c.loop-at.at c.loop-at.line) = omega (arith, len) in
    let short : length (take c.loop-at.at c.loop-at.line) ≤ 32 = omega (arith, len) in
    (take c.loop-at.at c.loop-at.line, consumes_none _ _ _ _ c.loop-at.invariant.read end.0, ((short, c.loop-at.invariant.open_line), not_nil _ some, end.1))

pub loop-at-preserved : goal.loop-at-preserved
loop-at-preserved g c =
    let got = rw c.in-Some.is at c.in_ok-byte.ensures.byte in
    let within : c.loop-at.at < length c.loop-at.line = omega arith in
    let more = take_more_set c.loop-at.line c.loop-at.at c.in-Some.byte within in
    record {
      room = search rules;
      sound = search rules;
      read = rw more (consumes_more _ _ _ _ _ c.loop-at.invariant.read got);
      open_line = rw more (lacks_more 10 (take c.loop-at.at c.loop-at.line) c.in-Some.byte c.loop-at.invariant.open_line c.if-byte-eq10.false);
    }

pub returns-clause-line : goal.returns-clause-line
returns-clause-line g c =
    let at : c.loop-at.at ≡ 33 = omega arith in
    let within : c.loop-at.at ≤ length c.loop-at.line = omega arith in
    let len : length (take c.loop-at.at c.loop-at.line) ≡ c.loop-at.at = length-take-le c.loop-at.at c.loop-at.line within in
    (take c.loop-at.at c.loop-at.line, c.loop-at.invariant.read, (omega (arith, len, at), c.loop-at.invariant.open_line))

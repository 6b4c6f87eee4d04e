-- A line that is a head opens a frame, which the body and the byte behind it make whole, cut or overrun.
use Rattle.std.proofs.Common.{[], ◌∷◌, ◌++◌, arith, le_of_lt}
use Rattle.std.proofs.lemmas.Result.{err_from_is_err_and}
use Rattle.cedar_frames.proofs.Bytes.{consumes_more, consumes_none}
use Rattle.cedar_frames.proofs.Frames.{head_line, open_frame, not_empty, whole_frame, overrun}
use Rattle.cedar_frames.proofs.frame.next_frame.Goals as goal

pub returns-in_err-body-clause-err : goal.returns-in_err-body-clause-err
returns-in_err-body-clause-err g c =
    let line = rw c.in-Whole.is at c.in_ok-read_line.ensures.line in
    let opens = head_line line.0 c.read_line.new.line c.in-Whole.len c.in-Opens.size c.in-Opens.verb line.2.0 line.2.1 c.in-Opens.ensures.0 in
    let part = c.in_err-body.ensures.err in
    let p = err_from_is_err_and c.from_residual-in_err-body.result c.from_residual-in_err-body.ensures.1 in
    rw p.1 (line.0 ++ part.0, consumes_more _ _ _ line.0 part.0 line.1 part.1, open_frame line.0 part.0 c.in-Opens.verb c.in-Opens.size opens c.in-Opens.ensures.1 (le_of_lt part.2))

pub returns-in_default-clause-next : goal.returns-in_default-clause-next
returns-in_default-clause-next g c =
    let line = rw c.in-Whole.is at c.in_ok-read_line.ensures.line in
    let opens = head_line line.0 c.read_line.new.line c.in-Whole.len c.in-Opens.size c.in-Opens.verb line.2.0 line.2.1 c.in-Opens.ensures.0 in
    let part = rw c.in_default.is at c.in_ok-body.ensures.body in
    let partial = open_frame line.0 part.0 c.in-Opens.verb c.in-Opens.size opens c.in-Opens.ensures.1 (le_of_lt part.2.0) in
    (line.0 ++ part.0, consumes_more _ _ _ line.0 part.0 line.1 part.1, ((partial, not_empty line.0 part.0 c.in-Opens.verb c.in-Opens.size opens), λ _. part.2.1, λ e. cc))

pub returns-in_err-byte-clause-err : goal.returns-in_err-byte-clause-err
returns-in_err-byte-clause-err g c =
    let line = rw c.in-Whole.is at c.in_ok-read_line.ensures.line in
    let opens = head_line line.0 c.read_line.new.line c.in-Whole.len c.in-Opens.size c.in-Opens.verb line.2.0 line.2.1 c.in-Opens.ensures.0 in
    let part = rw c.in-Whole-2.is at c.in_ok-body.ensures.body in
    let both = consumes_more _ _ _ line.0 part.0 line.1 part.1 in
    let p = err_from_is_err_and c.from_residual-in_err-byte.result c.from_residual-in_err-byte.ensures.1 in
    rw p.1 (line.0 ++ part.0, consumes_none _ _ _ _ both c.in_err-byte.ensures.err, open_frame line.0 part.0 c.in-Opens.verb c.in-Opens.size opens c.in-Opens.ensures.1 (omega (arith, part.2.0)))

pub returns-in_default-2-clause-next : goal.returns-in_default-2-clause-next
returns-in_default-2-clause-next g c =
    let line = rw c.in-Whole.is at c.in_ok-read_line.ensures.line in
    let opens = head_line line.0 c.read_line.new.line c.in-Whole.len c.in-Opens.size c.in-Opens.verb line.2.0 line.2.1 c.in-Opens.ensures.0 in
    let part = rw c.in-Whole-2.is at c.in_ok-body.ensures.body in
    let both = consumes_more _ _ _ line.0 part.0 line.1 part.1 in
    let end = rw c.in_default-2.is at c.in_ok-byte.ensures.end in
    let partial = open_frame line.0 part.0 c.in-Opens.verb c.in-Opens.size opens c.in-Opens.ensures.1 (omega (arith, part.2.0)) in
    (line.0 ++ part.0, consumes_none _ _ _ _ both end.0, ((partial, not_empty line.0 part.0 c.in-Opens.verb c.in-Opens.size opens), λ _. end.1, λ e. cc))

pub returns-then-byte-eq10-clause-next : goal.returns-then-byte-eq10-clause-next
returns-then-byte-eq10-clause-next g c =
    let line = rw c.in-Whole.is at c.in_ok-read_line.ensures.line in
    let opens = head_line line.0 c.read_line.new.line c.in-Whole.len c.in-Opens.size c.in-Opens.verb line.2.0 line.2.1 c.in-Opens.ensures.0 in
    let part = rw c.in-Whole-2.is at c.in_ok-body.ensures.body in
    let both = consumes_more _ _ _ line.0 part.0 line.1 part.1 in
    let got = rw c.in-Some.is at c.in_ok-byte.ensures.byte in
    let feed = rw c.if-byte-eq10.true at got in
    ((line.0 ++ part.0) ++ 10 ∷ [], consumes_more _ _ _ (line.0 ++ part.0) (10 ∷ []) both feed, (part.0, whole_frame line.0 part.0 c.in-Opens.verb c.in-Opens.size opens c.in-Opens.ensures.1 part.2.0, part.2.1))

pub returns-else-byte-eq10-clause-next : goal.returns-else-byte-eq10-clause-next
returns-else-byte-eq10-clause-next g c =
    let line = rw c.in-Whole.is at c.in_ok-read_line.ensures.line in
    let opens = head_line line.0 c.read_line.new.line c.in-Whole.len c.in-Opens.size c.in-Opens.verb line.2.0 line.2.1 c.in-Opens.ensures.0 in
    let part = rw c.in-Whole-2.is at c.in_ok-body.ensures.body in
    let both = consumes_more _ _ _ line.0 part.0 line.1 part.1 in
    let got = rw c.in-Some.is at c.in_ok-byte.ensures.byte in
    let wrong = overrun line.0 part.0 c.in-Opens.verb c.in-Opens.size c.in-Some.byte opens c.in-Opens.ensures.1 part.2.0 c.if-byte-eq10.false in
    ((line.0 ++ part.0) ++ c.in-Some.byte ∷ [], consumes_more _ _ _ (line.0 ++ part.0) (c.in-Some.byte ∷ []) both got, (wrong, λ e. absurd (cc), λ e. cc))

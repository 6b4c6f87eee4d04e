-- What is written so far is the bytes that were passed, escaped.
use Rattle.std.proofs.Common.{◌≡◌, [], ◌++◌, sym, ap, ◌∙◌, subst}
use Rattle.cedar_frames.specs.Writing.{Writes}
use Rattle.cedar_frames.specs.Quoting.{escaped_all}
use Rattle.cedar_frames.proofs.Bytes.{puts_more, puts_nothing}
use Rattle.cedar_frames.proofs.Quotes.{more_written}
use Rattle.cedar_frames.proofs.quoting.put_escaped.Goals as goal

pub escapes-init : goal.escapes-init
escapes-init g c = ([], sym (ap escaped_all c.as_bytes-rest.ensures.value), puts_nothing _ _)

pub escapes-preserved : goal.escapes-preserved
escapes-preserved g c =
    let i = c.escapes.invariant in
    let s = c.in-Some in
    let plain = puts_more _ _ _ _ _ _ i.0 s.plain.now i.2 c.put.ensures in (
      i.0 ++ s.plain.now ++ s.written.now,
      more_written (escaped_all c.args.text.now) i.0 s.plain.now s.written.now (escaped_all c.escapes.rest.now) (escaped_all s.after.now) i.1 s.ensures.parts,
      puts_more _ _ _ _ _ _ (i.0 ++ s.plain.now) s.written.now plain c.put-in-Some.ensures,
    )

pub returns : goal.returns
returns g c =
    let i = c.escapes.invariant in
    let whole : i.0 ++ c.escapes.rest.now ≡ escaped_all c.args.text.now = sym (i.1 ∙ ap (λ l. i.0 ++ l) c.in_default.ensures.parts) in
    subst (Writes g.W.Write.contents c.args.writer.now c.put-2.new.writer) whole
    (puts_more _ _ _ _ _ _ i.0 c.escapes.rest.now i.2 c.put-2.ensures)

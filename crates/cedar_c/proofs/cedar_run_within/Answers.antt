-- The text stands at the front of the output, or would take so many bytes.
use Rattle.std.proofs.Common.{◌≡◌, ℕ, List, ◌++◌, length, take, drop, sym, ap, ◌∙◌, subst}
use Rattle.std.proofs.Math.Seq.{take-append_seam}
use Rattle.cedar_session.specs.InMemory.{AnswersAllWithin}
use Rattle.cedar_session.proofs.ReadBack.{one_of_both}
use Rattle.cedar_c.proofs.cedar_run_within.Goals as goal

pub returns-then-copy_out-clause-end : goal.returns-then-copy_out-clause-end
returns-then-copy_out-clause-end c = λ ended.
    let text = c.in-Ok.outcome.text.items in
    let is : c.as_slice.result.now ≡ text = c.as_slice.ensures.value in
    let count : c.len.result ≡ length text = c.len.ensures ∙ (sym c.as_slice.ensures.len ∙ ap length is) in
    let copied = c.copy_out.ensures.copied c.if-copy_out.true in
    let front : take (length text) c.copy_out.new.output ≡ text =
    ap (take (length text)) (copied ∙ ap (λ (xs : List ℕ). xs ++ drop (length xs) c.args.output.now) is) ∙ take-append_seam text (drop (length text) c.args.output.now) in
    subst (AnswersAllWithin c.args.depth c.args.input.now) (sym (ap (λ (n : ℕ). take n c.copy_out.new.output) count ∙ front)) (c.in-Ok.ensures.end ended)

pub returns-clause-needs : goal.returns-clause-needs
returns-clause-needs c = λ told.
    let is : c.as_slice.result.now ≡ c.in-Ok.outcome.text.items = c.as_slice.ensures.value in (
      c.in-Ok.outcome.text.items,
      one_of_both c.in-Ok.outcome.status c.in-Ok.ensures.status c.in-Ok.ensures.end c.in-Ok.ensures.fault,
      ap length (sym is) ∙ (c.as_slice.ensures.len ∙ sym c.len.ensures),
    )

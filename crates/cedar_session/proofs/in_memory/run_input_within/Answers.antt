-- Rests on what the program says of its devices, and on what they are here: the input, and a deque that is read back.
use Rattle.std.proofs.Common.{◌++◌, Some, refl, ap, sym, ◌∙◌}
use Rattle.cedar_frames.specs.Watching.{watched_inner}
use Rattle.cedar_session.specs.Programs.{setting_within}
use Rattle.cedar_session.proofs.ReadBack.{all_answered, answered_to_fault}
use Rattle.cedar_session.proofs.in_memory.run_input_within.Goals as goal

pub returns-in-Ok-clause-end : goal.returns-in-Ok-clause-end
returns-in-Ok-clause-end c = λ h.
    all_answered _ _ _ c.new-reader.result c.answered-status.new.input c.new-writer.result c.answered-status.new.output c.args.input.now (watched_inner c.answered-status.new.input).now c.read_to_end.new.buf.items
    (ap (λ inner. Some inner.now) c.new-reader.ensures.inner) refl
    (ap (λ inner. Some inner.items) c.new-writer.ensures.inner ∙ ap (λ items. Some items) c.new.ensures.items)
    (ap (λ items. Some items) (sym (c.in-Ok.ensures.bytes ∙ ap (λ items. items ++ (watched_inner c.answered-status.new.output).items) c.new-text.ensures.items)))
    (setting_within c.args.depth c.in_ok-extensions.extensions, (c.in_ok-extensions.extensions, c.in_ok-extensions.ensures.alone, refl), c.answered-status.ensures.end h)

pub returns-in-Ok-clause-fault : goal.returns-in-Ok-clause-fault
returns-in-Ok-clause-fault c = λ h.
    let faulty = c.answered-status.ensures.fault h in
    answered_to_fault _ _ _ c.new-reader.result c.answered-status.new.input c.new-writer.result c.answered-status.new.output c.args.input.now (watched_inner c.answered-status.new.input).now c.read_to_end.new.buf.items
    (ap (λ inner. Some inner.now) c.new-reader.ensures.inner) refl
    (ap (λ inner. Some inner.items) c.new-writer.ensures.inner ∙ ap (λ items. Some items) c.new.ensures.items)
    (ap (λ items. Some items) (sym (c.in-Ok.ensures.bytes ∙ ap (λ items. items ++ (watched_inner c.answered-status.new.output).items) c.new-text.ensures.items)))
    (setting_within c.args.depth c.in_ok-extensions.extensions, faulty.0, (c.in_ok-extensions.extensions, c.in_ok-extensions.ensures.alone, refl), faulty.1)

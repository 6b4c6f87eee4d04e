-- Rests on what `run_buffered` says of a new session, by the status that tells how it ended.
use Rattle.std.proofs.Common.{sym, ◌∙◌}
use Rattle.cedar_session.proofs.Statuses.{at_end, at_fault, at_failure, answers, fails_to_read, fails_to_write}
use Rattle.cedar_cli.proofs.answering.answer_frames.Goals as goal

pub returns-clause-end : goal.returns-clause-end
returns-clause-end g c = λ h.
    at_end _ c.run_buffered.result (sym c.status_of.ensures ∙ h) (answers _ _ _ _ _ _ _ _ c.in-Ok.ensures.setting _ c.in-Ok.ensures.world _ c.run_buffered.result c.run_buffered.ensures.none_failed c.run_buffered.ensures.sent c.run_buffered.ensures.text)

pub returns-clause-fault : goal.returns-clause-fault
returns-clause-fault g c = λ h.
    at_fault _ c.run_buffered.result (sym c.status_of.ensures ∙ h) (answers _ _ _ _ _ _ _ _ c.in-Ok.ensures.setting _ c.in-Ok.ensures.world _ c.run_buffered.result c.run_buffered.ensures.none_failed c.run_buffered.ensures.sent c.run_buffered.ensures.text)

pub returns-clause-device : goal.returns-clause-device
returns-clause-device g c = λ h.
    at_failure _ _ c.run_buffered.result (sym c.status_of.ensures ∙ h) (λ read. fails_to_read _ _ _ _ _ _ _ _ c.in-Ok.ensures.setting _ c.in-Ok.ensures.world _ (c.run_buffered.ensures.read_failed read) (c.run_buffered.ensures.sent_before_failure read) (c.run_buffered.ensures.before_failure read))
    (λ write. fails_to_write _ _ _ _ _ _ _ _ c.in-Ok.ensures.setting _ c.in-Ok.ensures.world _ (c.run_buffered.ensures.write_failed write) (c.run_buffered.ensures.cut_short write))

-- Of one error more (KeptByIds).
use Rattle.std.proofs.Common.{arith}
use Rattle.cedar_evaluator.specs.Holding.{error_seen}
use Rattle.cedar_authoring.proofs.KeptByIds.{one_more_of}
use Rattle.cedar_authoring.proofs.standing.errors_by_id.Goals as goal

pub loop-failed-preserved : goal.loop-failed-preserved
loop-failed-preserved c =
    one_more_of error_seen c.args.errors.now c.loop-failed.failed-index c.failed-item.result c.loop-failed.by_id c.add_error.new.by_id (omega arith) c.failed-item.is
    c.loop-failed.invariant c.in_ok-add_error.ensures

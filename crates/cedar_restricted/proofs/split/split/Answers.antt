-- Whether an item is a residual decides whether all are taken as values or all are written as expressions.
use Rattle.std.proofs.Common.{}
use Rattle.cedar_restricted.proofs.Splits.{any_residual}
use Rattle.cedar_restricted.proofs.split.split.Goals as goal

pub values-requires : goal.values-requires
values-requires c = any_residual c.args.items.items c.deref.result.now c.has_residual.result _ c.deref.ensures.value c.has_residual.ensures c.if-has_residual.false

pub returns-in_ok-exprs : goal.returns-in_ok-exprs
returns-in_ok-exprs c = (any_residual c.args.items.items c.deref.result.now c.has_residual.result _ c.deref.ensures.value c.has_residual.ensures c.if-has_residual.true, c.in_ok-exprs.ensures)

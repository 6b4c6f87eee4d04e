use Rattle.cedar_trees.specs.Bare.{bare}
use Rattle.cedar_shapes.specs.PositionsLeft.{positions_left}
use Rattle.cedar_extensions.specs.Table.{as_table}
use Rattle.cedar_extensions.specs.Calls.{calls_in, calls_among}
use Rattle.cedar_extensions.proofs.Fitting.{AreWrongAlike}
use Rattle.cedar_extensions.proofs.validation.validated.Given as goal

-- the calls are wrong where those are that are still to come
abbrev pub invariant-loop-part : goal.invariant-loop-part
invariant-loop-part g l = AreWrongAlike (as_table g.F.ExtensionFunctionObject.answers l.extensions) (calls_in (bare l.expr)) (calls_among (positions_left l.part-iterator))

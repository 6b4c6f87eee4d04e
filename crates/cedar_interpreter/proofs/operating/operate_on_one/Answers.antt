-- Of a value what the operator gives, and of a residual what is left of it.
use Rattle.std.proofs.Common.{◌∙◌, ap}
use Rattle.cedar_trees.specs.Bare.{bare}
use Rattle.cedar_restricted.specs.PartialValues.{partial_of}
use Rattle.cedar_interpreter.specs.Forms.{unary_operator}
use Rattle.cedar_interpreter.proofs.Operated.{one_value, one_waits}
use Rattle.cedar_interpreter.proofs.operating.operate_on_one.Goals as goal

pub returns-in-Value : goal.returns-in-Value
returns-in-Value c =
    λ facts has holds.
    one_value facts holds (unary_operator c.args.op) (partial_of c.args.part) c.in-Value.value c.apply_to_one.result (ap partial_of c.in-Value.is) (c.apply_to_one.ensures facts has)

pub returns-in_ok-wait_for_one-in-Residual : goal.returns-in_ok-wait_for_one-in-Residual
returns-in_ok-wait_for_one-in-Residual c =
    λ facts has holds.
    one_waits facts holds (unary_operator c.args.op) (partial_of c.args.part) (bare c.in-Residual.rest) (ap partial_of c.in-Residual.is) ∙ c.in_ok-wait_for_one-in-Residual.ensures facts holds

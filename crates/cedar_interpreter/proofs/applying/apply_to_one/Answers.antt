-- Each operator by its function.
use Rattle.cedar_language.specs.Operators.{applied}
use Rattle.cedar_value_operators.specs.Operands.{one}
use Rattle.cedar_interpreter.specs.Forms.{unary_operator}
use Rattle.cedar_interpreter.proofs.applying.apply_to_one.Goals as goal

pub returns-in-Applied : goal.returns-in-Applied
returns-in-Applied c = λ facts has. c.known.ensures (applied facts (unary_operator c.args.op) (one c.args.value)) (rw c.in-Applied.is (c.unary_app.ensures facts))

pub returns-in_ok-rest-in-Has : goal.returns-in_ok-rest-in-Has
returns-in_ok-rest-in-Has c = λ facts has. c.left_or_found.ensures (applied facts (unary_operator c.args.op) (one c.args.value)) (c.in_ok-rest-in-Has.ensures facts has) (rw c.in-Has.is (c.has_attr-found.ensures facts has))

pub returns-in_ok-rest-in-HasPath : goal.returns-in_ok-rest-in-HasPath
returns-in_ok-rest-in-HasPath c = λ facts has. c.left_or_found-in-HasPath.ensures (applied facts (unary_operator c.args.op) (one c.args.value)) (c.in_ok-rest-in-HasPath.ensures facts has) (rw c.in-HasPath.is (c.has_path-found.ensures facts has))

pub returns-in-Like : goal.returns-in-Like
returns-in-Like c = λ facts has. c.known-in-Like.ensures (applied facts (unary_operator c.args.op) (one c.args.value)) (rw c.in-Like.is (c.is_like.ensures facts))

pub returns-in-Is : goal.returns-in-Is
returns-in-Is c = λ facts has. c.known-in-Is.ensures (applied facts (unary_operator c.args.op) (one c.args.value)) (rw c.in-Is.is (c.is_of_type.ensures facts))

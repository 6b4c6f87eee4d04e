-- Each operator by its function.
use Rattle.cedar_language.specs.Operators.{applied}
use Rattle.cedar_literals.specs.Operators.{binary_operator_of}
use Rattle.cedar_value_operators.specs.Operands.{two}
use Rattle.cedar_interpreter.proofs.applying.apply_to_two.Goals as goal

pub returns-in-Eq : goal.returns-in-Eq
returns-in-Eq g c = λ facts has. c.known.ensures (applied facts (binary_operator_of c.args.op) (two c.args.left c.args.right)) (c.binary_relation.ensures facts)

pub returns-in-Less : goal.returns-in-Less
returns-in-Less g c = λ facts has. c.known-in-Less.ensures (applied facts (binary_operator_of c.args.op) (two c.args.left c.args.right)) (c.binary_relation-in-Less.ensures facts)

pub returns-in-LessEq : goal.returns-in-LessEq
returns-in-LessEq g c = λ facts has. c.known-in-LessEq.ensures (applied facts (binary_operator_of c.args.op) (two c.args.left c.args.right)) (c.binary_relation-in-LessEq.ensures facts)

pub returns-in-Add : goal.returns-in-Add
returns-in-Add g c = λ facts has. c.known-in-Add.ensures (applied facts (binary_operator_of c.args.op) (two c.args.left c.args.right)) (c.binary_arith.ensures facts)

pub returns-in-Sub : goal.returns-in-Sub
returns-in-Sub g c = λ facts has. c.known-in-Sub.ensures (applied facts (binary_operator_of c.args.op) (two c.args.left c.args.right)) (c.binary_arith-in-Sub.ensures facts)

pub returns-in-Mul : goal.returns-in-Mul
returns-in-Mul g c = λ facts has. c.known-in-Mul.ensures (applied facts (binary_operator_of c.args.op) (two c.args.left c.args.right)) (c.binary_arith-in-Mul.ensures facts)

pub returns-in-Contains : goal.returns-in-Contains
returns-in-Contains g c = λ facts has. c.known-in-Contains.ensures (applied facts (binary_operator_of c.args.op) (two c.args.left c.args.right)) (rw c.in-Contains.is (c.contains.ensures facts))

pub returns-in-ContainsAll : goal.returns-in-ContainsAll
returns-in-ContainsAll g c = λ facts has. c.known-in-ContainsAll.ensures (applied facts (binary_operator_of c.args.op) (two c.args.left c.args.right)) (rw c.in-ContainsAll.is (c.contains_all.ensures facts))

pub returns-in-ContainsAny : goal.returns-in-ContainsAny
returns-in-ContainsAny g c = λ facts has. c.known-in-ContainsAny.ensures (applied facts (binary_operator_of c.args.op) (two c.args.left c.args.right)) (rw c.in-ContainsAny.is (c.contains_any.ensures facts))

pub returns-in_ok-rest-in-In : goal.returns-in_ok-rest-in-In
returns-in_ok-rest-in-In g c = λ facts has. c.left_or_found.ensures (applied facts (binary_operator_of c.args.op) (two c.args.left c.args.right)) (c.in_ok-rest-in-In.ensures facts has) (rw c.in-In.is (c.is_in-found.ensures facts has))

pub returns-in_ok-rest-in-GetTag : goal.returns-in_ok-rest-in-GetTag
returns-in_ok-rest-in-GetTag g c = λ facts has. c.left_or_found-in-GetTag.ensures (applied facts (binary_operator_of c.args.op) (two c.args.left c.args.right)) (c.in_ok-rest-in-GetTag.ensures facts has) (rw c.in-GetTag.is (c.get_tag-found.ensures facts has))

pub returns-in_ok-rest-in-HasTag : goal.returns-in_ok-rest-in-HasTag
returns-in_ok-rest-in-HasTag g c = λ facts has. c.left_or_found-in-HasTag.ensures (applied facts (binary_operator_of c.args.op) (two c.args.left c.args.right)) (c.in_ok-rest-in-HasTag.ensures facts has) (rw c.in-HasTag.is (c.has_tag-found.ensures facts has))

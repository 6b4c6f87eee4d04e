-- The attribute: a store that has facts leaves none open.
use Rattle.std.specs.Rc.{rc_str_bytes}
use Rattle.cedar_language.specs.Operators.{applied}
use Rattle.cedar_language.specs.Tree.{GetAttr}
use Rattle.cedar_value_operators.specs.Operands.{one}
use Rattle.cedar_partial_evaluation.specs.Partial.{answer_of}
use Rattle.cedar_interpreter.proofs.attributes.attribute_of_value.Goals as goal

pub returns-in-Some : goal.returns-in-Some
returns-in-Some c = λ facts has holds part. let none = c.in_ok-left.ensures facts has in let some = c.in-Some.is in cc

pub returns : goal.returns
returns c =
    λ facts has holds part.
    let meant = applied facts (GetAttr (rc_str_bytes c.args.attr.now)) (one c.args.value) in
    c.done.ensures facts holds part (answer_of meant) (c.known.ensures meant (c.get_attr-found.ensures facts has))

-- With a type and an operator, what is asked is made of both, once the target is found.
use Rattle.cedar_policy_parts.specs.References.{target_of}
use Rattle.cedar_policy_parts.specs.Asked.{constraint_of}
use Rattle.cedar_policy_conversion.specs.Own.{own_word}
use Rattle.cedar_policy_conversion.proofs.Finding.{same_as}
use Rattle.cedar_policy_conversion.proofs.Asking.{asked_typed}
use Rattle.cedar_policy_conversion.proofs.constraints.to_asked.Goals as goal

pub returns-in-Some-entity_type-clause-constraint : goal.returns-in-Some-entity_type-clause-constraint
returns-in-Some-entity_type-clause-constraint g c =
    let t = c.in-Some-entity_type.entity_type in
    let r = c.in_ok-reference-in-Some.reference in
    same_as constraint_of c.typed.result _ _
    (asked_typed (own_word c.args.v) c.args.def.now t (c.in-Some.op, c.in-Some.node) (target_of r) c.in-Some-entity_type.is c.in-Some.is c.in_ok-reference-in-Some.ensures.target)
    c.typed.ensures.constraint

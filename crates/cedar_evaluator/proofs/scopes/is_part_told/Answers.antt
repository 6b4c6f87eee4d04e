-- What is told of an entity that is given, and of what is asked of none.
use Rattle.std.proofs.Common.{◌∙◌, sym, subst}
use Rattle.std.specs.Option.{option_copied}
use Rattle.cedar_policy_parts.specs.Asked.{constraint_of}
use Rattle.cedar_evaluator.specs.Scopes.{IsGivenAs}
use Rattle.cedar_evaluator.proofs.Scoped.{constraint_told, nothing_told}
use Rattle.cedar_evaluator.proofs.scopes.is_part_told.Goals as goal

pub returns-in-Some : goal.returns-in-Some
returns-in-Some c = λ facts store holds v s has given binds told.
    let asked = constraint_of c.args.constraint.now in
    let entity = c.in-Some.field-0 in
    let held = subst (IsGivenAs store (holds.variable v)) c.in-Some.is given in
    constraint_told facts store has entity.uid.now entity.entity held.1 holds v s (option_copied c.args.bound) asked held.0 binds (sym c.is_settled.ensures ∙ told)

pub returns-in-None : goal.returns-in-None
returns-in-None c = λ facts store holds v s has given binds told.
    nothing_told facts holds v s (constraint_of c.args.constraint.now) c.without_entity.result c.without_entity.ensures (sym c.is_some.ensures ∙ told)

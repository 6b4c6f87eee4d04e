-- What is asked of an action that is given.
use Rattle.std.proofs.Common.{Bool, Some, subst, sym}
use Rattle.cedar_language.specs.Tree.{Action}
use Rattle.cedar_grammar.specs.Policy.{action_tree}
use Rattle.cedar_policy_parts.specs.Actions.{action_of}
use Rattle.cedar_evaluator.specs.Scopes.{IsDecided, IsGivenAs}
use Rattle.cedar_evaluator.proofs.Scoped.{action_held}
use Rattle.cedar_evaluator.proofs.scopes.action_meets.Goals as goal

pub returns-in-Some : goal.returns-in-Some
returns-in-Some c = λ facts store holds has given.
    let asked = action_of c.args.constraint.now in
    let entity = c.in-Some.entity in
    let held = subst (IsGivenAs store (holds.variable Action)) c.in-Some.is given in
    subst (λ (b : Bool). IsDecided facts holds (action_tree asked) (Some b)) (sym c.meets_action.ensures)
    (action_held facts store has entity.uid.now entity.entity held.1 holds asked held.0)

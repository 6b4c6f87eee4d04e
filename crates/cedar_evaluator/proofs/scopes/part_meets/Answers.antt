-- What is asked of an entity that is given.
use Rattle.std.proofs.Common.{subst, sym}
use Rattle.std.specs.Option.{option_copied}
use Rattle.cedar_grammar.specs.Policy.{constraint_tree}
use Rattle.cedar_policy_parts.specs.Asked.{constraint_of}
use Rattle.cedar_evaluator.specs.Scopes.{IsDecided, IsGivenAs}
use Rattle.cedar_evaluator.proofs.Scoped.{constraint_held}
use Rattle.cedar_evaluator.proofs.scopes.part_meets.Goals as goal

pub returns-in-Some : goal.returns-in-Some
returns-in-Some c = λ facts store holds v s has given binds.
    let asked = constraint_of c.args.constraint.now in
    let entity = c.in-Some.entity in
    let held = subst (IsGivenAs store (holds.variable v)) c.in-Some.is given in
    subst (IsDecided facts holds (constraint_tree v s asked)) (sym c.meets.ensures)
    (constraint_held facts store has entity.uid.now entity.entity held.1 holds v s (option_copied c.args.bound) asked held.0 binds)

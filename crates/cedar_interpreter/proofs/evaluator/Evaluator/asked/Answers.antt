-- What is made holds what it is asked for.
use Rattle.std.proofs.Common.{refl, subst, sym}
use Rattle.cedar_extensions.specs.Table.{as_table}
use Rattle.cedar_interpreter.specs.Asking.{StandFor}
use Rattle.cedar_interpreter.proofs.Asked.{answers_for}
use Rattle.cedar_interpreter.proofs.evaluator.Evaluator.asked.Goals as goal

pub returns : goal.returns
returns g c =
    let stand = subst (StandFor c.args.asked) (sym c.in_ok-variables.ensures) c.seen.ensures.stand in
    answers_for g.F.ExtensionFunctionObject.answers c.args.asked c.args.entities.now (as_table g.F.ExtensionFunctionObject.answers c.args.extensions.now) c.args.depth _ stand refl refl refl refl

-- It holds as before, and what is told besides.
use Rattle.cedar_interpreter.proofs.Asked.{is_told}
use Rattle.cedar_interpreter.proofs.evaluator.Evaluator.with_told.Goals as goal

pub returns : goal.returns
returns g c = λ variables before entities table depth is. is_told g.F.ExtensionFunctionObject.answers variables before entities table depth c.args.self c.args.told _ is

-- What a caller's functions answer is built, and so is what the others give.
use Rattle.std.proofs.Common.{refl}
use Rattle.cedar_restricted_evaluation.proofs.Built.{gives_built}
use Rattle.cedar_evaluator.proofs.laws.tables_make_values.Goals as goal

pub returns : goal.returns
returns g c = record { built = gives_built g.F.ExtensionFunctionObject.answers c.args.extensions.now; constructs = refl }

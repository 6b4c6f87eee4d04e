-- The built-in function alone bears its name; by it, or by any other name, both look-ups find the same.
use Rattle.cedar_extensions.proofs.Defined.{names_are_defined}
use Rattle.cedar_extensions.specs.Tables.{functions_in}
use Rattle.cedar_extensions.proofs.extensions.Extensions.names_are_defined.Goals as goal

pub returns : goal.returns
returns g c = λ n. names_are_defined g.F.ExtensionFunctionObject.answers (functions_in c.args.self.now) c.args.self.now.named n

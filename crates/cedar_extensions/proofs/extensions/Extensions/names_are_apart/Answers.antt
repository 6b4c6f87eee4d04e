-- The look-up of the constructor's name finds nothing, in the definitions as in the table; any other name calls what is found.
use Rattle.std.proofs.Common.{◌∙◌, ap, option_map}
use Rattle.cedar_language.specs.Constructing.{the_constructor}
use Rattle.cedar_extensions.specs.Functions.{meaning_of}
use Rattle.cedar_extensions.specs.Tables.{functions_in, function_called}
use Rattle.cedar_extensions.proofs.Apart.{found_evaluated}
use Rattle.cedar_extensions.proofs.Defined.{names_are_defined}
use Rattle.cedar_extensions.proofs.extensions.Extensions.names_are_apart.Goals as goal

pub returns-clause-apart : goal.returns-clause-apart
returns-clause-apart g c =
    names_are_defined g.F.ExtensionFunctionObject.answers (functions_in c.args.self.now) c.args.self.now.named the_constructor
    ∙ ap (option_map (meaning_of g.F.ExtensionFunctionObject.answers)) c.args.self.now.apart

pub returns-clause-evaluated : goal.returns-clause-evaluated
returns-clause-evaluated g c =
    found_evaluated (function_called g.F.ExtensionFunctionObject.answers c.args.self.now)
    (ap (option_map (meaning_of g.F.ExtensionFunctionObject.answers)) c.args.self.now.apart)

-- With any other number of arguments than one the call is refused, whatever they are.
use Rattle.cedar_extensions.proofs.CountedCalls.{called_others}
use Rattle.cedar_extensions.proofs.functions.ExtensionFunction.call_unknown.Goals as goal

pub returns-then-args-ne1-clause-meaning : goal.returns-then-args-ne1-clause-meaning
returns-then-args-ne1-clause-meaning g c = rw c.wrong_num_arguments.ensures.kind (called_others c.args.args.now c.if-args-ne1.true)

pub returns-in_ok-no_text-in-None-clause-refusal : goal.returns-in_ok-no_text-in-None-clause-refusal
returns-in_ok-no_text-in-None-clause-refusal g c = c.in_ok-no_text-in-None.ensures.refusal _ _

-- What is told of the faults is told of the errors (FaultsTold).
use Rattle.std.proofs.Common.{string_bytes}
use Rattle.std.proofs.lemmas.Result.{IfOk-weaker}
use Rattle.cedar_parser.specs.ErrorsLeft.{errors_of}
use Rattle.cedar_messages.specs.Faults.{Tells, TellsFault}
use Rattle.cedar_messages.specs.Telling.{TellsEach}
use Rattle.cedar_messages.proofs.FaultsTold.{told_of_errors}
use Rattle.cedar_messages.proofs.faults.tell_faults.Goals as goal

pub returns : goal.returns
returns c =
    let name = c.args.name.now in
    let text = c.args.text.now in
    let errors = c.args.errors.now in
    IfOk-weaker c.tell_all.result (λ told. TellsEach (Tells name) c.as_slice.result.now (string_bytes told))
    (λ told. TellsEach (TellsFault name text) (errors_of errors) (string_bytes told))
    (λ told lines. told_of_errors name text errors c.in_ok-faults.faults.items c.as_slice.result.now (string_bytes told) c.as_slice.ensures.value
    c.in_ok-faults.ensures lines) c.tell_all.ensures

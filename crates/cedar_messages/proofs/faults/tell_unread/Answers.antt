-- The first error isn't want of memory (Causes).
use Rattle.std.proofs.Common.{string_bytes}
use Rattle.std.proofs.lemmas.Result.{IfOk-weaker}
use Rattle.cedar_parser.specs.ErrorsLeft.{errors_of}
use Rattle.cedar_messages.specs.Faults.{TellsErrors, TellsFault}
use Rattle.cedar_messages.specs.Telling.{TellsEach}
use Rattle.cedar_messages.proofs.Causes.{known_cause}
use Rattle.cedar_messages.proofs.faults.tell_unread.Goals as goal

pub returns : goal.returns
returns c =
    let name = c.args.name.now in
    let text = c.args.text.now in
    let errors = c.args.errors.now in
    IfOk-weaker c.tell_faults.result (λ told. TellsEach (TellsFault name text) (errors_of errors) (string_bytes told)) (λ told. TellsErrors name text errors (string_bytes told))
    (λ told lines. (known_cause errors.0.head c.in_default.not-Memory, lines)) c.tell_faults.ensures

use Rattle.std.proofs.lemmas.Result.{on_ok_weaker}
use Rattle.cedar_scripts.specs.ScriptLines.{Nothing, Title}
use Rattle.cedar_scripts.specs.ScriptTexts.{script_text}
use Rattle.cedar_scripts.specs.Spoken.{said_of}
use Rattle.cedar_scripts.proofs.Adding.{whole_idle}
use Rattle.cedar_scripts.proofs.LinesRead.{goes_on}
use Rattle.cedar_scripts.proofs.reading.take_line.Goals as goal

pub returns-in-Some-Nothing-clause-taken : goal.returns-in-Some-Nothing-clause-taken
returns-in-Some-Nothing-clause-taken c =
    let script = script_text c.args.script.now in
    goes_on c.args.number c.args.line.now Nothing script script (rw c.in-Some-Nothing.field-0-is at c.in-Some-Nothing.ensures.said) (whole_idle c.args.number script)

pub returns-in-Some-Test-clause-taken : goal.returns-in-Some-Test-clause-taken
returns-in-Some-Test-clause-taken c =
    on_ok_weaker c.begin_test.result (λ go. goes_on c.args.number c.args.line.now (Title c.in-Some-Test.name.now) (script_text c.args.script.now) (script_text c.begin_test.new.script) (rw c.in-Some-Test.field-0-is at c.in-Some-Test.ensures.said) go)
    c.begin_test.ensures.taken

pub returns-in-Some-Part-clause-taken : goal.returns-in-Some-Part-clause-taken
returns-in-Some-Part-clause-taken c =
    on_ok_weaker c.go_on.result (λ go. goes_on c.args.number c.args.line.now (said_of c.in-Some-Part.part) (script_text c.args.script.now) (script_text c.go_on.new.script) (rw c.in-Some-Part.field-0-is at c.in-Some-Part.ensures.said) go)
    c.go_on.ensures.taken

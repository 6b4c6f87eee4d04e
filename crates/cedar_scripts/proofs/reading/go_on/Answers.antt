use Rattle.std.proofs.Common.{None, map, IfErr, refl, sym, subst}
use Rattle.std.proofs.lemmas.Result.{on_ok_weaker}
use Rattle.cedar_scripts.specs.ScriptFaults.{RefusesSaid, last_of}
use Rattle.cedar_scripts.specs.ScriptTexts.{step_text}
use Rattle.cedar_scripts.specs.Spoken.{said_of}
use Rattle.cedar_scripts.proofs.Lending.{last_steps_are, set_up_changes, test_changes}
use Rattle.cedar_scripts.proofs.reading.go_on.Goals as goal

pub returns-in-Some-clause-taken : goal.returns-in-Some-clause-taken
returns-in-Some-clause-taken c =
    let tests = c.args.script.now.tests in
    let test = c.in-Some.test.now in
    on_ok_weaker c.take_part.result (λ go. test_changes c.args.number (said_of c.args.part) (map step_text c.args.script.now.set_up.items) tests.items tests.len test
    (record test { steps = c.take_part.new.steps }) tests.ok.0 c.in-Some.ensures.item.3.0 c.in-Some.ensures.value go refl) c.take_part.ensures.taken

pub returns-in-Some-clause-fault : goal.returns-in-Some-clause-fault
returns-in-Some-clause-fault c =
    let tests = c.args.script.now.tests in
    let last = last_steps_are (map step_text c.args.script.now.set_up.items) tests.items tests.len c.in-Some.test.now tests.ok.0 c.in-Some.ensures.item.3.0 c.in-Some.ensures.value in
    subst (λ l. IfErr c.take_part.result (RefusesSaid c.args.number (last_of None l) (said_of c.args.part))) (sym last) c.take_part.ensures.fault

pub returns-in-None-clause-taken : goal.returns-in-None-clause-taken
returns-in-None-clause-taken c =
    let script = c.args.script.now in
    let changes = set_up_changes c.args.number (said_of c.args.part) (map step_text script.set_up.items) (map step_text c.take_part-in-None.new.steps.items) script.tests.items c.in-None.ensures.item.3 in
    on_ok_weaker c.take_part-in-None.result changes c.take_part-in-None.ensures.taken

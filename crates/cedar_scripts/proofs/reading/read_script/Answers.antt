use Rattle.std.proofs.Common.{◌≡◌, ◌+◌, length, take, sym, ap, subst, ◌∙◌, arith}
use Rattle.std.proofs.lemmas.Iterator.Splits.{YieldsList-from_lines}
use Rattle.std.proofs.lemmas.Iterator.Consumers.{YieldsList-turn, YieldsList-end}
use Rattle.std.proofs.lemmas.List.{take_all, length_push}
use Rattle.std.proofs.lemmas.Result.{err_from_is_err_and}
use Rattle.std.specs.Str.Lines.{lines}
use Rattle.cedar_scripts.specs.ScriptTexts.{AreScript, script_text}
use Rattle.cedar_scripts.proofs.LinesRead.{refusal_from, script_more}
use Rattle.cedar_scripts.proofs.SingleFault.{complete_from, texts_are_one_script}
use Rattle.cedar_scripts.proofs.reading.read_script.Goals as goal

pub loop-line-preserved : goal.loop-line-preserved
loop-line-preserved c =
    let text = c.args.text.now in
    let at = length c.loop-line.yielded in
    let t = YieldsList-turn (YieldsList-from_lines text cc) c.loop-line.yielded _ c.loop-line.yielded_by _ _ c.in-Some.line c.in-Some.is c.next.ensures.steps in
    let counted = ap (λ n. n + 1) c.loop-line.invariant.counted in
    let longer = sym (length_push c.loop-line.yielded c.in-Some.line) in
    let new = script_text c.take_line.new.script in
    let script = script_more text at (c.loop-line.number + 1) c.in-Some.line.now (script_text c.loop-line.script) new t.0 t.1 counted c.loop-line.invariant.script c.in_ok-take_line.ensures.taken in
    record { goes = tt; finite = tt; counted = counted ∙ longer; script = subst (λ k. AreScript (take k (lines text)) new) longer script }

pub returns-in_err-take_line-clause-fault : goal.returns-in_err-take_line-clause-fault
returns-in_err-take_line-clause-fault c =
    let text = c.args.text.now in
    let at = length c.loop-line.yielded in
    let t = YieldsList-turn (YieldsList-from_lines text cc) c.loop-line.yielded _ c.loop-line.yielded_by _ _ c.in-Some.line c.in-Some.is c.next.ensures.steps in
    let counted = ap (λ n. n + 1) c.loop-line.invariant.counted in
    let why = c.in_err-take_line.ensures.fault in
    let refusal = refusal_from text at (c.loop-line.number + 1) c.in-Some.line.now (script_text c.loop-line.script) c.in_err-take_line.field-0.0 t.0 t.1 counted c.loop-line.invariant.script why in
    let p = err_from_is_err_and c.from_residual.result c.from_residual.ensures.1 in
    rw (p.1, p.2) refusal

pub returns-in_err-take_line-clause-complete : goal.returns-in_err-take_line-clause-complete
returns-in_err-take_line-clause-complete c = λ script h.
    complete_from (λ read. script_text read ≡ script) c.args.text.now script c.from_residual.result c.from_residual.ensures.0 (returns-in_err-take_line-clause-fault c) h

pub returns-clause-script : goal.returns-clause-script
returns-clause-script c =
    let text = c.args.text.now in
    let t = YieldsList-end (YieldsList-from_lines text cc) c.loop-line.yielded _ c.loop-line.yielded_by _ _ c.in-None.is c.next.ensures.steps in
    let whole = take_all (length c.loop-line.yielded) (lines text) (omega (arith, t.1)) in
    subst (λ l. AreScript l (script_text c.loop-line.script)) whole c.loop-line.invariant.script

pub returns-clause-complete : goal.returns-clause-complete
returns-clause-complete c = λ script h. texts_are_one_script c.args.text.now (script_text c.loop-line.script) script (returns-clause-script c) h

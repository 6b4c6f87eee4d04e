-- What is kept of one more policy: where it is told, no evaluation is needed.
use Rattle.std.proofs.Common.{true, false, refl}
use Rattle.std.proofs.lemmas.Result.{on_ok_weaker}
use Rattle.cedar_evaluator.specs.Evaluations.{Satisfied, Unsatisfied}
use Rattle.cedar_evaluator.proofs.Adding.{adds_unsatisfied}
use Rattle.cedar_evaluator.proofs.Keeping.{keeps_more}
use Rattle.cedar_evaluator.proofs.Kept.{is_kept_told}
use Rattle.cedar_evaluator.proofs.partial_response.PartialResponse.evaluate.Goals as goal

pub returns-in-Decided-true-clause-keeps : goal.returns-in-Decided-true-clause-keeps
returns-in-Decided-true-clause-keeps g c =
    let answers = g.F.ExtensionFunctionObject.answers in
    let ev = c.args.evaluator.now in
    let p = c.args.policy.now in
    let here = c.in-Decided-true in
    on_ok_weaker c.keep_satisfied.result
    (λ adds es keeps.
    keeps_more answers c.args.with_false ev c.args.scopes.now es c.args.self.now c.keep_satisfied.new.self p Satisfied keeps adds
    (λ i store table depth is scopes.
    is_kept_told i store table depth p here.field-0 true here.field-0-test
    (here.ensures.found i store table depth is scopes) (here.ensures.read i store table depth is scopes)))
    (c.keep_satisfied.ensures.held c.args.with_false)

pub returns-in-Decided-false-clause-keeps : goal.returns-in-Decided-false-clause-keeps
returns-in-Decided-false-clause-keeps g c =
    let answers = g.F.ExtensionFunctionObject.answers in
    let ev = c.args.evaluator.now in
    let p = c.args.policy.now in
    let before = c.args.self.now in
    let after = c.keep_false.new.self in
    let here = c.in-Decided-false in
    on_ok_weaker c.keep_false.result
    (λ adds es keeps.
    keeps_more answers c.args.with_false ev c.args.scopes.now es before after p Unsatisfied keeps (adds_unsatisfied c.args.with_false p before after adds)
    (λ i store table depth is scopes.
    is_kept_told i store table depth p here.field-0 false here.field-0-test
    (here.ensures.found i store table depth is scopes) (here.ensures.read i store table depth is scopes)))
    (c.keep_false.ensures.held Unsatisfied refl)

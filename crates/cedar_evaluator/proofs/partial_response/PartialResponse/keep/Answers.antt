-- Of a policy that isn't satisfied no error is kept.
use Rattle.std.proofs.Common.{◌≡◌, Bool, false, ap, refl, sym, subst, ◌∙◌}
use Rattle.std.specs.Prelude.{Result, Ok}
use Rattle.std.proofs.lemmas.Result.{on_ok_weaker}
use Rattle.either.specs.declared.Either.{Either}
use Rattle.either.specs.declared.Either.TheVariants.{Left, Right}
use Rattle.cedar_extensions.specs.declared.evaluation_error.EvaluationError.{EvaluationError}
use Rattle.cedar_trees.specs.Bare.{bare}
use Rattle.cedar_trees.specs.declared.expr.Expr.{Expr}
use Rattle.cedar_evaluator.specs.Evaluations.{Found, Unsatisfied, Open}
use Rattle.cedar_evaluator.specs.Grouping.{kept_as, found_in, Adds}
use Rattle.cedar_evaluator.proofs.Adding.{adds_unsatisfied}
use Rattle.cedar_evaluator.proofs.partial_response.PartialResponse.keep.Goals as goal

pub returns-in-Ok-Left-false-clause-held : goal.returns-in-Ok-Left-false-clause-held
returns-in-Ok-Left-false-clause-held c =
    let p = c.args.policy.now in
    let before = c.args.self.now in
    let after = c.keep_false.new.self in
    let answered : ◌≡◌ {A = Result (Either Bool (Expr (Unit {0}))) EvaluationError} c.args.answer (Ok (Left false)) = cc in
    on_ok_weaker c.keep_false.result
    (λ adds. subst (λ (f : Found). Adds c.args.with_false (kept_as p f) before after) (sym (ap found_in answered))
    (adds_unsatisfied c.args.with_false p before after adds))
    (c.keep_false.ensures.held Unsatisfied refl)

pub returns-in_ok-new-in-Ok-Right-clause-held : goal.returns-in_ok-new-in-Ok-Right-clause-held
returns-in_ok-new-in-Ok-Right-clause-held c =
    let answered : ◌≡◌ {A = Result (Either Bool (Expr (Unit {0}))) EvaluationError} c.args.answer (Ok (Right c.in-Ok-Right.rest)) = cc in
    let same : Open (bare c.in_ok-new-in-Ok-Right.field-0.value) ≡ found_in c.args.answer =
    ap (λ (e : Expr (Unit {0})). Open (bare e)) c.in_ok-new-in-Ok-Right.ensures.ok ∙ sym (ap found_in answered) in
    on_ok_weaker c.keep_open.result
    (subst (λ (f : Found). Adds c.args.with_false (kept_as c.args.policy.now f) c.args.self.now c.keep_open.new.self) same)
    (c.keep_open.ensures.held c.args.with_false)

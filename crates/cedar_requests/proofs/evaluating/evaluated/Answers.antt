-- The answer of a record is a record (RecordsStay), and a context shows what was found.
use Rattle.std.proofs.Common.{sym, refl, subst}
use Rattle.std.specs.Prelude.{Err}
use Rattle.cedar_extensions.specs.Table.{as_table, functions_of}
use Rattle.cedar_restricted.specs.PartialValues.{partial_of}
use Rattle.cedar_restricted.specs.Views.{borrowed_tree}
use Rattle.cedar_language.specs.Meaning.{meaning}
use Rattle.cedar_restricted_evaluation.specs.Evaluations.{IsMeant}
use Rattle.cedar_requests.specs.Creating.{MeansContext, AnswersContext}
use Rattle.cedar_requests.proofs.RecordsStay.{record_stays}
use Rattle.cedar_requests.proofs.Refusing.{at_err}
use Rattle.cedar_requests.proofs.evaluating.evaluated.Goals as goal

pub returns-in_err-found-clause-meaning : goal.returns-in_err-found-clause-meaning
returns-in_err-found-clause-meaning g c =
    let Means = MeansContext (as_table g.F.ExtensionFunctionObject.answers c.args.extensions.now) c.args.depth (borrowed_tree c.args.expr) in
    at_err Means _ c.from_residual.result c.from_residual.ensures.1 (λ e is. subst (λ y. Means (Err y)) (sym is) c.in_err-found.ensures.meaning)

pub returns-in_err-found-clause-answer : goal.returns-in_err-found-clause-answer
returns-in_err-found-clause-answer g c =
    let Answers = AnswersContext (as_table g.F.ExtensionFunctionObject.answers c.args.extensions.now) c.args.depth (borrowed_tree c.args.expr) in
    at_err Answers _ c.from_residual.result c.from_residual.ensures.1 (λ e is. subst (λ y. Answers (Err y)) (sym is) c.in_err-found.ensures.answer)

pub context_of-requires-clause-record : goal.context_of-requires-clause-record
context_of-requires-clause-record g c =
    record_stays (as_table g.F.ExtensionFunctionObject.answers c.args.extensions.now) (borrowed_tree c.args.expr) (partial_of c.in_ok-found.found) c.requires (c.in_ok-found.ensures.answer (functions_of (as_table g.F.ExtensionFunctionObject.answers c.args.extensions.now)) (λ n. refl))

pub returns-clause-meaning : goal.returns-clause-meaning
returns-clause-meaning g c = λ known facts has request.
    subst (IsMeant (meaning facts request (borrowed_tree c.args.expr))) (sym c.in_ok-context_of.ensures) (c.in_ok-found.ensures.meaning known facts has request)

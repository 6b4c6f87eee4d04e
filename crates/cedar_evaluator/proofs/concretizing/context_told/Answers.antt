-- An error of the evaluation of the context, of which nothing is told.
use Rattle.std.proofs.Common.{◌≡◌, Some, None, rules}
use Rattle.std.specs.Prelude.{codes, option_map}
use Rattle.std.proofs.lemmas.Result.{err_from_is_err_and}
use Rattle.cedar_substitution.specs.Told.{told_for}
use Rattle.cedar_extensions.specs.Table.{as_table}
use Rattle.cedar_requests.specs.Contexts.{context_part}
use Rattle.cedar_evaluator.proofs.Telling.{evaluation_refused}
use Rattle.cedar_evaluator.proofs.concretizing.context_told.Goals as goal

pub returns-in_err-substitute : goal.returns-in_err-substitute
returns-in_err-substitute g c =
    let p = err_from_is_err_and c.from_residual-in_err-substitute.result c.from_residual-in_err-substitute.ensures.1 in
    let none : told_for c.args.told.now.entries (codes "context") ≡ None = search rules in
    let is : option_map (λ given. context_part given.now) c.args.context ≡ Some (context_part c.in_ok-context.context) = search rules in
    rw (p.1, p.2) (evaluation_refused (as_table g.F.ExtensionFunctionObject.answers c.args.extensions.now) c.args.depth c.args.told.now.entries (option_map (λ given. context_part given.now) c.args.context) (context_part c.in_ok-context.context) is none c.in_err-substitute.field-0.0 c.in_err-substitute.ensures)

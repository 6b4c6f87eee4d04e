-- The parts of the body's question, and what its context is evaluated to.
use Rattle.std.proofs.Common.{◌≡◌, sym, ◌∙◌, ap, subst, Some, None}
use Rattle.std.proofs.lemmas.Result.{err_from_is_err_and}
use Rattle.cedar_telling.specs.Questions.{question_of, LendsContext}
use Rattle.cedar_extensions.specs.Table.{as_table}
use Rattle.cedar_language.specs.Tree.{Tree}
use Rattle.cedar_restricted.specs.Views.{restricted_tree}
use Rattle.cedar_trees.specs.Bare.{bare}
use Rattle.cedar_world.specs.Bodies.{ask_body}
use Rattle.cedar_telling.proofs.Stated.{written_as_data, serves_written, unasked, is_asked}
use Rattle.cedar_telling.proofs.bodies.request_of.Given.{Over}
use Rattle.cedar_telling.proofs.bodies.request_of.Goals as goal
use Rattle.cedar_telling.proofs.bodies.request_of.Goals.{In-Some}

is_stated : (g : Over) (c : In-Some g) → ask_body (restricted_tree c.args.body.now) ≡ Some (question_of c.in-Some.asked)
is_stated g c =
    let asked : Some (question_of c.in-Some.asked) ≡ ask_body (bare c.as_ref.result.now) = rw c.in-Some.is at c.in_ok-asked.ensures.question in
    sym (asked ∙ ap ask_body c.as_ref.ensures.tree)

is_lent : (g : Over) (c : In-Some g) → LendsContext (bare c.as_ref.result.now) c.in-Some.asked.context
is_lent g c = rw c.in-Some.is at c.in_ok-asked.ensures.lent

lent_body : (g : Over) (c : In-Some g) → LendsContext (restricted_tree c.args.body.now) c.in-Some.asked.context
lent_body g c = subst (λ (t : Tree). LendsContext t c.in-Some.asked.context) c.as_ref.ensures.tree (is_lent g c)

pub returns-in_default : goal.returns-in_default
returns-in_default g c = λ by serves.
    let none : None ≡ ask_body (bare c.as_ref.result.now) = rw c.in_default.is at c.in_ok-asked.ensures.question in
    sym (none ∙ ap ask_body c.as_ref.ensures.tree)

pub context_of-requires : goal.context_of-requires
context_of-requires g c = written_as_data (bare c.as_ref.result.now) c.as_ref.ensures.restricted c.in-Some.asked.context (is_lent g (goal.at.context_of-requires g c).In-Some)

pub returns-in_err-context : goal.returns-in_err-context
returns-in_err-context g c = λ by serves.
    let table = as_table g.F.ExtensionFunctionObject.answers c.args.extensions.now in
    let tree = restricted_tree c.args.body.now in
    let b = c.in-Some.asked in
    let asked = (goal.at.returns-in_err-context g c).In-Some in
    let lent = lent_body g asked in
    let p = err_from_is_err_and c.from_residual-in_err-context.result c.from_residual-in_err-context.ensures.1 in
    rw (p.1, p.2) (unasked by table c.args.depth tree b (is_stated g asked) lent c.in_err-context.field-0.0 (c.in_err-context.ensures by (serves_written tree table by b.context lent serves)))

pub returns : goal.returns
returns g c = λ by serves.
    let table = as_table g.F.ExtensionFunctionObject.answers c.args.extensions.now in
    let tree = restricted_tree c.args.body.now in
    let b = c.in-Some.asked in
    let asked = (goal.at.returns g c).In-Some in
    let lent = lent_body g asked in
    is_asked by table c.args.depth tree b (is_stated g asked) lent c.questions_are_asked.ensures c.new_unchecked.result
    c.in_ok-context.context c.new_unchecked.ensures.held (c.in_ok-context.ensures by (serves_written tree table by b.context lent serves))

-- What the body tells, by what its trees are evaluated to and by the parts of the question.
use Rattle.std.proofs.Common.{◌≡◌, ◌∙◌, sym, ap, not, None, Some, Ok}
use Rattle.std.proofs.lemmas.Result.{err_from_is_err_and}
use Rattle.cedar_held.specs.Fields.{AreEvaluated}
use Rattle.cedar_held.specs.Lent.{fields_in}
use Rattle.cedar_telling.specs.Questions.{question_of, LendsContext}
use Rattle.cedar_extensions.specs.Table.{as_table}
use Rattle.cedar_restricted.specs.Views.{restricted_tree}
use Rattle.cedar_trees.specs.Bare.{bare, record_tree}
use Rattle.cedar_world.specs.Bodies.{ask_body}
use Rattle.cedar_world.specs.Question.{is_unknown}
use Rattle.cedar_world.specs.Refusals.{some_key}
use Rattle.cedar_telling.specs.AskedNames.{is_listed}
use Rattle.cedar_telling.proofs.Gathered.{same_test}
use Rattle.cedar_telling.proofs.TellParts.{record_restricted, given_restricted}
use Rattle.cedar_telling.proofs.TellBodies.{refused, not_values, no_unknown, told_again, misfit, all_told}
use Rattle.cedar_telling.proofs.telling.told_by.Given.{Over}
use Rattle.cedar_telling.proofs.telling.told_by.Goals as goal
use Rattle.cedar_telling.proofs.telling.told_by.Goals.{In-Some, In-Some-2, In-Some-3, In_ok-names}

is_record : (g : Over) (c : In-Some g) → restricted_tree c.args.body.now ≡ record_tree (fields_in c.in-Some.entries.now)
is_record g c = sym c.as_ref.ensures.tree ∙ c.in-Some.ensures.tree

is_stated : (g : Over) (c : In-Some-3 g) → Some (question_of c.in-Some-3.asked) ≡ ask_body (restricted_tree c.args.question.now)
is_stated g c =
    let asked : Some (question_of c.in-Some-3.asked) ≡ ask_body (bare c.as_ref-2.result.now) = rw c.in-Some-3.is at c.in_ok-asked.ensures.question in
    asked ∙ ap ask_body c.as_ref-2.ensures.tree

is_lent : (g : Over) (c : In-Some-3 g) → LendsContext (bare c.as_ref-2.result.now) c.in-Some-3.asked.context
is_lent g c = rw c.in-Some-3.is at c.in_ok-asked.ensures.lent

evaluated_is : (g : Over) (c : In-Some-2 g) → AreEvaluated (as_table g.F.ExtensionFunctionObject.answers c.args.extensions.now) c.args.depth (fields_in c.in-Some.entries.now) (Ok (Some c.in-Some-2.values))
evaluated_is g c = rw c.in-Some-2.is at c.in_ok-values.ensures

pub all_evaluated-requires : goal.all_evaluated-requires
all_evaluated-requires g c = record_restricted (bare c.as_ref.result.now) (fields_in c.in-Some.entries.now) c.in-Some.ensures.tree c.as_ref.ensures.restricted

pub returns-in_err-values : goal.returns-in_err-values
returns-in_err-values g c = λ by q serves a.
    let p = err_from_is_err_and c.from_residual.result c.from_residual.ensures.1 in
    rw (p.1, p.2) (refused c.args.told.now (as_table g.F.ExtensionFunctionObject.answers c.args.extensions.now) c.args.depth (restricted_tree c.args.body.now) (restricted_tree c.args.question.now) (fields_in c.in-Some.entries.now) (is_record g (goal.at.returns-in_err-values g c).In-Some)
    c.in_err-values.field-0.0 c.in_err-values.ensures by q serves a)

pub returns-in_default-2 : goal.returns-in_default-2
returns-in_default-2 g c =
    let none : AreEvaluated (as_table g.F.ExtensionFunctionObject.answers c.args.extensions.now) c.args.depth (fields_in c.in-Some.entries.now) (Ok None) = rw c.in_default-2.is at c.in_ok-values.ensures in
    not_values c.args.told.now (as_table g.F.ExtensionFunctionObject.answers c.args.extensions.now) c.args.depth (restricted_tree c.args.body.now) (restricted_tree c.args.question.now) (fields_in c.in-Some.entries.now) (is_record g (goal.at.returns-in_default-2 g c).In-Some) none

pub wanted_names-requires : goal.wanted_names-requires
wanted_names-requires g c = given_restricted (bare c.as_ref-2.result.now) c.as_ref-2.ensures.restricted c.in-Some-3.asked.context (is_lent g (goal.at.wanted_names-requires g c).In-Some-3)

-- some key is none of the names exactly where it is no unknown of the question's
another_is : (g : Over) (c : In_ok-names g) → some_key (λ n. not (is_listed c.in_ok-names.names n)) (fields_in c.in-Some.entries.now) ≡ some_key (λ n. not (is_unknown (question_of c.in-Some-3.asked) n)) (fields_in c.in-Some.entries.now)
another_is g c = same_test (is_listed c.in_ok-names.names) (is_unknown (question_of c.in-Some-3.asked)) c.in_ok-names.ensures (fields_in c.in-Some.entries.now)

pub returns-then-names_another : goal.returns-then-names_another
returns-then-names_another g c =
    no_unknown c.args.told.now (as_table g.F.ExtensionFunctionObject.answers c.args.extensions.now) c.args.depth (restricted_tree c.args.body.now) (restricted_tree c.args.question.now) (fields_in c.in-Some.entries.now) (is_record g (goal.at.returns-then-names_another g c).In-Some)
    c.in-Some-2.values (evaluated_is g (goal.at.returns-then-names_another g c).In-Some-2) c.in-Some-3.asked (is_stated g (goal.at.returns-then-names_another g c).In-Some-3)
    (sym (another_is g (goal.at.returns-then-names_another g c).In_ok-names) ∙ sym c.names_another.ensures ∙ c.if-names_another.true)

pub returns-then-names_told : goal.returns-then-names_told
returns-then-names_told g c =
    told_again c.args.told.now (as_table g.F.ExtensionFunctionObject.answers c.args.extensions.now) c.args.depth (restricted_tree c.args.body.now) (restricted_tree c.args.question.now) (fields_in c.in-Some.entries.now) (is_record g (goal.at.returns-then-names_told g c).In-Some)
    c.in-Some-2.values (evaluated_is g (goal.at.returns-then-names_told g c).In-Some-2) c.in-Some-3.asked (is_stated g (goal.at.returns-then-names_told g c).In-Some-3)
    (sym (another_is g (goal.at.returns-then-names_told g c).In_ok-names) ∙ sym c.names_another.ensures ∙ c.if-names_another.false) (sym c.names_told.ensures ∙ c.if-names_told.true)

pub holds_misfit-requires : goal.holds_misfit-requires
holds_misfit-requires g c = given_restricted (bare c.as_ref-2.result.now) c.as_ref-2.ensures.restricted c.in-Some-3.asked.context (is_lent g (goal.at.holds_misfit-requires g c).In-Some-3)

pub returns-then-holds_misfit : goal.returns-then-holds_misfit
returns-then-holds_misfit g c =
    misfit c.args.told.now (as_table g.F.ExtensionFunctionObject.answers c.args.extensions.now) c.args.depth (restricted_tree c.args.body.now) (restricted_tree c.args.question.now) (fields_in c.in-Some.entries.now) (is_record g (goal.at.returns-then-holds_misfit g c).In-Some)
    c.in-Some-2.values (evaluated_is g (goal.at.returns-then-holds_misfit g c).In-Some-2) c.in-Some-3.asked (is_stated g (goal.at.returns-then-holds_misfit g c).In-Some-3)
    (sym (another_is g (goal.at.returns-then-holds_misfit g c).In_ok-names) ∙ sym c.names_another.ensures ∙ c.if-names_another.false) (sym c.names_told.ensures ∙ c.if-names_told.false) (sym c.holds_misfit.ensures ∙ c.if-holds_misfit.true)

pub returns : goal.returns
returns g c =
    all_told c.args.told.now (as_table g.F.ExtensionFunctionObject.answers c.args.extensions.now) c.args.depth (restricted_tree c.args.body.now) (restricted_tree c.args.question.now) (fields_in c.in-Some.entries.now) (is_record g (goal.at.returns g c).In-Some)
    c.in-Some-2.values (evaluated_is g (goal.at.returns g c).In-Some-2) c.in-Some-3.asked (is_stated g (goal.at.returns g c).In-Some-3)
    (sym (another_is g (goal.at.returns g c).In_ok-names) ∙ sym c.names_another.ensures ∙ c.if-names_another.false) (sym c.names_told.ensures ∙ c.if-names_told.false) (sym c.holds_misfit.ensures ∙ c.if-holds_misfit.false)
    c.in_ok-with_values.field-0 c.in_ok-with_values.ensures

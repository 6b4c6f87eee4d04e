-- A question that is read straight is its body, and so is any other body that is read.
use Rattle.std.proofs.Common.{◌≡◌, inr, refl, subst}
use Rattle.std.proofs.lemmas.Result.{err_from_is_err_and}
use Rattle.std.specs.Prelude.{IfSome}
use Rattle.cedar_extensions.specs.Table.{as_table}
use Rattle.cedar_grammar.specs.Functions.{body_names}
use Rattle.cedar_restricted.specs.Views.{restricted_tree}
use Rattle.cedar_data.specs.Questions.{question_tree, IsQuestionText}
use Rattle.cedar_session.specs.Settings.{setting_with}
use Rattle.cedar_parser.specs.Settings.{functions_of}
use Rattle.cedar_session.proofs.Given.{question_restricted, question_uncalled}
use Rattle.cedar_session.proofs.Texts.{read_tree, serves}
use Rattle.cedar_session.proofs.questions.asked_question.Goals as goal

pub returns-in-Some-clause-asks : goal.returns-in-Some-clause-asks
returns-in-Some-clause-asks g c =
    let answers = g.F.ExtensionFunctionObject.answers in
    let extensions = c.args.extensions.now in
    let q = c.in-Some.question in
    let some = subst (λ o. IfSome o (λ x. (names : _) → IsQuestionText names c.args.depth c.args.text.now x)) c.in-Some.is c.in_ok-question.ensures.question in
    let text = some (body_names (functions_of answers extensions)) in
    record {
      read = text.reads;
      low = text.low;
      restricted = question_restricted q;
      serves = serves answers extensions c.args.depth (question_tree q) (question_tree q) refl c.names_are_defined.ensures (λ unset. question_uncalled q);
      asks = c.in_ok-request.ensures (setting_with answers extensions c.args.depth) (as_table answers extensions) c.args.depth;
    }

pub returns-clause-asks : goal.returns-clause-asks
returns-clause-asks g c =
    let answers = g.F.ExtensionFunctionObject.answers in
    let extensions = c.args.extensions.now in
    let by = setting_with answers extensions c.args.depth in
    let tree = restricted_tree c.in_ok-body.body in
    let read = read_tree by c.args.text.now tree tree refl c.in_ok-body.ensures.body in
    let served = serves answers extensions c.args.depth tree tree refl c.names_are_defined.ensures c.in_ok-body.ensures.calls in
    record { read = read.0; low = read.1; restricted = c.in_ok-body.body.restricted; serves = served; asks = c.in_ok-request-2.ensures by served }

pub returns-in_err-question-clause-called : goal.returns-in_err-question-clause-called
returns-in_err-question-clause-called g c = c.read_given.ensures.called _ c.requires

pub returns-in_err-request-clause-called : goal.returns-in_err-request-clause-called
returns-in_err-request-clause-called g c = c.read_given.ensures.called _ c.requires

pub returns-in-Some-clause-called : goal.returns-in-Some-clause-called
returns-in-Some-clause-called g c = c.read_given.ensures.called _ c.requires

pub read_body-requires : goal.read_body-requires
read_body-requires g c = c.read_given.ensures.called _ c.requires

pub returns-in_err-request-2-clause-asks : goal.returns-in_err-request-2-clause-asks
returns-in_err-request-2-clause-asks g c =
    let answers = g.F.ExtensionFunctionObject.answers in
    let extensions = c.args.extensions.now in
    let by = setting_with answers extensions c.args.depth in
    let tree = restricted_tree c.in_ok-body.body in
    let read = read_tree by c.args.text.now tree tree refl c.in_ok-body.ensures.body in
    let served = serves answers extensions c.args.depth tree tree refl c.names_are_defined.ensures c.in_ok-body.ensures.calls in
    let p = err_from_is_err_and c.from_residual-in_err-request-2.result c.from_residual-in_err-request-2.ensures.1 in
    rw (p.1, p.2) (inr (tree, record { read = read.0; low = read.1; restricted = c.in_ok-body.body.restricted; serves = served; asks = c.in_err-request-2.ensures by served }))

-- The question of the body is that which was read of it.
use Rattle.std.proofs.Common.{◌≡◌, ◌∙◌, ap, None, Some}
use Rattle.std.specs.Option.{unwrap_or}
use Rattle.cedar_telling.specs.Questions.{question_of, LendsContext}
use Rattle.cedar_trees.specs.Bare.{bare}
use Rattle.cedar_world.proofs.Parts.{not_none}
use Rattle.cedar_world.specs.Asking.{Question}
use Rattle.cedar_world.specs.Bodies.{ask_body}
use Rattle.cedar_world.specs.Question.{is_unknown}
use Rattle.cedar_telling.proofs.TellParts.{given_restricted}
use Rattle.cedar_telling.proofs.asked_names.names_asked.Goals as goal

pub returns-in-None : goal.returns-in-None
returns-in-None c = λ q asks n.
    let none : None ≡ ask_body (bare c.as_ref.result.now) = rw c.in-None.is at c.in_ok-asked.ensures.question in
    absurd (not_none q (none ∙ ap ask_body c.as_ref.ensures.tree ∙ asks))

pub names_of-requires : goal.names_of-requires
names_of-requires c =
    let lent : LendsContext (bare c.as_ref.result.now) c.in-Some.asked.context = rw c.in-Some.is at c.in_ok-asked.ensures.lent in
    given_restricted (bare c.as_ref.result.now) c.as_ref.ensures.restricted c.in-Some.asked.context lent

pub returns-in_ok-names_of-in-Some : goal.returns-in_ok-names_of-in-Some
returns-in_ok-names_of-in-Some c = λ q asks n.
    let read : Question = question_of c.in-Some.asked in
    let stated : Some read ≡ ask_body (bare c.as_ref.result.now) = rw c.in-Some.is at c.in_ok-asked.ensures.question in
    let same : read ≡ q = ap (λ o. unwrap_or o q) (stated ∙ ap ask_body c.as_ref.ensures.tree ∙ asks) in
    c.in_ok-names_of-in-Some.ensures n ∙ ap (λ p. is_unknown p n) same

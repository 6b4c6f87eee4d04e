-- A key that no arm took is none of a question's.
use Rattle.std.proofs.Common.{◌∙◌, ◌∷◌, List, Global, ap, sym}
use Rattle.std.specs.declared.rc.RcStr.{RcStr}
use Rattle.cedar_language.specs.Uid.{Text}
use Rattle.cedar_trees.specs.Bare.{bare, bare_entries}
use Rattle.cedar_trees.specs.declared.expr.Expr.{Expr}
use Rattle.cedar_world.specs.Bodies.{are_among, question_keys}
use Rattle.cedar_telling.proofs.FoundFields.{another_key}
use Rattle.cedar_telling.proofs.questions.find_fields.Goals as goal

pub returns-in-None-question_key-clause-keys : goal.returns-in-None-question_key-clause-keys
returns-in-None-question_key-clause-keys c =
    let rest = bare_entries c.next.new.self in
    let tree = bare c.in-Some.value.now in
    sym (c.loop-key.invariant.among
    ∙ ap (λ (es : List (RcStr Global × Expr (Unit {0}))). are_among question_keys (bare_entries es)) c.in-Some.ensures.steps
    ∙ ap (λ (key : Text). are_among question_keys ((key, tree) ∷ rest)) (sym c.as_str.ensures.value)
    ∙ another_key c.as_str.result.now tree rest c.in-None-question_key.ensures.other)

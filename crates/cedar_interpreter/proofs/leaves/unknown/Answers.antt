-- By whether a value is told for the unknown.
use Rattle.std.proofs.Common.{◌∙◌, ap, sym, subst}
use Rattle.std.specs.Option.{option_copied}
use Rattle.either.specs.declared.Either.TheVariants.{Right}
use Rattle.cedar_language.specs.Tree.{Unknown}
use Rattle.cedar_partial_evaluation.specs.Question.{name_held}
use Rattle.cedar_trees.specs.Unknowns.{unknown_name, unknown_type}
use Rattle.cedar_interpreter.specs.Meeting.{part_answer, MeetsAt}
use Rattle.cedar_interpreter.proofs.leaves.unknown.Goals as goal

pub returns-in-Some : goal.returns-in-Some
returns-in-Some c =
    subst (λ told. MeetsAt ⊥ (name_held told (unknown_name c.args.unknown.now) (unknown_type c.args.unknown.now)) c.typed.result) (sym (ap option_copied c.in-Some.is) ∙ c.value_for.ensures)
    c.typed.ensures

pub returns-in_ok-clone-in-None : goal.returns-in_ok-clone-in-None
returns-in_ok-clone-in-None c =
    ap (λ told. name_held told (unknown_name c.args.unknown.now) (unknown_type c.args.unknown.now)) (sym c.value_for.ensures ∙ ap option_copied c.in-None.is)
    ∙ sym (ap part_answer (c.unknown.ensures ∙ ap (λ n. Right (Unknown n (unknown_type c.in_ok-clone-in-None.field-0))) c.in_ok-clone-in-None.ensures.cases.0 ∙ ap (λ ty. Right (Unknown (unknown_name c.args.unknown.now) ty)) c.in_ok-clone-in-None.ensures.cases.1))

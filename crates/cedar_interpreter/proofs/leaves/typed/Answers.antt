-- The value where it is of the type that is stated, and an error where it is of another.
use Rattle.std.proofs.Common.{◌≡◌, ◌∙◌, ap, sym, subst, true, false, rules, Some}
use Rattle.either.specs.declared.Either.TheVariants.{Left}
use Rattle.cedar_literals.specs.Types.{value_type_of, same_type}
use Rattle.cedar_values.specs.Types.{type_of_value}
use Rattle.cedar_partial_evaluation.specs.Partial.{Failed}
use Rattle.cedar_partial_evaluation.specs.Question.{value_held}
use Rattle.cedar_partial_evaluation.specs.Unknowns.{fits}
use Rattle.cedar_trees.specs.Unknowns.{unknown_type}
use Rattle.cedar_extensions.specs.Giving.{FailsBy}
use Rattle.cedar_interpreter.specs.Meeting.{part_answer}
use Rattle.cedar_interpreter.proofs.Told.{of_type, of_other}
use Rattle.cedar_interpreter.proofs.leaves.typed.Goals as goal

pub returns-then-eq : goal.returns-then-eq
returns-then-eq c =
    let stated : unknown_type c.args.unknown.now ≡ Some (value_type_of c.in-Some.expected) = search rules in
    let same : same_type (value_type_of c.in-Some.expected) (type_of_value c.args.value.now) ≡ true = search rules in
    ap (λ ty. value_held (fits ty c.args.value.now) c.args.value.now) stated
    ∙ of_type (value_type_of c.in-Some.expected) c.args.value.now same
    ∙ sym (ap part_answer (c.from.ensures ∙ ap Left c.in_ok-clone-in-Some.ensures))

pub returns-in_ok-type_error_single-in-Some : goal.returns-in_ok-type_error_single-in-Some
returns-in_ok-type_error_single-in-Some c =
    let stated : unknown_type c.args.unknown.now ≡ Some (value_type_of c.in-Some.expected) = search rules in
    let other : same_type (value_type_of c.in-Some.expected) (type_of_value c.args.value.now) ≡ false = search rules in
    subst (FailsBy ⊥ (λ k. value_held (fits (unknown_type c.args.unknown.now) c.args.value.now) c.args.value.now ≡ Failed k)) (sym c.in_ok-type_error_single-in-Some.ensures.kind)
    (ap (λ ty. value_held (fits ty c.args.value.now) c.args.value.now) stated ∙ of_other (value_type_of c.in-Some.expected) c.args.value.now other)

-- The entry that is taken, or what is left of the access.
use Rattle.std.proofs.Common.{◌≡◌, ◌∙◌, ap, sym, subst}
use Rattle.std.specs.Prelude.{option_map}
use Rattle.std.specs.Rc.{rc_str_bytes}
use Rattle.either.specs.declared.Either.TheVariants.{Right}
use Rattle.cedar_language.specs.Tree.{GetAttr, Apply, a_tree, no_trees}
use Rattle.cedar_partial_evaluation.specs.Partial.{Failed, attribute_answer}
use Rattle.cedar_trees.specs.Bare.{bare}
use Rattle.cedar_interpreter.specs.Meeting.{part_answer}
use Rattle.cedar_interpreter.specs.Projecting.{IsProjectedOf, IsTaken}
use Rattle.cedar_interpreter.proofs.Steps.{passed}
use Rattle.cedar_interpreter.proofs.attributes.project.Goals as goal

pub returns-in_err-entry : goal.returns-in_err-entry
returns-in_err-entry c =
    λ facts holds. passed (IsProjectedOf facts holds (rc_str_bytes c.args.attr.now) (bare c.args.rest)) (λ k. attribute_answer facts holds (rc_str_bytes c.args.attr.now) (bare c.args.rest) ≡ Failed k) ⊥ c.in_err-entry.field-0.0 c.from_residual.result c.from_residual.ensures (c.in_err-entry.ensures facts holds)

pub returns-in-Some : goal.returns-in-Some
returns-in-Some c =
    λ facts holds. subst (λ o. IsTaken facts holds (rc_str_bytes c.args.attr.now) (bare c.args.rest) (option_map bare o)) c.in-Some.is (c.in_ok-entry.ensures facts holds)

pub returns-in_ok-access-in-None : goal.returns-in_ok-access-in-None
returns-in_ok-access-in-None c =
    λ facts holds.
    let waits = subst (λ o. IsTaken facts holds (rc_str_bytes c.args.attr.now) (bare c.args.rest) (option_map bare o)) c.in-None.is (c.in_ok-entry.ensures facts holds) in
    let made = c.in_ok-access-in-None.ensures ∙ ap (λ k. Apply (GetAttr k) (a_tree (bare c.args.rest) no_trees)) c.in_ok-clone-in-None.ensures.cases in
    waits ∙ sym (ap part_answer (c.from.ensures ∙ ap Right made))

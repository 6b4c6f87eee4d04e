-- An attribute of what a part is found to be.
use Rattle.std.proofs.Common.{◌≡◌, ◌<◌, ◌∙◌, ap, sym, subst, arith, true, false}
use Rattle.std.specs.Prelude.{Some, None, option_map, Result, Ok, Err}
use Rattle.std.specs.Map.{lookup}
use Rattle.either.specs.declared.Either.{Either}
use Rattle.either.specs.declared.Either.TheVariants.{Right}
use Rattle.cedar_language.specs.Uid.{Text}
use Rattle.cedar_language.specs.Tree.{GetAttr, MakeRecord, Tree, Apply, no_trees, a_tree}
use Rattle.cedar_language.specs.Facts.{Facts}
use Rattle.cedar_language.specs.Height.{height}
use Rattle.cedar_language.specs.Restricted.{is_projectable, are_projectable}
use Rattle.cedar_language.specs.Value.{Value, no_values, RecordAttrDoesNotExist}
use Rattle.cedar_partial_evaluation.specs.Alike.{ProjectingIsEvaluating}
use Rattle.cedar_partial_evaluation.specs.Partial.{Answer, ResidualTree, Failed, AllEvaluated, and_next, LeafAnswers, found_tree, attribute_answer, apply_answer}
use Rattle.cedar_grammar.specs.Build.{keys}
use Rattle.cedar_trees.specs.Bare.{bare, bare_entries}
use Rattle.cedar_trees.specs.declared.expr.Expr.{Expr}
use Rattle.cedar_extensions.specs.declared.evaluation_error.EvaluationError.{EvaluationError}
use Rattle.cedar_interpreter.specs.Meeting.{part_answer}
use Rattle.cedar_interpreter.specs.Projecting.{ProjectsAt, ProjectsOf, IsTaken}
use Rattle.cedar_interpreter.specs.declared.attributes.Projected.{Projected}
use Rattle.cedar_interpreter.specs.declared.attributes.Projected.TheVariants as projected
use Rattle.cedar_interpreter.proofs.Projecting.{Entries, record_trees, is_name, found_projectable, found_low, found_is, key_missing, key_projected, key_waits}

-- ---- an attribute of what is left

module _ (facts : Facts) (holds : LeafAnswers) (a : Text) (again : ProjectingIsEvaluating) where
  projects : (r : Tree) (result : Result Projected EvaluationError) → ProjectsOf facts holds a r result → ProjectsAt facts holds (Right r) (attribute_answer facts holds a r) result
  projects r (Ok (projected.Done p)) h = h
  projects r (Ok (projected.Entry e)) h = (h.0 ∙ again facts holds (bare e) h.2, h.1, h.2)
  projects r (Err e) h = h

  -- by what the part is found to be
  pub residual_projects : (r : Tree) (part : Either Value Tree) (result : Result Projected EvaluationError) → part ≡ Right r → ProjectsOf facts holds a r result →
      ProjectsAt facts holds part (apply_answer facts holds (GetAttr a) (and_next facts (part_answer part) (AllEvaluated no_values))) result
  residual_projects r part result is h =
      subst (λ p. ProjectsAt facts holds p (apply_answer facts holds (GetAttr a) (and_next facts (part_answer p) (AllEvaluated no_values))) result) (sym is) (projects r result h)

-- what is found at a key of a record that is left
module _ (facts : Facts) (holds : LeafAnswers) (a : Text) (e : Expr (Unit {0})) (es : Entries) (is : bare e ≡ Apply (MakeRecord (keys (bare_entries es))) (record_trees es)) where
  as_record : (b : Answer) → attribute_answer facts holds a (Apply (MakeRecord (keys (bare_entries es))) (record_trees es)) ≡ b → attribute_answer facts holds a (bare e) ≡ b
  as_record b h = ap (attribute_answer facts holds a) is ∙ h

  pub missing_here : lookup (is_name a) es ≡ None → attribute_answer facts holds a (bare e) ≡ Failed RecordAttrDoesNotExist
  missing_here none = as_record _ (key_missing a (keys (bare_entries es)) (record_trees es) facts holds (found_is es a ∙ ap (option_map bare) none))

  module _ (x : Expr (Unit {0})) (some : lookup (is_name a) es ≡ Some x) where
    found_here : found_tree (keys (bare_entries es)) (record_trees es) a ≡ Some (bare x)
    found_here = found_is es a ∙ ap (option_map bare) some

    is_low : height (bare x) < height (bare e)
    is_low = subst (λ y. height (bare x) < height y) (sym is) (omega (arith, found_low (keys (bare_entries es)) (record_trees es) a (bare x) found_here))

    pub taken_here : (t : Tree) → t ≡ bare x → is_projectable (bare e) ≡ true → IsTaken facts holds a (bare e) (Some t)
    taken_here t same p =
        let plain : are_projectable (record_trees es) ≡ true = sym (ap is_projectable is) ∙ p in
        subst (λ y. IsTaken facts holds a (bare e) (Some y)) (sym same)
        (as_record _ (key_projected a (keys (bare_entries es)) (record_trees es) facts holds (bare x) found_here plain), is_low, found_projectable (keys (bare_entries es)) (record_trees es) a (bare x) found_here plain)

    pub waits_here : is_projectable (bare e) ≡ false → IsTaken facts holds a (bare e) None
    waits_here p =
        as_record _ (key_waits a (keys (bare_entries es)) (record_trees es) facts holds (bare x) found_here (sym (ap is_projectable is) ∙ p))
        ∙ ap (λ y. ResidualTree (Apply (GetAttr a) (a_tree y no_trees))) (sym is)

-- From the answers of the parts of a construct to its own.
use Rattle.std.proofs.Common.{◌≡◌, ◌∙◌, refl, ap, sym, subst, List, [], ◌∷◌, length, map, Bool, true, false}
use Rattle.std.proofs.lemmas.List.{length-map}
use Rattle.std.specs.Prelude.{Result}
use Rattle.std.specs.List.{list_any}
use Rattle.either.specs.declared.Either.{Either}
use Rattle.either.specs.declared.Either.TheVariants.{Left, Right}
use Rattle.cedar_language.specs.Tree.{Operator, Call, Tree, Lit, Var, Slot, Unknown, If, And, Or, Apply, Trees, no_trees, a_tree}
use Rattle.cedar_language.specs.Value.{Value, Values, no_values, a_value}
use Rattle.cedar_language.specs.Facts.{Facts}
use Rattle.cedar_language.specs.Operators.{applied}
use Rattle.cedar_language.specs.Order.{all_of}
use Rattle.cedar_partial_evaluation.specs.Alike.{gathered, GatheredSplits}
use Rattle.cedar_partial_evaluation.specs.Partial.{Evaluated, AllEvaluated, SomeResiduals, answer_of, and_next, LeafAnswers, residual_answer, apply_answer}
use Rattle.cedar_grammar.specs.Build.{trees}
use Rattle.cedar_trees.specs.Bare.{bare}
use Rattle.cedar_trees.specs.declared.expr.Expr.{Expr}
use Rattle.cedar_restricted.specs.PartialValues.{PartExpresses}
use Rattle.cedar_restricted.specs.Splitting.{ExpressEach, is_residual}
use Rattle.cedar_restricted.specs.declared.partial_values.PartialValue.{PartialValue}
use Rattle.cedar_extensions.specs.declared.evaluation_error.EvaluationError.{EvaluationError}
use Rattle.cedar_interpreter.specs.Forms.{is_of_list}
use Rattle.cedar_interpreter.specs.Meeting.{part_answer, MeetsAt}
use Rattle.cedar_interpreter.specs.Operating.{applied_in, is_call, left_in, operated}
use Rattle.cedar_interpreter.proofs.Constructs.{construct_left}
use Rattle.cedar_interpreter.proofs.Gathering.{parts_write, some_left, all_values, expressed_length}

module _ (facts : Facts) where
  module _ (naming : Bool) (holds : LeafAnswers) where
    -- what isn't called names nothing
    pub operated_values : (t : Tree) (vs : Values) → is_of_list t ≡ true → is_call t ≡ false → operated naming facts holds t (AllEvaluated vs) ≡ answer_of (applied_in facts t vs)
    operated_values (Apply (Call f) ts) vs s c = cc
    operated_values (Apply op ts) vs s c = refl
    operated_values (Lit l) vs s c = cc
    operated_values (Var v) vs s c = cc
    operated_values (Slot i) vs s c = cc
    operated_values (Unknown n ty) vs s c = cc
    operated_values (If t y n) vs s c = cc
    operated_values (And l r) vs s c = cc
    operated_values (Or l r) vs s c = cc

    operated_left : (t : Tree) (us : Trees) → is_of_list t ≡ true → operated naming facts holds t (SomeResiduals us) ≡ left_in facts holds t us
    operated_left (Apply op ts) us s = construct_left naming facts holds op us
    operated_left (Lit l) us s = cc
    operated_left (Var v) us s = cc
    operated_left (Slot i) us s = cc
    operated_left (Unknown n ty) us s = cc
    operated_left (If t y n) us s = cc
    operated_left (And l r) us s = cc
    operated_left (Or l r) us s = cc

    module _ (t : Tree) (strict : is_of_list t ≡ true) (ps : List (Either Value Tree)) where
      pub of_values : (vs : List Value) (r : Result PartialValue EvaluationError) → ps ≡ map Left vs → MeetsAt ⊥ (operated naming facts holds t (AllEvaluated (all_of vs))) r → MeetsAt ⊥ (operated naming facts holds t (gathered facts (map part_answer ps))) r
      of_values vs r is h =
          let all : gathered facts (map part_answer ps) ≡ AllEvaluated (all_of vs) = ap (λ qs. gathered facts (map part_answer qs)) is ∙ all_values facts vs in
          subst (λ b. MeetsAt ⊥ b r) (sym (ap (operated naming facts holds t) all)) h

      pub of_left : GatheredSplits facts → (us : List Tree) → (list_any is_residual ps ≡ true) × ExpressEach ps us → operated naming facts holds t (gathered facts (map part_answer ps)) ≡ left_in facts holds t (trees us)
      of_left splits us split =
          ap (operated naming facts holds t) (splits.trees (trees us) (map part_answer ps) (parts_write facts ps us split.1) (some_left ps ∙ split.0))
          ∙ operated_left t (trees us) strict

pub values_count : (ps : List (Either Value Tree)) (vs : List Value) → ps ≡ map Left vs → length vs ≡ length ps
values_count ps vs is = sym (length-map vs Left) ∙ ap length (sym is)

pub exprs_count : (ps : List (Either Value Tree)) (es : List (Expr (Unit {0}))) → ExpressEach ps (map bare es) → length es ≡ length ps
exprs_count ps es w = sym (length-map es bare) ∙ expressed_length ps (map bare es) w

-- ---- operators of one operand and of two

-- a residual writes itself
pub itself_left : (p : Either Value Tree) (r : Tree) → p ≡ Right r → PartExpresses p r
itself_left p r is = subst (λ x. PartExpresses x r) (sym is) refl

module _ (facts : Facts) (holds : LeafAnswers) (op : Operator) where
  pub one_value : (p : Either Value Tree) (v : Value) (r : Result PartialValue EvaluationError) → p ≡ Left v →
      MeetsAt ⊥ (answer_of (applied facts op (a_value v no_values))) r → MeetsAt ⊥ (apply_answer facts holds op (and_next facts (part_answer p) (AllEvaluated no_values))) r
  one_value p v r is h = subst (λ x. MeetsAt ⊥ (apply_answer facts holds op (and_next facts (part_answer x) (AllEvaluated no_values))) r) (sym is) h

  pub one_waits : (p : Either Value Tree) (r : Tree) → p ≡ Right r → apply_answer facts holds op (and_next facts (part_answer p) (AllEvaluated no_values)) ≡ residual_answer facts holds op (a_tree r no_trees)
  one_waits p r is = ap (λ x. apply_answer facts holds op (and_next facts (part_answer x) (AllEvaluated no_values))) is

  module _ (p q : Either Value Tree) where
    pub two_values : (v w : Value) (r : Result PartialValue EvaluationError) → p ≡ Left v → q ≡ Left w →
        MeetsAt ⊥ (answer_of (applied facts op (a_value v (a_value w no_values)))) r → MeetsAt ⊥ (apply_answer facts holds op (and_next facts (part_answer p) (and_next facts (part_answer q) (AllEvaluated no_values)))) r
    two_values v w r is also h =
        subst (λ x. MeetsAt ⊥ (apply_answer facts holds op (and_next facts (part_answer x) (and_next facts (part_answer q) (AllEvaluated no_values)))) r) (sym is)
        (subst (λ y. MeetsAt ⊥ (apply_answer facts holds op (and_next facts (Evaluated v) (and_next facts (part_answer y) (AllEvaluated no_values)))) r) (sym also) h)

    -- what writes both, where one of them is a residual
    pub two_wait : GatheredSplits facts → (u w : Tree) → PartExpresses p u → PartExpresses q w → list_any is_residual (p ∷ q ∷ []) ≡ true →
        apply_answer facts holds op (and_next facts (part_answer p) (and_next facts (part_answer q) (AllEvaluated no_values))) ≡ residual_answer facts holds op (a_tree u (a_tree w no_trees))
    two_wait splits u w writes wrote some =
        let ps = p ∷ q ∷ [] in
        ap (apply_answer facts holds op) (splits.trees (a_tree u (a_tree w no_trees)) (map part_answer ps) (parts_write facts ps (u ∷ w ∷ []) (writes, (wrote, tt))) (some_left ps ∙ some))

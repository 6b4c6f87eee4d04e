-- From one operand, or from two, to their operator: how deep it is, and which errors are its own.
use Rattle.std.proofs.Common.{◌≡◌, ◌∙◌, ℕ, refl, ap, sym, subst, [], ◌∷◌, suc}
use Rattle.std.specs.Prelude.{⊤, Bool, false, Result}
use Rattle.either.specs.declared.Either.{Either}
use Rattle.cedar_language.specs.Tree.{Operator, Tree}
use Rattle.cedar_language.specs.Value.{Value, Kind, no_values}
use Rattle.cedar_language.specs.Facts.{Facts}
use Rattle.cedar_partial_evaluation.specs.Partial.{Answer, Failed, AllEvaluated, and_next, LeafAnswers, apply_answer}
use Rattle.cedar_partial_evaluation.specs.ReadUnknowns.{is_unknown_call}
use Rattle.cedar_grammar.specs.Build.{unary, binary}
use Rattle.cedar_policy_parts.specs.Bindings.{Bindings}
use Rattle.cedar_extensions.specs.Answering.{FunctionAnswers}
use Rattle.cedar_extensions.specs.declared.evaluation_error.EvaluationError.{EvaluationError}
use Rattle.cedar_restricted.specs.declared.partial_values.PartialValue.{PartialValue}
use Rattle.cedar_interpreter.specs.Holding.{held_by, Knows, is_naming, NestsBeyond}
use Rattle.cedar_interpreter.specs.Meeting.{part_answer, MeetsAt}
use Rattle.cedar_interpreter.specs.Naming.{naming_in}
use Rattle.cedar_interpreter.specs.declared.evaluator.Evaluator.{Evaluator}
use Rattle.cedar_interpreter.proofs.Constructs.{plain_construct}
use Rattle.cedar_interpreter.proofs.Gathering.{fails_behind}
use Rattle.cedar_interpreter.proofs.Steps.{meets_anyhow}
use Rattle.cedar_interpreter.proofs.Nesting.{deep_operand, deep_left, deep_right}

module _ (t : Tree) (op : Operator) (u : Tree) (is : t ≡ unary op u) (calls : is_unknown_call op ≡ false) where
  one_is : (naming : Bool) (facts : Facts) (holds : LeafAnswers) (b : Answer) → naming_in naming facts holds u ≡ b → naming_in naming facts holds t ≡ apply_answer facts holds op (and_next facts b (AllEvaluated no_values))
  one_is naming facts holds b h =
      ap (naming_in naming facts holds) is ∙ plain_construct naming facts holds op (and_next facts (naming_in naming facts holds u) (AllEvaluated no_values)) calls
      ∙ ap (λ a. apply_answer facts holds op (and_next facts a (AllEvaluated no_values))) h

  pub one_fails : (naming : Bool) (facts : Facts) (holds : LeafAnswers) (k : Kind) → naming_in naming facts holds u ≡ Failed k → naming_in naming facts holds t ≡ Failed k
  one_fails naming facts holds k h = one_is naming facts holds (Failed k) h

  -- what the operator gives of what its operand is found to be
  pub one_meets : (naming : Bool) (facts : Facts) (holds : LeafAnswers) (p : Either Value Tree) (r : Result PartialValue EvaluationError) → naming_in naming facts holds u ≡ part_answer p →
      MeetsAt ⊥ (apply_answer facts holds op (and_next facts (part_answer p) (AllEvaluated no_values))) r → MeetsAt ⊤ (naming_in naming facts holds t) r
  one_meets naming facts holds p r found h =
      meets_anyhow r _ (subst (λ b. MeetsAt ⊥ b r) (sym (one_is naming facts holds (part_answer p) found)) h)

  pub one_deep : {F : Type 0} (answers : F → FunctionAnswers) (ev : Evaluator F) (slots : Bindings) (depth : ℕ) → NestsBeyond answers ev slots depth u → NestsBeyond answers ev slots (suc depth) t
  one_deep answers ev slots depth d = subst (NestsBeyond answers ev slots (suc depth)) (sym is) (deep_operand answers ev slots depth op u d)

module _ (t : Tree) (op : Operator) (l r : Tree) (is : t ≡ binary op l r) (calls : is_unknown_call op ≡ false) where
  two_are : (naming : Bool) (facts : Facts) (holds : LeafAnswers) →
      naming_in naming facts holds t ≡ apply_answer facts holds op (and_next facts (naming_in naming facts holds l) (and_next facts (naming_in naming facts holds r) (AllEvaluated no_values)))
  two_are naming facts holds =
      ap (naming_in naming facts holds) is
      ∙ plain_construct naming facts holds op (and_next facts (naming_in naming facts holds l) (and_next facts (naming_in naming facts holds r) (AllEvaluated no_values))) calls

  pub left_fails : (naming : Bool) (facts : Facts) (holds : LeafAnswers) (k : Kind) → naming_in naming facts holds l ≡ Failed k → naming_in naming facts holds t ≡ Failed k
  left_fails naming facts holds k h =
      two_are naming facts holds
      ∙ ap (λ b. apply_answer facts holds op (and_next facts b (and_next facts (naming_in naming facts holds r) (AllEvaluated no_values)))) h

  both_found : (naming : Bool) (facts : Facts) (holds : LeafAnswers) (p : Either Value Tree) → naming_in naming facts holds l ≡ part_answer p → (b : Answer) → naming_in naming facts holds r ≡ b →
      naming_in naming facts holds t ≡ apply_answer facts holds op (and_next facts (part_answer p) (and_next facts b (AllEvaluated no_values)))
  both_found naming facts holds p found b other =
      two_are naming facts holds
      ∙ ap (λ a. apply_answer facts holds op (and_next facts a (and_next facts (naming_in naming facts holds r) (AllEvaluated no_values)))) found
      ∙ ap (λ a. apply_answer facts holds op (and_next facts (part_answer p) (and_next facts a (AllEvaluated no_values)))) other

  pub right_fails : (naming : Bool) (facts : Facts) (holds : LeafAnswers) (p : Either Value Tree) (k : Kind) → naming_in naming facts holds l ≡ part_answer p → naming_in naming facts holds r ≡ Failed k → naming_in naming facts holds t ≡ Failed k
  right_fails naming facts holds p k found h =
      both_found naming facts holds p found (Failed k) h ∙ ap (apply_answer facts holds op) (fails_behind facts (p ∷ []) (Failed k ∷ []) k refl)

  pub two_meet : (naming : Bool) (facts : Facts) (holds : LeafAnswers) (p q : Either Value Tree) (res : Result PartialValue EvaluationError) → naming_in naming facts holds l ≡ part_answer p → naming_in naming facts holds r ≡ part_answer q →
      MeetsAt ⊥ (apply_answer facts holds op (and_next facts (part_answer p) (and_next facts (part_answer q) (AllEvaluated no_values)))) res → MeetsAt ⊤ (naming_in naming facts holds t) res
  two_meet naming facts holds p q res found other h = meets_anyhow res _ (subst (λ b. MeetsAt ⊥ b res) (sym (both_found naming facts holds p found (part_answer q) other)) h)

  pub left_deep : {F : Type 0} (answers : F → FunctionAnswers) (ev : Evaluator F) (slots : Bindings) (depth : ℕ) → NestsBeyond answers ev slots depth l → NestsBeyond answers ev slots (suc depth) t
  left_deep answers ev slots depth d = subst (NestsBeyond answers ev slots (suc depth)) (sym is) (deep_left answers ev slots depth op l r d)

  pub right_deep : {F : Type 0} (answers : F → FunctionAnswers) (ev : Evaluator F) (slots : Bindings) (depth : ℕ) (p : Either Value Tree) → ((facts : Facts) → Knows answers ev facts → naming_in (is_naming answers ev) facts (held_by ev slots) l ≡ part_answer p) →
      NestsBeyond answers ev slots depth r → NestsBeyond answers ev slots (suc depth) t
  right_deep answers ev slots depth p found d = subst (NestsBeyond answers ev slots (suc depth)) (sym is) (deep_right answers ev slots depth op l r p found d)

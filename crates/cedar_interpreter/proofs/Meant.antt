-- A tree that mentions only what is known is answered by what it means.
use Rattle.std.proofs.Common.{◌≡◌, ◌∙◌, ◌<◌, ℕ, refl, ap, sym, arith, true, false, true≢false, inl, inr}
use Rattle.std.specs.Prelude.{⊤, ◌⊎◌, Result, Ok, Err}
use Rattle.cedar_language.specs.Tree.{Tree}
use Rattle.cedar_language.specs.Value.{Value, Kind, NonValue, Outcome, Gives, Fails}
use Rattle.cedar_language.specs.Facts.{Facts}
use Rattle.cedar_language.specs.Height.{height}
use Rattle.cedar_language.specs.Meaning.{Request, slot_outcome, meaning}
use Rattle.cedar_partial_evaluation.specs.Leaves.{is_left, AreKnown, AnswerAlike, KnownIsNeverLeft, LeavesDontMatter}
use Rattle.cedar_partial_evaluation.specs.Mentions.{mentions_only}
use Rattle.cedar_partial_evaluation.specs.Partial.{Answer, Evaluated, ResidualTree, Failed, answer_of, LeafAnswers, leaf_answers_of, partial_in, KnownIsMeaning}
use Rattle.cedar_policy_parts.specs.Bindings.{Bindings, binding_of}
use Rattle.cedar_extensions.specs.Answering.{FunctionAnswers}
use Rattle.cedar_extensions.specs.Failures.{Failure, OfKind, LimitMet, MemoryRanOut, failure_of}
use Rattle.cedar_extensions.specs.Giving.{FailsBy}
use Rattle.cedar_extensions.specs.declared.evaluation_error.EvaluationError.{EvaluationError}
use Rattle.cedar_interpreter.specs.Asking.{is_known_in, IsHeldOf, MeansTree}
use Rattle.cedar_interpreter.specs.Holding.{held_by, variable_held, is_held, is_evaluated, Serves, Deep}
use Rattle.cedar_interpreter.specs.Meeting.{ValueAt, IsLimit}
use Rattle.cedar_interpreter.specs.declared.evaluator.Evaluator.{Evaluator}
use Rattle.cedar_interpreter.proofs.Depths.{held_known, slot_known, known_depth}

valued : (a : Answer) (w : Value) → is_evaluated a ≡ true → ((v : Value) → a ≡ Evaluated v → w ≡ v) → a ≡ Evaluated w
valued (Evaluated v) w h same = ap Evaluated (sym (same v refl))
valued (ResidualTree r) w h same = cc
valued (Failed k) w h same = cc

not_left : (a : Answer) → is_evaluated a ≡ true → is_left a ≡ false
not_left (Evaluated v) h = refl
not_left (ResidualTree r) h = cc
not_left (Failed k) h = refl

told : (o : Outcome) → is_left (answer_of o) ≡ false
told (Gives v) = refl
told (Fails k) = refl

gives : (o : Outcome) (v : Value) → answer_of o ≡ Evaluated v → o ≡ Gives v
gives (Gives w) v h = cc
gives (Fails k) v h = cc

fails : (o : Outcome) (k : Kind) → answer_of o ≡ Failed k → o ≡ Fails k
fails (Gives w) k h = cc
fails (Fails l) k h = cc

module _ (law : LeavesDontMatter) (known : KnownIsMeaning) (facts : Facts) (holds : LeafAnswers) (t : Tree) where
  module _ (only : mentions_only (is_known_in holds) true t ≡ true) (request : Request) (held : IsHeldOf holds request) where
    are_known : AreKnown (is_known_in holds) true holds
    are_known = record {
      variable = λ v h. not_left (holds.variable v) h;
      slot = λ s h. ap is_left (held.slot s) ∙ told (slot_outcome (request.slots s));
    }

    are_alike : AnswerAlike (is_known_in holds) true holds (leaf_answers_of request)
    are_alike = record {
      variable = λ v h. valued (holds.variable v) (request.variable v) h (held.variable v);
      slot = λ s h. held.slot s;
    }

    is_meaning : partial_in facts holds t ≡ answer_of (meaning facts request t)
    is_meaning = law.answers facts (is_known_in holds) true holds (leaf_answers_of request) are_known are_alike t only ∙ known facts request t

    erred : (k : Kind) → (partial_in facts holds t ≡ Failed k) ⊎ ((k ≡ NonValue) × (is_left (partial_in facts holds t) ≡ true)) → meaning facts request t ≡ Fails k
    erred k (inl e) = fails (meaning facts request t) k (sym is_meaning ∙ e)
    erred k (inr e) = absurd (true≢false (sym e.1 ∙ (ap is_left is_meaning ∙ told (meaning facts request t))))

    failing : (depth : ℕ) (f : Failure) → (f ≡ LimitMet → depth < height t)
        → FailsBy ⊤ (λ k. (partial_in facts holds t ≡ Failed k) ⊎ ((k ≡ NonValue) × (is_left (partial_in facts holds t) ≡ true))) f
        → FailsBy (depth < height t) (λ k. meaning facts request t ≡ Fails k) f
    failing depth (OfKind k) deep h = erred k h
    failing depth LimitMet deep h = deep refl
    failing depth MemoryRanOut deep h = tt

  means : (depth : ℕ) (result : Result Value EvaluationError) → ValueAt ⊤ (partial_in facts holds t) result → (IsLimit result → mentions_only (is_known_in holds) true t ≡ true → depth < height t) → MeansTree facts holds depth t result
  means depth (Ok v) found deep only request held = gives (meaning facts request t) v (sym (is_meaning only request held) ∙ found)
  means depth (Err e) found deep only request held = failing only request held depth (failure_of e) (λ l. deep l only) found

-- an evaluator's value
module _ {F : Type 0} (answers : F → FunctionAnswers) (law : LeavesDontMatter) (known : KnownIsMeaning) (never : KnownIsNeverLeft) (ev : Evaluator F) (slots : Bindings) (depth : ℕ) (t : Tree) (result : Result Value EvaluationError)
    (found : (facts : Facts) → Serves answers ev facts t → ValueAt ⊤ (partial_in facts (held_by ev slots) t) result) (limit : IsLimit result → Deep answers ev slots depth t)
    (facts : Facts) (serves : Serves answers ev facts t) where
  -- nothing of what it mentions is left
  high : IsLimit result → mentions_only (is_known_in (held_by ev slots)) true t ≡ true → depth < height t
  high l only =
      let low = known_depth never facts (is_held ev) true (held_by ev slots) (record { variable = λ v k. held_known (variable_held ev v) k; slot = λ i k. slot_known (binding_of slots i) }) t only in
      omega (arith, limit l facts serves, low)

  pub means_tree : MeansTree facts (held_by ev slots) depth t result
  means_tree = means law known facts (held_by ev slots) t depth result (found facts serves) high

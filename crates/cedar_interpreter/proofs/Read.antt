-- From what an evaluation answers where calls may name unknowns: where none does, and where each is read as the unknown that it names.
use Rattle.std.proofs.Common.{◌≡◌, ◌∙◌, ◌<◌, ◌≤◌, ℕ, refl, ap, sym, subst, suc, arith, Bool, true, false}
use Rattle.std.proofs.Common.{inl, inr}
use Rattle.std.specs.Prelude.{⊤, ◌⊎◌, ◌&&◌, Option, Some, None, Result, Ok, Err}
use Rattle.cedar_language.specs.Uid.{Text, Uid}
use Rattle.cedar_language.specs.Tree.{String, Tree, ValueType}
use Rattle.cedar_language.specs.Value.{Value, Plain, no_values, a_value, Kind, NonValue}
use Rattle.cedar_language.specs.Facts.{Facts}
use Rattle.cedar_language.specs.Meaning.{slot_outcome}
use Rattle.cedar_language.specs.Operators.{called}
use Rattle.cedar_language.specs.Restricted.{is_projectable}
use Rattle.cedar_partial_evaluation.specs.Leaves.{is_left}
use Rattle.cedar_partial_evaluation.specs.Partial.{Answer, Evaluated, ResidualTree, Failed, answer_of, LeafAnswers, partial_in}
use Rattle.cedar_partial_evaluation.specs.Question.{value_held, name_held}
use Rattle.cedar_partial_evaluation.specs.ReadUnknowns.{read_unknowns, calls_unknown, UnknownsAreRead}
use Rattle.cedar_partial_evaluation.specs.Unknowns.{fits}
use Rattle.cedar_policy_parts.specs.Bindings.{Bindings, binding_of}
use Rattle.cedar_extensions.specs.Answering.{FunctionAnswers}
use Rattle.cedar_extensions.specs.Failures.{failure_of}
use Rattle.cedar_extensions.specs.Giving.{fails_on}
use Rattle.cedar_extensions.specs.Holding.{are_named}
use Rattle.cedar_extensions.specs.Tables.{functions_in}
use Rattle.cedar_extensions.specs.declared.evaluation_error.EvaluationError.{EvaluationError}
use Rattle.cedar_restricted.specs.declared.partial_values.PartialValue.{PartialValue}
use Rattle.cedar_restricted_evaluation.proofs.Naming.{unknown_is_found}
use Rattle.cedar_interpreter.specs.Depths.{evaluation_depth}
use Rattle.cedar_interpreter.specs.Holding.{held_by, value_told, Knows, Serves, ServesRead, is_naming, Deep, NestsBeyond, IsDeepRead}
use Rattle.cedar_interpreter.specs.Meeting.{MeetsAt, ReadsAt, ValueAt}
use Rattle.cedar_interpreter.specs.Naming.{naming_in, naming_depth, as_read, IsPlain, ArePlain, GivesTexts}
use Rattle.cedar_interpreter.specs.declared.evaluator.Evaluator.{Evaluator}
use Rattle.cedar_interpreter.proofs.Naming.{without}
use Rattle.cedar_interpreter.proofs.NamingDepths.{names_are_read}
use Rattle.cedar_interpreter.proofs.Projecting.{projectable_calls}
use Rattle.cedar_interpreter.proofs.Steps.{meets_as}
use Rattle.std.proofs.lemmas.Bool.{and_right as none_at}

-- an entry that is projected names nothing
pub entry_is : (naming : Bool) (facts : Facts) (holds : LeafAnswers) (e : Tree) → is_projectable e ≡ true → naming_in naming facts holds e ≡ partial_in facts holds e
entry_is naming facts holds e h = without naming facts holds e (none_at naming (calls_unknown e) (projectable_calls e h))

value_plain : (b : Bool) (v : Value) → IsPlain (value_held b v)
value_plain true v = tt
value_plain false v = tt

name_plain : (o : Option Value) (n : Text) (ty : Option ValueType) → IsPlain (name_held o n ty)
name_plain (Some v) n ty = value_plain (fits ty v) v
name_plain None n ty = refl

slot_plain : (o : Option Uid) → IsPlain (answer_of (slot_outcome o))
slot_plain (Some u) = tt
slot_plain None = tt

pub reads_as : (result : Result PartialValue EvaluationError) (a b : Answer) → b ≡ as_read a → MeetsAt ⊤ a result → ReadsAt ⊤ b result
reads_as (Ok p) a b is h = is ∙ ap as_read h
reads_as (Err e) a b is h = fails_on (failure_of e) (λ k f. is ∙ ap as_read f) (λ d. d) h

left_read : (a : Answer) → is_left (as_read a) ≡ is_left a
left_read (Evaluated v) = refl
left_read (ResidualTree r) = refl
left_read (Failed k) = refl

pub value_read_as : (result : Result Value EvaluationError) (a b : Answer) → b ≡ as_read a → ValueAt ⊤ a result → ValueAt ⊤ b result
value_read_as (Ok v) a b is h = is ∙ ap as_read h
value_read_as (Err e) a b is h = fails_on (failure_of e) (failed_read a b is) (λ d. d) h
  where
    failed_read : (a b : Answer) → b ≡ as_read a → (k : Kind) → (a ≡ Failed k) ⊎ ((k ≡ NonValue) × (is_left a ≡ true)) → (b ≡ Failed k) ⊎ ((k ≡ NonValue) × (is_left b ≡ true))
    failed_read a b is k (inl f) = inl (is ∙ ap as_read f)
    failed_read a b is k (inr (n, l)) = inr (n, ap is_left is ∙ left_read a ∙ l)

module _ {F : Type 0} (answers : F → FunctionAnswers) (unread : UnknownsAreRead) (ev : Evaluator F) (slots : Bindings) (depth : ℕ) (t : Tree) where
  knows_served : (facts : Facts) → Serves answers ev facts t → Knows answers ev facts
  knows_served facts s = record { entities = s.entities; functions = s.functions }

  module _ (result : Result PartialValue EvaluationError) (found : (facts : Facts) → Knows answers ev facts → MeetsAt ⊤ (naming_in (is_naming answers ev) facts (held_by ev slots) t) result) where
    pub found_served : (facts : Facts) → Serves answers ev facts t → MeetsAt ⊤ (partial_in facts (held_by ev slots) t) result
    found_served facts s =
        meets_as result _ _ (sym ((names_are_read unread).without (is_naming answers ev) facts (held_by ev slots) t s.names_nothing).0) (found facts (knows_served facts s))

  pub deep_served : NestsBeyond answers ev slots depth t → Deep answers ev slots depth t
  deep_served d facts s =
      subst (λ n. depth < n) ((names_are_read unread).without (is_naming answers ev) facts (held_by ev slots) t s.names_nothing).1 (d facts (knows_served facts s))

  module _ (named : are_named (functions_in ev.extensions.now) ≡ true) (facts : Facts) (s : ServesRead answers ev facts t) where
    pub gives_texts : GivesTexts facts
    gives_texts f is n =
        ap (λ o. called o (a_value (Plain (String n)) no_values)) (s.knows.functions f ∙ unknown_is_found answers f is (functions_in ev.extensions.now) named s.naming)

    are_plain : ArePlain (held_by ev slots)
    are_plain = record {
      variable = s.variables;
      unknown = λ n ty. name_plain (value_told ev.told n) n ty;
      slot = λ i. slot_plain (binding_of slots i);
    }

    read_at :
        (partial_in facts (held_by ev slots) (read_unknowns t) ≡ as_read (naming_in true facts (held_by ev slots) t)) × (naming_depth true facts (held_by ev slots) t ≤ suc (evaluation_depth facts (held_by ev slots) (read_unknowns t)))
    read_at = (names_are_read unread).reads facts (held_by ev slots) gives_texts are_plain t s.written

  module _ (named : are_named (functions_in ev.extensions.now) ≡ true) where
    -- what partial evaluation answers to the tree that is read, by what is answered
    pub read_answer : (facts : Facts) → ServesRead answers ev facts t → partial_in facts (held_by ev slots) (read_unknowns t) ≡ as_read (naming_in (is_naming answers ev) facts (held_by ev slots) t)
    read_answer facts s = (read_at named facts s).0 ∙ ap (λ b. as_read (naming_in b facts (held_by ev slots) t)) (sym s.naming)

    pub found_read : (result : Result PartialValue EvaluationError) → ((facts : Facts) → Knows answers ev facts → MeetsAt ⊤ (naming_in (is_naming answers ev) facts (held_by ev slots) t) result) →
        (facts : Facts) → ServesRead answers ev facts t → ReadsAt ⊤ (partial_in facts (held_by ev slots) (read_unknowns t)) result
    found_read result found facts s = reads_as result _ _ (read_answer facts s) (found facts s.knows)

    pub deep_read : NestsBeyond answers ev slots depth t → IsDeepRead answers ev slots depth t
    deep_read d facts s =
        let k : depth < naming_depth true facts (held_by ev slots) t = subst (λ b. depth < naming_depth b facts (held_by ev slots) t) s.naming (d facts s.knows) in
        omega (arith, k, (read_at named facts s).1)

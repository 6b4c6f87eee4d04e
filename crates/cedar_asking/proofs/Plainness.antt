-- What functions give without entities is made again, and data without names calls no function for an unknown.
use Rattle.std.proofs.Common.{◌≡◌, ◌∙◌, refl, sym, Bool, true, false, ◌&&◌, ◌||◌, Option, Some, None}
use Rattle.cedar_language.specs.Uid.{Uid}
use Rattle.cedar_language.specs.Tree.{SlotId, MakeSet, MakeRecord, Call, Tree, Lit, Unknown, Apply, Trees, no_trees, a_tree}
use Rattle.cedar_language.specs.Facts as language
use Rattle.cedar_language.specs.Meaning.{slot_outcome}
use Rattle.cedar_language.specs.Restricted.{is_restricted, are_restricted}
use Rattle.cedar_partial_evaluation.specs.MadeAgain.{HoldsMade}
use Rattle.cedar_partial_evaluation.specs.Partial.{answer_of}
use Rattle.cedar_partial_evaluation.specs.ReadUnknowns.{calls_unknown, some_calls_unknown}
use Rattle.cedar_grammar.specs.UnknownCalls.{holds_call, hold_call}
use Rattle.cedar_world.specs.Setting.{Setting, functions_alone}
use Rattle.cedar_world.specs.PlainAnswers.{IsPlainAnswer}
use Rattle.cedar_extensions.specs.Table.{Table}
use Rattle.cedar_held.specs.Built.{GivesBuilt}
use Rattle.cedar_restricted_evaluation.specs.Evaluations.{HasFunctions}
use Rattle.cedar_restricted_evaluation.proofs.Made.{built_is_made}
pub use Rattle.cedar_lemmas.proofs.Booleans.{or_first as or_left, or_second as or_right, and_first as and_left, and_second as and_right}
use Rattle.std.proofs.lemmas.Bool.{or_from as neither}

-- ---- functions without entities

none_is_held : (h : language.Held) → ◌≡◌ {A = Option language.Held} None (Some h) → ⊥
none_is_held h e = cc

module _ (by : Setting) (table : Table) (gives : GivesBuilt table) (has : HasFunctions table (functions_alone by.functions)) where
  pub functions_are_made : HoldsMade (functions_alone by.functions)
  functions_are_made = record {
    attribute = λ u h a v e f. absurd (none_is_held h e);
    tag = λ u h a v e f. absurd (none_is_held h e);
    answer = λ n f vs v e made h. built_is_made (functions_alone by.functions) refl v (gives n f vs v (sym (has n) ∙ e) h);
  }

-- ---- data that calls no `unknown`

mutual
  pub calls_none : (t : Tree) → is_restricted t ≡ true → holds_call t ≡ false → calls_unknown t ≡ false
  calls_none (Lit l) r h = refl
  calls_none (Unknown n ty) r h = refl
  calls_none (Apply MakeSet ts) r h = all_call_none ts r h
  calls_none (Apply (MakeRecord ks) ts) r h = all_call_none ts r h
  calls_none (Apply (Call f) ts) r h = neither _ _ (or_left _ (hold_call ts) h) (all_call_none ts r (or_right _ (hold_call ts) h))
  calls_none t r h = cc

  pub all_call_none : (ts : Trees) → are_restricted ts ≡ true → hold_call ts ≡ false → some_calls_unknown ts ≡ false
  all_call_none no_trees r h = refl
  all_call_none (a_tree t ts) r h =
      neither (calls_unknown t) _ (calls_none t (and_left (is_restricted t) _ r) (or_left (holds_call t) _ h)) (all_call_none ts (and_right (is_restricted t) _ r) (or_right (holds_call t) _ h))

-- ---- slots

outcome_plain : (s : SlotId) (o : Option Uid) → IsPlainAnswer (answer_of (slot_outcome o))
outcome_plain s None = tt
outcome_plain s (Some u) = tt

pub slot_plain : (slots : SlotId → Option Uid) (s : SlotId) → IsPlainAnswer (answer_of (slot_outcome (slots s)))
slot_plain slots s = outcome_plain s (slots s)

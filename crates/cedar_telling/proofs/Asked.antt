-- Contexts that are evaluated: what is held of a question's context is what the context answers.
use Rattle.std.proofs.Common.{◌≡◌, ◌∙◌, ap, sym}
use Rattle.std.specs.FinMap as map
use Rattle.std.specs.Prelude.{true, false, ◌&&◌, List}
use Rattle.either.specs.declared.Either.{Either}
use Rattle.either.specs.declared.Either.TheVariants.{Left, Right}
use Rattle.cedar_language.specs.Uid.{Text}
use Rattle.cedar_language.specs.Tree.{MakeRecord, Tree, Apply, Trees}
use Rattle.cedar_language.specs.Value.{Value, Kind}
use Rattle.cedar_language.specs.Facts.{Facts}
use Rattle.cedar_language.specs.Restricted.{are_restricted}
use Rattle.cedar_partial_evaluation.specs.Partial.{Failed, partial_in}
use Rattle.cedar_partial_evaluation.specs.Question.{IsAccepted, context_held}
use Rattle.cedar_world.specs.Asking.{WithEntries}
use Rattle.cedar_grammar.specs.UnknownCalls.{all_named, hold_call}
use Rattle.cedar_extensions.specs.Table.{Table}
use Rattle.cedar_restricted_evaluation.specs.Evaluations.{HasFunctions, answer_in, part_answer, nothing_told}
use Rattle.cedar_restricted_evaluation.proofs.WrittenNames.{named_as, written_names_are_read}
use Rattle.cedar_telling.proofs.Data.{accepts, all_named_are_data}
use Rattle.cedar_lemmas.proofs.Booleans.{and_nothing as and_false}

-- ---- a context that was evaluated

not_failed : (p : Either Value Tree) (k : Kind) → part_answer p ≡ Failed k → ⊥
not_failed (Left v) k h = cc
not_failed (Right r) k h = cc

module _ (table : Table) (ks : List Text) (ts : Trees) (given : are_restricted ts ≡ true) (held : table.has_unknown ≡ false → hold_call ts ≡ false) (names_written : hold_call (all_named ts) ≡ false)
    (p : Either Value Tree) (answers : (facts : Facts) → HasFunctions table facts → answer_in table facts (Apply (MakeRecord ks) ts) ≡ part_answer p) where
  -- the context as the world has it
  abbrev written : Tree
  written = Apply (MakeRecord ks) ts

  pub context_is : (facts : Facts) → HasFunctions table facts → context_held facts map.empty (WithEntries ks (all_named ts)) ≡ part_answer p
  context_is facts has =
      ap (partial_in facts nothing_told) (sym (named_as table.has_unknown written given held))
      ∙ sym (written_names_are_read table facts written given (ap (λ b. table.has_unknown && b) names_written ∙ and_false table.has_unknown))
      ∙ answers facts has

  pub context_accepted : (facts : Facts) → HasFunctions table facts → IsAccepted facts map.empty (WithEntries ks (all_named ts))
  context_accepted facts has = accepts facts (WithEntries ks (all_named ts)) (all_named_are_data ts given) (λ k e. not_failed p k (sym (context_is facts has) ∙ e))

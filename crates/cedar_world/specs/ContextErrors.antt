-- Where contexts are refused once values are told.
use Rattle.std.specs.Prelude.{◌≡◌, true, false, List}
use Rattle.cedar_language.specs.Uid.{Text}
use Rattle.cedar_language.specs.Tree.{Trees}
use Rattle.cedar_language.specs.Value.{Kind}
use Rattle.cedar_partial_evaluation.specs.Partial.{Failed}
use Rattle.cedar_partial_evaluation.specs.Question.{context_held, IsAccepted}
use Rattle.cedar_world.specs.Asking.{WithEntries, Told}
use Rattle.cedar_grammar.specs.UnknownCalls.{hold_call}
use Rattle.cedar_world.specs.Bodies.{are_restricted}
use Rattle.cedar_world.specs.Setting.{Setting, functions_alone}
use Rattle.cedar_world.specs.Values.{context_errs}

-- of data that calls no function for an unknown
pub record ContextsErrInParts : Type 0 where
  pub fails : (by : Setting) (told : Told) (ks : List Text) (ts : Trees) → are_restricted ts ≡ true → hold_call ts ≡ false
      → (k : Kind) → context_held (functions_alone by.functions) told (WithEntries ks ts) ≡ Failed k → context_errs by (WithEntries ks ts) told ≡ true
  pub accepted : (by : Setting) (told : Told) (ks : List Text) (ts : Trees) → are_restricted ts ≡ true → hold_call ts ≡ false
      → ((k : Kind) → context_held (functions_alone by.functions) told (WithEntries ks ts) ≡ Failed k → ⊥)
      → (context_errs by (WithEntries ks ts) told ≡ false) × IsAccepted (functions_alone by.functions) told (WithEntries ks ts)

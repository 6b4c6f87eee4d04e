-- Settling is one thing, told twice: to an error, and to an error of some kind.
use Rattle.std.specs.Prelude.{◌≡◌, ◌≢◌, true}
use Rattle.cedar_language.specs.Tree.{Tree}
use Rattle.cedar_language.specs.Value.{Kind, Fails}
use Rattle.cedar_language.specs.Facts.{Facts}
use Rattle.cedar_language.specs.Meaning.{Slots, meaning}
use Rattle.cedar_language.specs.Authorization as authorization
use Rattle.cedar_partial_evaluation.specs.Settling.{Errs, settled_in}
use Rattle.cedar_partial_evaluation.specs.Prompt.{ErrsAs}
use Rattle.cedar_partial_evaluation.specs.Question.{Question, Told, context_settled, settled_of}
use Rattle.cedar_partial_evaluation.specs.Filling.{ErrsEverywhere}
use Rattle.cedar_partial_evaluation.specs.Mentions.{mentions_only, is_known}
use Rattle.cedar_partial_evaluation.specs.Leaves.{HasGiven}

pub record SettlingIsOne : Type 0 where
  -- a tree that settles to a kind of error settles to an error
  pub errs : (facts : Facts) (q : Question) (slots : Slots) (told : Told) (t : Tree) (k : Kind) →
      ErrsAs facts (settled_of facts q slots told) (ErrsEverywhere facts q slots told) t k → settled_in facts (settled_of facts q slots told) t ≡ Errs
  -- one that settles to an error settles to some kind of it, where the context itself doesn't err
  pub kind : (facts : Facts) (q : Question) (slots : Slots) (told : Told) →
      context_settled facts told q.context ≢ Errs →
      (t : Tree) → settled_in facts (settled_of facts q slots told) t ≡ Errs →
      (k : Kind) × ErrsAs facts (settled_of facts q slots told) (ErrsEverywhere facts q slots told) t k
  -- one that mentions nothing missing settles to the kind that it means, and to no other
  pub meant : (facts : Facts) (q : Question) (slots : Slots) (told : Told) (known : authorization.Known) →
      HasGiven facts q known →
      (t : Tree) → mentions_only (is_known q) true t ≡ true → (k : Kind) →
      ErrsAs facts (settled_of facts q slots told) (ErrsEverywhere facts q slots told) t k →
      meaning facts (authorization.request_at known slots) t ≡ Fails k

-- Linking is writing for early answers and for kinds of errors too.
use Rattle.std.specs.Prelude.{◌≡◌, ◌↔◌}
use Rattle.cedar_language.specs.Tree.{Tree}
use Rattle.cedar_language.specs.Value.{Kind}
use Rattle.cedar_language.specs.Facts.{Facts}
use Rattle.cedar_language.specs.Meaning.{Slots}
use Rattle.cedar_partial_evaluation.specs.Partial.{Answer, Evaluated, ResidualTree, Failed, partial_in}
use Rattle.cedar_partial_evaluation.specs.Prompt.{ErrsAs}
use Rattle.cedar_partial_evaluation.specs.Linking.{bound_tree, no_slots}
use Rattle.cedar_partial_evaluation.specs.Question.{Question, Told, settled_of, held_of}
use Rattle.cedar_partial_evaluation.specs.Filling.{ErrsEverywhere}

-- one value, one error with its kind, or something left of both: what is left may keep a slot where the other has its entity
abbrev pub StandAlike : Answer → Answer → Type 0
StandAlike (Evaluated v) p = p ≡ Evaluated v
StandAlike (ResidualTree r) p = (s : Tree) × (p ≡ ResidualTree s)
StandAlike (Failed k) p = p ≡ Failed k

pub record LinkingIsWritingEarly : Type 0 where
  pub answers : (facts : Facts) (q : Question) (slots : Slots) (told : Told) (t : Tree) →
      StandAlike (partial_in facts (held_of facts q slots told) t) (partial_in facts (held_of facts q no_slots told) (bound_tree slots t))
  pub kinds : (facts : Facts) (q : Question) (slots : Slots) (told : Told) (t : Tree) (k : Kind) →
      ErrsAs facts (settled_of facts q slots told) (ErrsEverywhere facts q slots told) t k ↔
      ErrsAs facts (settled_of facts q no_slots told) (ErrsEverywhere facts q no_slots told) (bound_tree slots t) k

-- What later values settle of a residual in which slots are no longer bound.
use Rattle.std.specs.Prelude.{◌≡◌}
use Rattle.cedar_language.specs.Tree.{Tree}
use Rattle.cedar_language.specs.Facts.{Facts}
use Rattle.cedar_partial_evaluation.specs.Settling.{LeafSettlings, Below, settled_in}
use Rattle.cedar_partial_evaluation.specs.MadeAgain.{HoldsMade}
use Rattle.cedar_partial_evaluation.specs.Partial.{ResidualTree, LeafAnswers, partial_in}
use Rattle.cedar_partial_evaluation.specs.Fair.{AreMadeLeaves, read}
use Rattle.cedar_language.specs.Meaning.{Slots}
use Rattle.cedar_partial_evaluation.specs.Prompt.{without_kind}
use Rattle.cedar_partial_evaluation.specs.Linking.{no_slots}
use Rattle.cedar_partial_evaluation.specs.Question.{Question, Told, Extends, AreMadeTold, IsAccepted, settled_of, held_of}
use Rattle.cedar_partial_evaluation.specs.Seam.{CarriesTo}
use Rattle.cedar_partial_evaluation.specs.Unbound.{unbound}

-- what was left is read without slots
abbrev pub CarriesUnbound : Facts → LeafSettlings → LeafAnswers → Type 0
CarriesUnbound facts later holds = CarriesTo facts later (unbound later) holds

-- once more values are told, what an answer left settles without slots, kinds aside, wherever its tree does with them
abbrev pub UnboundResidualsSettle : Type 0
UnboundResidualsSettle =
    (facts : Facts) → HoldsMade facts → (later : LeafSettlings) (holds : LeafAnswers) → CarriesUnbound facts later holds → AreMadeLeaves facts holds → (t : Tree) →
    Below (settled_in facts later t) (read facts (unbound later) (partial_in facts holds t))

-- where the tree settles at the later values, so does the residual's later answer without slots, kinds aside
abbrev pub UnboundAnswersArePrompt : Type 0
UnboundAnswersArePrompt =
    (facts : Facts) → HoldsMade facts → (q : Question) (slots : Slots) (told later : Told) → Extends told later → AreMadeTold facts told → AreMadeTold facts later →
    IsAccepted facts told q.context → IsAccepted facts later q.context → (t r : Tree) → partial_in facts (held_of facts q slots told) t ≡ ResidualTree r →
    Below (settled_in facts (settled_of facts q slots later) t) (without_kind (partial_in facts (held_of facts q no_slots later) r))

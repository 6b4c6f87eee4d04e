-- A residual in which a slot still stands, once slots are no longer bound.
use Rattle.std.specs.Prelude.{◌≡◌}
use Rattle.cedar_language.specs.Tree.{Tree}
use Rattle.cedar_language.specs.Facts.{Facts}
use Rattle.cedar_language.specs.Meaning.{Slots}
use Rattle.cedar_language.specs.Authorization as authorization
use Rattle.cedar_partial_evaluation.specs.Settling.{Errs, LeafSettlings, settled_in}
use Rattle.cedar_partial_evaluation.specs.MadeAgain.{HoldsMade}
use Rattle.cedar_partial_evaluation.specs.Partial.{ResidualTree, partial_in}
use Rattle.cedar_partial_evaluation.specs.Fair.{read}
use Rattle.cedar_partial_evaluation.specs.Linking.{no_slots}
use Rattle.cedar_partial_evaluation.specs.Question.{Question, Told, Extends, AreMadeTold, held_of}
use Rattle.cedar_partial_evaluation.specs.Filling.{GivesEach, IsFilling, filled}

abbrev pub unbound : LeafSettlings → LeafSettlings
unbound around = record {
  variable = around.variable;
  unknown = around.unknown;
  slot = λ s. Errs;
  in_context = around.in_context;
  has_in_context = around.has_in_context;
  variable_type = around.variable_type;
  untold = around.untold;
}

-- a residual's later answer without slots means what the tree at first meant with them
abbrev pub UnboundAnswersAreFair : Type 0
UnboundAnswersAreFair =
    (facts : Facts) → HoldsMade facts → (q : Question) (slots : Slots) (told later filling : Told) (known : authorization.Known) → Extends told later → Extends later filling →
    AreMadeTold facts told → AreMadeTold facts later → IsFilling facts q filling known → (t r : Tree) → GivesEach filling t → partial_in facts (held_of facts q slots told) t ≡ ResidualTree r →
    settled_in facts (filled facts q slots filling) t ≡ read facts (filled facts q no_slots filling) (partial_in facts (held_of facts q no_slots later) r)

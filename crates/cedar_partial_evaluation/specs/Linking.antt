-- A policy with its slots bound means what it means with the entities written in the slots' places.
use Rattle.std.specs.Prelude.{◌≡◌, None}
use Rattle.cedar_language.specs.Tree.{Tree}
pub use Rattle.cedar_language.specs.Slots.{bound_slot, bound_tree, bound_trees}
use Rattle.cedar_language.specs.Facts.{Facts}
use Rattle.cedar_language.specs.Meaning.{Slots, Request, meaning}
use Rattle.cedar_partial_evaluation.specs.Settling.{settled_in}
use Rattle.cedar_partial_evaluation.specs.Question.{Question, Told, settled_of}

abbrev pub no_slots : Slots
no_slots s = None

abbrev pub without_slots : Request → Request
without_slots request = record { variable = request.variable; unknown = request.unknown; slots = no_slots }

pub record LinkingIsWriting : Type 0 where
  pub means : (facts : Facts) (request : Request) (t : Tree) → meaning facts request t ≡ meaning facts (without_slots request) (bound_tree request.slots t)
  pub settles : (facts : Facts) (q : Question) (slots : Slots) (told : Told) (t : Tree) →
      settled_in facts (settled_of facts q slots told) t ≡ settled_in facts (settled_of facts q no_slots told) (bound_tree slots t)

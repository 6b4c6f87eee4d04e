-- How policies stand to a question, as a response has it, and what is told of them.
use Rattle.std.specs.Prelude.{◌≡◌, Bool, ◌||◌, is_some, List, ◌++◌, map, codes, Option, if◌then◌else◌}
use Rattle.std.specs.Map.{lookup}
use Rattle.cedar_language.specs.Order.{same_text}
use Rattle.cedar_language.specs.Uid.{Text}
use Rattle.cedar_evaluator.specs.Holding.{error_seen}
use Rattle.cedar_evaluator.specs.declared.partial_response.PartialResponse.{PartialResponse}
use Rattle.cedar_messages.specs.declared.places.Position.{Position}
use Rattle.cedar_messages.specs.Telling.{line_of, AreBelow, IsLine}

-- a group of policies has one of this id
abbrev pub is_in : {V : Type 0} → Text → List (Text × V) → Bool
is_in id group = is_some (lookup (same_text id) group)

module _ (response : PartialResponse) (id : Text) where
  -- it is among those of its effect that are satisfied
  abbrev pub is_satisfied : Bool
  is_satisfied = is_in id response.satisfied_permits || is_in id response.satisfied_forbids

  -- something of its condition is left
  abbrev pub is_open : Bool
  is_open = is_in id response.residual_permits || is_in id response.residual_forbids

  abbrev pub has_erred : Bool
  has_erred = is_in id (map error_seen response.errors.items)

  -- how a line ends that tells of it
  abbrev pub standing_words : Text
  standing_words =
      if is_satisfied then codes " is satisfied"
      else (if is_open then codes " is open" else (if has_erred then codes " errs" else codes " is not satisfied"))

-- A line begins with the id and ends with how the policy stands, and lines below it perhaps show more.
abbrev pub TellsStanding : Text → PartialResponse → Text → Text → Type 0
TellsStanding name response id told =
    (place : Option Position) × (what below : Text) × IsLine what × AreBelow below
    × (told ≡ line_of name place (((id ++ codes " ") ++ what) ++ standing_words response id) ++ below)

-- ---- what is kept by ids

-- what stands under ids stands under those of these, and under no others
abbrev pub AreOf : {V W : Type 0} → List (Text × V) → List (Text × W) → Type 0
AreOf kept these = (id : Text) → is_in id kept ≡ is_in id these

-- under this id something stands besides
abbrev pub AreOneMore : {V : Type 0} → List (Text × V) → List (Text × V) → Text → Type 0
AreOneMore old new own = (id : Text) → is_in id new ≡ (is_in id old || same_text id own)

-- something is kept under the ids of those that have erred
abbrev pub HaveErred : {V : Type 0} → List (Text × V) → PartialResponse → Type 0
HaveErred kept response = AreOf kept (map error_seen response.errors.items)

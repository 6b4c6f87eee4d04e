-- `in`, by a test of single uids.
use Rattle.std.specs.Prelude.{Bool, false, ◌||◌, Option, None, Some}
use Rattle.std.specs.Option.{option_map, option_map_or}
use Rattle.std.specs.FinSet as set
use Rattle.std.specs.List.{list_any}
use Rattle.cedar_language.specs.Uid.{Uid}
use Rattle.cedar_language.specs.Tree.{Entity}
use Rattle.cedar_language.specs.Value.{Value, Plain, SetOf}
use Rattle.cedar_language.specs.Order.{same_uid}
use Rattle.cedar_language.specs.Operators.{uids_in}
use Rattle.cedar_entities.specs.Data.{EntityData, ancestors_of}

-- whether both are one, or the second is an ancestor of the first one's entity
abbrev pub is_within_entity : Uid → Option EntityData → Uid → Bool
is_within_entity a e b = same_uid a b || option_map_or (λ held. set.contains (ancestors_of held) b) e false

-- whether the test holds of the entity, or of some entity of the set; other values and sets of others have no answer
abbrev pub within_of : (Uid → Bool) → Value → Option Bool
within_of test (Plain (Entity b)) = Some (test b)
within_of test (SetOf vs) = option_map (list_any test) (uids_in vs)
within_of test v = None

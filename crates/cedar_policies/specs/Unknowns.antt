-- The entities that unknowns stand for.
use Rattle.std.specs.Prelude.{◌≡◌, ◌&&◌, Bool, true, false, Option, Some, None}
use Rattle.std.specs.List.{list_any}
use Rattle.std.specs.Str.{IsUtf8}
use Rattle.cedar_language.specs.Uid.{Text, Uid}
use Rattle.cedar_language.specs.Order.{same_text, same_uid}
use Rattle.cedar_language.specs.Tree.{Tree, ValueType, EntityType}
use Rattle.cedar_names.specs.Names.{IsName, is_reserved_name}
use Rattle.cedar_names.specs.declared.errors.ParseNameError.{ParseNameError}
use Rattle.cedar_names.specs.declared.errors.ParseNameError.TheVariants.{NotNormalized, Reserved, Memory}
use Rattle.cedar_literals.specs.Escapes.{uid_text}
use Rattle.cedar_shapes.specs.Leaves.{unknowns_among}
use Rattle.cedar_shapes.specs.Positions.{positions}

-- a uid that can be written: its type is a name, without the reserved identifier, and its id is a text
abbrev pub IsWrittenUid : Uid → Type 0
IsWrittenUid u = IsName u.type_name × (is_reserved_name u.type_name ≡ false) × IsUtf8 u.id

-- a refusal for want of memory
abbrev pub is_memory : ParseNameError → Bool
is_memory NotNormalized = false
is_memory (Reserved e) = false
is_memory (Memory e) = true

abbrev pub is_of_entities : Option ValueType → Bool
is_of_entities (Some (EntityType n)) = true
is_of_entities _ = false

-- an unknown stands for an entity where its type is one of entities, and its name is the entity's uid as it is printed
abbrev pub stands_for : Text × Option ValueType → Uid → Bool
stands_for x u = is_of_entities x.1 && same_text x.0 (uid_text u)

abbrev pub stands_for_found : Option Uid → Uid → Bool
stands_for_found None u = false
stands_for_found (Some v) u = same_uid v u

-- an unknown of the tree stands for the entity
abbrev pub is_unknown_entity : Tree → Uid → Bool
is_unknown_entity t u = list_any (λ x. stands_for x u) (unknowns_among (positions t))

-- What a text of JSON says as entities. (Cedar, "Entities: JSON".)
use Rattle.std.specs.Prelude.{Bool, true, ◌&&◌, Option, Some, None, option_map, List, [], ◌∷◌, codes, if◌then◌else◌}
use Rattle.json.specs.Json.{Json, array, object, Items, no_items, item, Members, no_members, member, document}
use Rattle.json.specs.Strict.{keys}
use Rattle.cedar_language.specs.Uid.{Text, Uid}
use Rattle.cedar_grammar.specs.Names.{is_text, is_among, are_distinct}
use Rattle.cedar_world.specs.Bodies.{and_then, read_with, Fields, named_fields, EntityBody, entity_with}
use Rattle.cedar_json.specs.Values.{uid_in, datum}

-- ---- parts

-- an entity by its type and id, or that under `__entity`
abbrev pub entity_in : Json → Option Uid
entity_in (object (member k j no_members)) = if is_text k (codes "__entity") then uid_in j else None
entity_in j = uid_in j

abbrev pub each_entity : Items → Option (List Uid)
each_entity no_items = Some []
each_entity (item j js) = read_with (entity_in j) (each_entity js)

-- a list of entities
abbrev pub parents_in : Json → Option (List Uid)
parents_in (array js) = each_entity js
parents_in _ = None

-- an object of values, with its unknown names as such
abbrev pub fields_in : Json → Option Fields
fields_in j = and_then (datum j) named_fields

-- ---- objects

-- what stands under a key
abbrev pub under : Text → Members → Option Json
under key no_members = None
under key (member k j ms) = if is_text key k then Some j else under key ms

-- no key stands there but these
abbrev pub only_under : List Text → Members → Bool
only_under names no_members = true
only_under names (member k j ms) = is_among k names && only_under names ms

-- what may be left out
abbrev pub if_there : {A : Type 0} → (Json → Option A) → Option Json → Option (Option A)
if_there read None = Some None
if_there read (Some j) = option_map (λ a. Some a) (read j)

abbrev pub entity_keys : List Text
entity_keys = codes "uid" ∷ codes "parents" ∷ codes "attrs" ∷ codes "tags" ∷ []

abbrev pub body_of : Members → Option EntityBody
body_of ms = entity_with (and_then (under (codes "uid") ms) entity_in) (if_there parents_in (under (codes "parents") ms))
    (if_there fields_in (under (codes "attrs") ms)) (if_there fields_in (under (codes "tags") ms))

-- an entity: its uid, and perhaps parents, attributes and tags; no other key, and none twice
abbrev pub body_in : Json → Option EntityBody
body_in (object ms) = if only_under entity_keys ms && are_distinct (keys ms) then body_of ms else None
body_in _ = None

abbrev pub bodies_of : Items → Option (List EntityBody)
bodies_of no_items = Some []
bodies_of (item j js) = read_with (body_in j) (bodies_of js)

-- the entities that a list says
abbrev pub entities_in : Json → Option (List EntityBody)
entities_in (array js) = bodies_of js
entities_in _ = None

-- the entities that a text of JSON says
abbrev pub entities_of : Text → Option (List EntityBody)
entities_of json = and_then (document json) entities_in

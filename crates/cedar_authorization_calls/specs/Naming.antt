-- The names under which policies are told, in place of the ids under which a session holds them.
use Rattle.std.specs.Prelude.{List, [], map, string_bytes}
use Rattle.std.specs.BTreeMap.{get}
use Rattle.std.specs.List.{flat_map}
use Rattle.std.specs.Option.{option_map_or}
use Rattle.cedar_language.specs.Order.{text_cmp}
use Rattle.cedar_language.specs.Uid.{Text}
use Rattle.cedar_authorization_calls.specs.declared.names.Names.{Names}

-- the names of an id; none where it has none
abbrev pub names_at : Names → Text → List Text
names_at names id = option_map_or (λ ns. map string_bytes ns.items) (get text_cmp names.by_id id) []

-- the names of ids, in their order
abbrev pub named : Names → List Text → List Text
named names ids = flat_map (names_at names) ids

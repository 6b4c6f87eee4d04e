-- Calls of extension functions in entities. (Cedar language reference, "Extension functions".)
use Rattle.std.specs.Prelude.{ℕ, List, [], ◌++◌}
use Rattle.std.specs.List.{flat_map}
use Rattle.std.specs.FinMap as finite
use Rattle.either.specs.declared.Either.TheVariants.{Left, Right}
use Rattle.cedar_language.specs.Uid.{Text, Name}
use Rattle.cedar_extensions.specs.Calls.{calls_in}
use Rattle.cedar_entities.specs.Attributes.{Attribute}
use Rattle.cedar_entities.specs.Data.{EntityData}

-- the calls of what stands at a name
abbrev pub calls_at : Attribute → List (Name × ℕ)
calls_at (Left v) = []
calls_at (Right t) = calls_in t

abbrev pub calls_among : List (Text × Attribute) → List (Name × ℕ)
calls_among es = flat_map (λ e. calls_at e.1) es

-- those of its attributes in the order of names, and then those of its tags
abbrev pub entity_calls : EntityData → List (Name × ℕ)
entity_calls e = calls_among (finite.entries e.attributes) ++ calls_among (finite.entries e.tags)

abbrev pub entities_calls : List EntityData → List (Name × ℕ)
entities_calls es = flat_map entity_calls es

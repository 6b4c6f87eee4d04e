-- The least field above two.
use Rattle.std.specs.Prelude.{Option, Some, None, cond, ◌&&◌}
use Rattle.cedar_language.specs.Uid.{Text}
use Rattle.cedar_language.specs.Order.{same_text}
use Rattle.cedar_typing.specs.Types.{Presence, CedarType, Field, lub, same_presence}

-- a field of a type that may be missing
abbrev pub of_least : Text → Presence → Option CedarType → Option (Text × Field)
of_least k p (Some t) = Some (k, record { presence = p; type = t })
of_least k p None = None

-- the least field above two of one name, each record or neither having it
abbrev pub least_field : Text × Field → Text × Field → Option (Text × Field)
least_field e f = cond (same_text e.0 f.0 && same_presence e.1.presence f.1.presence) (of_least e.0 e.1.presence (lub e.1.type f.1.type)) None

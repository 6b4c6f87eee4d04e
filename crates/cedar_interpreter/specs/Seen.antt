-- What a store holds of the entities that a request gives: looked up once, and kept beside what is asked.
use Rattle.std.specs.Prelude.{◌≡◌, Option, Some, None, refl}
use Rattle.std.specs.Coded.{Coded, Coded-set, coded_bool, coded_option, coded×, code_by, ×_prop, Π_prop}
use Rattle.std.specs.Option.{option_map, option_copied}
use Rattle.either.specs.declared.Either.{Either}
use Rattle.either.specs.declared.Either.TheVariants.{Left, Right}
use Rattle.cedar_language.specs.Uid.{Uid}
use Rattle.cedar_language.specs.Tree.{Tree}
use Rattle.cedar_language.specs.Value.{Value}
use Rattle.cedar_language.specs.Facts.{Facts}
use Rattle.cedar_language.specs.Operators.{is_within}
use Rattle.cedar_entities.specs.Attributes.{AttributeMap, attributes_code}
use Rattle.cedar_entities.specs.Data.{EntityData, UidSet, uids_code}
use Rattle.cedar_entities.specs.Held.{Held, held_of}
use Rattle.cedar_entities.specs.Store.{held_at}
use Rattle.cedar_entities.specs.declared.store.Entities.{Entities}
use Rattle.cedar_operators.specs.Hierarchy.{is_within_entity}
use Rattle.cedar_operators.specs.Store.{HasFacts}
use Rattle.cedar_restricted.specs.PartialValues.{partial_of}
use Rattle.cedar_values.specs.Readers.{uid_in}
use Rattle.cedar_interpreter.specs.declared.evaluator.EntityVariable.{EntityVariable}
use Rattle.cedar_interpreter.specs.declared.evaluator.Variables.{Variables}

-- what the store holds of the uid, by which the facts say what it is within
abbrev pub IsSeen : Entities → Uid → Option EntityData → Type 0
IsSeen store uid seen =
    (held_at store uid ≡ option_map held_of seen)
    × ((facts : Facts) → HasFacts store facts → (b : Uid) → is_within_entity uid seen b ≡ is_within facts uid b)

-- the entity that stands there
abbrev pub uid_standing : Either Value Tree → Option Uid
uid_standing (Left v) = uid_in v
uid_standing (Right t) = None

-- the same of the entity that stands for a variable; where none does, nothing is said
abbrev pub IsSeenFor : Entities → EntityVariable → Type 0
IsSeenFor store v = (uid : Uid) → uid_standing (partial_of v.part) ≡ Some uid → IsSeen store uid (option_copied v.entity)

-- of each that stands for a variable
abbrev pub AreSeen : Entities → Variables → Type 0
AreSeen store vs = IsSeenFor store vs.principal × (IsSeenFor store vs.action × IsSeenFor store vs.resource)

-- ---- each has one proof

abbrev held_code : Coded Held
held_code = code_by (AttributeMap × (AttributeMap × UidSet)) (coded× attributes_code (coded× attributes_code uids_code))
    (λ h. (h.attributes, (h.tags, h.parents))) (λ p. record { attributes = p.0; tags = p.1.0; parents = p.1.1 }) (λ _. refl)

seen_prop : (store : Entities) (uid : Uid) (seen : Option EntityData) → IsProp (IsSeen store uid seen)
seen_prop store uid seen = ×_prop (Coded-set (coded_option held_code) _ _) (Π_prop (λ facts. Π_prop (λ has. Π_prop (λ b. Coded-set coded_bool _ _))))

seen_for_prop : (store : Entities) (v : EntityVariable) → IsProp (IsSeenFor store v)
seen_for_prop store v = Π_prop (λ uid. Π_prop (λ is. seen_prop store uid (option_copied v.entity)))

pub are_seen_prop : (store : Entities) (vs : Variables) → IsProp (AreSeen store vs)
are_seen_prop store vs = ×_prop (seen_for_prop store vs.principal) (×_prop (seen_for_prop store vs.action) (seen_for_prop store vs.resource))

-- Stores that show entities of the world.
use Rattle.std.specs.Prelude.{◌≡◌, false, Option, refl}
use Rattle.std.specs.FinMap as finite
use Rattle.std.specs.Coded.{Coded, Coded-set, coded_option, coded×, code_by, Π_prop}
use Rattle.std.proofs.Common.{sym, ◌∙◌}
use mathlib.Core.HLevel.{is_prop→PathP}
use Rattle.cedar_language.specs.Uid.{Uid}
use Rattle.cedar_language.specs.OrderLaws.{text_code, uid_code, value_code}
use Rattle.cedar_literals.specs.Laws.{uid_cmp_total}
use Rattle.cedar_literals.proofs.Sameness.{uid_cmp_same}
use Rattle.cedar_world.specs.Orders.{TextMap, UidSet}
use Rattle.cedar_world.specs.World as world
use Rattle.cedar_language.specs.Value.{Value}
use Rattle.cedar_entities.specs.Attributes.{AttributeMap, attributes_code}
use Rattle.cedar_entities.specs.Data.{uids_code}
use Rattle.cedar_entities.specs.Held.{Held}
use Rattle.cedar_entities.specs.Store.{held_at, is_partial_store, IsClosed}
use Rattle.cedar_entities.specs.declared.store.Entities.{Entities}
use Rattle.cedar_held.specs.Shown.{Shows}
use Rattle.cedar_held.specs.ShownApart.{shown_inj}
use Rattle.cedar_held.specs.Built.{HoldBuilt}

-- its ancestors are whole, and what it doesn't hold isn't there
pub record IsWhole (s : Entities) : Type 0 where
  pub closed : IsClosed s
  pub concrete : is_partial_store s ≡ false

-- what it shows is built
abbrev pub ShowsBuilt : Entities → Type 0
ShowsBuilt s = (entities : world.Entities) → Shows (held_at s) entities → HoldBuilt entities

-- a whole store that shows entities whose attributes and tags are built
pub record IsBuiltStore (s : Entities) : Type 0 where
  pub whole : IsWhole s
  pub built : ShowsBuilt s

-- the store shows these entities of the world
pub record IsShown (s : Entities) : Type 0 where
  pub entities : world.Entities
  pub shows : Shows (held_at s) entities

-- ---- no store shows two

abbrev pub held_code : Coded Held
held_code = code_by (AttributeMap × (AttributeMap × UidSet)) (coded× attributes_code (coded× attributes_code uids_code))
    (λ h. (h.attributes, (h.tags, h.parents))) (λ p. record { attributes = p.0; tags = p.1.0; parents = p.1.1 }) (λ _. refl)

pub shown_is_one : (held : Uid → Option Held) (v w : world.Entities) → Shows held v → Shows held w → v ≡ w
shown_is_one held v w a b = finite.same_map uid_cmp_total uid_cmp_same v w (λ q. shown_inj (finite.get v q) (finite.get w q) (sym (a q) ∙ b q))

shows_prop : (held : Uid → Option Held) (w : world.Entities) → IsProp (Shows held w)
shows_prop held w = Π_prop (λ uid. Coded-set (coded_option held_code) _ _)

pub shown_prop : (s : Entities) → IsProp (IsShown s)
shown_prop s x y =
    let same = shown_is_one (held_at s) x.entities y.entities x.shows y.shows in
    λ i. record {
      entities = same i;
      shows = is_prop→PathP (λ j. Shows (held_at s) (same j)) (λ j. shows_prop (held_at s) (same j)) x.shows y.shows i;
    }

-- ---- the world's entities, told apart

abbrev pub data_code : Coded world.EntityData
data_code = code_by (TextMap Value × (TextMap Value × UidSet)) (coded× (finite.code text_code value_code) (coded× (finite.code text_code value_code) uids_code))
    (λ h. (h.attributes, (h.tags, h.parents))) (λ p. record { attributes = p.0; tags = p.1.0; parents = p.1.1 }) (λ _. refl)

abbrev pub entities_code : Coded world.Entities
entities_code = finite.code uid_code data_code

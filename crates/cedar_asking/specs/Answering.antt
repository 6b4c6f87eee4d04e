-- The policies and entities of a world.
use Rattle.std.specs.Prelude.{◌≡◌, ℕ, false}
use Rattle.cedar_world.specs.Setting.{Setting}
use Rattle.cedar_world.specs.World.{World}
use Rattle.cedar_held.specs.Shown.{Shows}
use Rattle.cedar_entities.specs.Store.{held_at, is_partial_store, IsClosed}
use Rattle.cedar_entities.specs.declared.store.Entities.{Entities}
use Rattle.cedar_extensions.specs.Table.{Table}
use Rattle.cedar_policy_set.specs.Entries.{Entries}
use Rattle.cedar_policy_set.specs.Texts.{AreToldBySlots, NameNoUnknown}
use Rattle.cedar_held.specs.PolicyWorlds.{policies_in}
use Rattle.cedar_asking.specs.Answers.{IsSettingOf}
use Rattle.cedar_held.specs.Built.{HoldBuilt}

-- the policies and the entities are those of the world, and the setting has these functions and this limit
pub record AreOf (by : Setting) (world : World) (es : Entries) (s : Entities) (table : Table) (depth : ℕ) : Type 0 where
  pub setting : IsSettingOf table depth by
  pub slots : AreToldBySlots es
  pub names : NameNoUnknown es
  pub policies : world.policies ≡ policies_in es
  pub shows : Shows (held_at s) world.entities
  pub closed : IsClosed s
  pub whole : is_partial_store s ≡ false
  pub built : HoldBuilt world.entities

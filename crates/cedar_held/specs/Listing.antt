-- The entities of bodies, as a store holds them.
use Rattle.std.specs.Prelude.{◌≡◌, ◌<◌, ⊤, ℕ, true, false, Option, Some, None, Result, Ok, Err, List, map}
use Rattle.std.specs.Global.{Vec}
use Rattle.cedar_language.specs.Height.{height}
use Rattle.cedar_language.specs.Tree.{Tree}
use Rattle.cedar_grammar.specs.UnknownCalls.{holds_call}
use Rattle.cedar_world.specs.Bodies.{EntityBody, entity_bodies}
use Rattle.cedar_world.specs.EntityEdits.{Version}
use Rattle.cedar_world.specs.Setting.{Setting}
use Rattle.cedar_world.specs.Values.{some_entry, holds_unknown, errs_alone, versions}
use Rattle.cedar_extensions.specs.Table.{Table}
use Rattle.cedar_replies.specs.declared.refusal.Refusal.{Refusal}
use Rattle.cedar_replies.specs.declared.refusal.Refusal.TheVariants.{Depth, Shape, Evaluation, NotAValue, Memory}
use Rattle.cedar_entities.specs.Data.{EntityData}
use Rattle.cedar_held.specs.Shown.{as_entities}
use Rattle.cedar_held.specs.Built.{AreBuiltVersions}
use Rattle.cedar_held.specs.Entities.{named_body}
use Rattle.cedar_held.specs.Fields.{Serves, deeper}

module _ (by : Setting) (bs : List EntityBody) where
  -- each attribute and tag has its value: these are the versions
  pub record AreVersions (es : List EntityData) : Type 0 where
    pub given : List Version
    pub are : versions by bs ≡ Some given
    pub shown : es ≡ as_entities given
    pub fine : some_entry (errs_alone by) bs ≡ false
    pub known : some_entry holds_unknown bs ≡ false

  -- none errs, and some holds an unknown
  pub record AreOpen : Type 0 where
    pub fine : some_entry (errs_alone by) bs ≡ false
    pub unknown : some_entry holds_unknown bs ≡ true

abbrev pub all_named : List EntityBody → List EntityBody
all_named bs = map named_body bs

-- the entities are some versions whose attributes and tags are built
abbrev pub ShowVersions : List EntityData → Type 0
ShowVersions es = (vs : List Version) × (es ≡ as_entities vs) × AreBuiltVersions vs

-- the entities are versions, those of the bodies
pub record AreFound (table : Table) (bs : List EntityBody) (es : List EntityData) : Type 0 where
  pub show_versions : ShowVersions es
  pub are_versions : (by : Setting) → Serves table by (some_entry holds_call bs) → AreVersions by (all_named bs) es

-- of bodies as they are written
abbrev pub AreMade : Table → ℕ → List EntityBody → Result (Option (Vec EntityData)) Refusal → Type 0
AreMade table depth bs (Ok (Some es)) = AreFound table bs es.items
AreMade table depth bs (Ok None) = (by : Setting) → Serves table by (some_entry holds_call bs) → AreOpen by (all_named bs)
AreMade table depth bs (Err Evaluation) = (by : Setting) → Serves table by (some_entry holds_call bs) → some_entry (errs_alone by) (all_named bs) ≡ true
AreMade table depth bs (Err Depth) = some_entry (deeper depth) bs ≡ true
AreMade table depth bs (Err Memory) = ⊤
AreMade table depth bs (Err r) = ⊥

-- the body lists entities of which this holds
abbrev pub Lists : Tree → (List EntityBody → Type 0) → Type 0
Lists tree Holds = (bs : List EntityBody) × (entity_bodies tree ≡ Some bs) × Holds bs

-- the body's entities, or why there are none; want of memory says nothing
abbrev pub AreListed : Setting → ℕ → Tree → Result (Vec EntityData) Refusal → Type 0
AreListed by depth tree (Ok es) = Lists tree (λ bs. AreVersions by bs es.items)
AreListed by depth tree (Err Shape) = entity_bodies tree ≡ None
AreListed by depth tree (Err Evaluation) = Lists tree (λ bs. some_entry (errs_alone by) bs ≡ true)
AreListed by depth tree (Err NotAValue) = Lists tree (λ bs. AreOpen by bs)
AreListed by depth tree (Err Depth) = depth < height tree
AreListed by depth tree (Err Memory) = ⊤
AreListed by depth tree (Err r) = ⊥

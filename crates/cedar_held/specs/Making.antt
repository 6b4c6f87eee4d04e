-- The entity of one body, as it is written.
use Rattle.std.specs.Prelude.{◌≡◌, ⊤, ℕ, Bool, true, false, ◌||◌, Option, Some, None, Result, Ok, Err, List}
use Rattle.std.specs.FinSet as set
use Rattle.cedar_language.specs.Uid.{Uid}
use Rattle.cedar_language.specs.Tree.{Tree}
use Rattle.cedar_grammar.specs.UnknownCalls.{holds_call}
use Rattle.cedar_world.specs.Bodies.{EntityBody}
use Rattle.cedar_world.specs.EntityEdits.{Version}
use Rattle.cedar_world.specs.Setting.{Setting}
use Rattle.cedar_world.specs.Values.{some_field, holds_unknown, errs_alone, values, version_with}
use Rattle.cedar_extensions.specs.Table.{Table}
use Rattle.cedar_replies.specs.declared.refusal.Refusal.{Refusal}
use Rattle.cedar_replies.specs.declared.refusal.Refusal.TheVariants.{Depth, Evaluation, Memory}
use Rattle.cedar_entities.specs.Data.{EntityData, UidSet}
use Rattle.cedar_held.specs.Shown.{as_entity}
use Rattle.cedar_held.specs.Built.{IsBuiltVersion}
use Rattle.cedar_held.specs.Entities.{named_body}
use Rattle.cedar_held.specs.Fields.{Serves, deeper}

abbrev pub set_listed : List Uid → UidSet
set_listed uids = set.from_list uids

-- whether a test holds of some attribute or tag
abbrev pub some_in : (Tree → Bool) → EntityBody → Bool
some_in test b = some_field test b.attributes || some_field test b.tags

module _ (by : Setting) (b : EntityBody) where
  pub record IsVersion (e : EntityData) : Type 0 where
    pub given : Version
    pub is : version_with by b (values by b.attributes) (values by b.tags) ≡ Some given
    pub shown : e ≡ as_entity given
    pub fine : some_in (errs_alone by) b ≡ false
    pub known : some_in holds_unknown b ≡ false

  pub record IsOpen : Type 0 where
    pub fine : some_in (errs_alone by) b ≡ false
    pub unknown : some_in holds_unknown b ≡ true

-- the entity is some version whose attributes and tags are built
abbrev pub ShowsVersion : EntityData → Type 0
ShowsVersion e = (v : Version) × (e ≡ as_entity v) × IsBuiltVersion v

-- the entity is a version, that of the body
pub record IsFound (table : Table) (b : EntityBody) (e : EntityData) : Type 0 where
  pub shows_version : ShowsVersion e
  pub is_version : (by : Setting) → Serves table by (some_in holds_call b) → IsVersion by (named_body b) e

abbrev pub IsMade : Table → ℕ → EntityBody → Result (Option EntityData) Refusal → Type 0
IsMade table depth b (Ok (Some e)) = IsFound table b e
IsMade table depth b (Ok None) = (by : Setting) → Serves table by (some_in holds_call b) → IsOpen by (named_body b)
IsMade table depth b (Err Evaluation) = (by : Setting) → Serves table by (some_in holds_call b) → some_in (errs_alone by) (named_body b) ≡ true
IsMade table depth b (Err Depth) = some_in (deeper depth) b ≡ true
IsMade table depth b (Err Memory) = ⊤
IsMade table depth b (Err r) = ⊥

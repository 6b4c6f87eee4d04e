-- What a body's edit of the entities leaves, or why it is refused; a refused edit changes nothing.
use Rattle.std.specs.Prelude.{◌≡◌, ◌<◌, ℕ, true, false, Some, None, Result, Ok, Err, List}
use Rattle.std.specs.FinSet as set
use Rattle.cedar_language.specs.Height.{height}
use Rattle.cedar_language.specs.Tree.{Tree}
use Rattle.cedar_language.specs.Uid.{Uid}
use Rattle.cedar_world.specs.Bodies.{EntityBody, entity_bodies, uids_of}
use Rattle.cedar_world.specs.EntityEdits.{Version, CanAdd, put, add, Puts, Adds, Removes}
use Rattle.cedar_world.specs.Setting.{Setting}
use Rattle.cedar_world.specs.Values.{some_entry, holds_unknown, errs_alone, versions}
use Rattle.cedar_world.specs.World as world
use Rattle.cedar_world.specs.World.{IsCyclic}
use Rattle.cedar_replies.specs.declared.refusal.Refusal.{Refusal}
use Rattle.cedar_replies.specs.declared.refusal.Refusal.TheVariants.{Shape, Evaluation, NotAValue, Duplicate, Cycle, Depth, Memory}
use Rattle.cedar_held.specs.Listing.{AreOpen, Lists}
use Rattle.cedar_held.specs.Stores.{SomeMisfit}

-- no attribute or tag errs, and none holds an unknown
pub record AreFine (by : Setting) (bs : List EntityBody) : Type 0 where
  pub fine : some_entry (errs_alone by) bs ≡ false
  pub known : some_entry holds_unknown bs ≡ false

-- the body lists entities, and of their versions this holds
abbrev pub ListsVersions : Setting → Tree → (List Version → Type 0) → Type 0
ListsVersions by tree Holds = Lists tree (λ bs. AreFine by bs × ((vs : List Version) × (versions by bs ≡ Some vs) × Holds vs))

abbrev pub PutsBody : Setting → ℕ → Tree → world.Entities → Result (Unit {0}) Refusal → world.Entities → Type 0
PutsBody by depth tree old (Ok done) new = ListsVersions by tree (λ vs. Puts old vs new)
PutsBody by depth tree old (Err Shape) new = (entity_bodies tree ≡ None) × (new ≡ old)
PutsBody by depth tree old (Err Evaluation) new = Lists tree (λ bs. some_entry (errs_alone by) bs ≡ true) × (new ≡ old)
PutsBody by depth tree old (Err NotAValue) new = Lists tree (λ bs. AreOpen by bs) × (new ≡ old)
PutsBody by depth tree old (Err Cycle) new = ListsVersions by tree (λ vs. IsCyclic (put old vs)) × (new ≡ old)
PutsBody by depth tree old (Err Depth) new = (depth < height tree) × (new ≡ old)
PutsBody by depth tree old (Err Memory) new = new ≡ old
PutsBody by depth tree old (Err r) new = ⊥

abbrev pub AddsBody : Setting → ℕ → Tree → world.Entities → Result (Unit {0}) Refusal → world.Entities → Type 0
AddsBody by depth tree old (Ok done) new = ListsVersions by tree (λ vs. Adds old vs new)
AddsBody by depth tree old (Err Shape) new = (entity_bodies tree ≡ None) × (new ≡ old)
AddsBody by depth tree old (Err Evaluation) new = Lists tree (λ bs. some_entry (errs_alone by) bs ≡ true) × (new ≡ old)
AddsBody by depth tree old (Err NotAValue) new = Lists tree (λ bs. AreOpen by bs) × (new ≡ old)
AddsBody by depth tree old (Err Duplicate) new = ListsVersions by tree (λ vs. SomeMisfit old vs) × (new ≡ old)
AddsBody by depth tree old (Err Cycle) new = ListsVersions by tree (λ vs. CanAdd old vs × IsCyclic (add old vs)) × (new ≡ old)
AddsBody by depth tree old (Err Depth) new = (depth < height tree) × (new ≡ old)
AddsBody by depth tree old (Err Memory) new = new ≡ old
AddsBody by depth tree old (Err r) new = ⊥

abbrev pub RemovesBody : Tree → world.Entities → Result (Unit {0}) Refusal → world.Entities → Type 0
RemovesBody tree old (Ok done) new = (uids : List Uid) × (uids_of tree ≡ Some uids) × Removes old (set.from_list uids) new
RemovesBody tree old (Err Shape) new = (uids_of tree ≡ None) × (new ≡ old)
RemovesBody tree old (Err Memory) new = new ≡ old
RemovesBody tree old (Err r) new = ⊥

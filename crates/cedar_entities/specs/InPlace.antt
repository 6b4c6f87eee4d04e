-- What an edit of a store in place answers. A refused one is taken back.
use Rattle.std.specs.Prelude.{◌≡◌, Result, Ok, Err}
use Rattle.cedar_language.specs.Uid.{Uid}
use Rattle.cedar_entities.specs.Store.{held_at, IsClosed}
use Rattle.cedar_entities.specs.declared.store.Entities.{Entities}

-- what the edit of a store answers, with the store that it leaves
abbrev pub left_by : {E : Type 0} → Result (Unit {0}) E → Entities → Result Entities E
left_by (Ok done) s = Ok s
left_by (Err e) s = Err e

-- the same is held, and a closed store is still closed
pub record IsLeft (s t : Entities) : Type 0 where
  pub held : (uid : Uid) → held_at t uid ≡ held_at s uid
  pub closed : IsClosed s → IsClosed t

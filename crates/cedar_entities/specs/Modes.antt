-- What becomes of the ancestors that are kept, as the caller has it.
use Rattle.std.specs.Prelude.{◌≡◌, ⊤}
use Rattle.cedar_language.specs.Uid.{Uid}
use Rattle.cedar_closure.specs.Paths.{IsTransitive}
use Rattle.cedar_closure.specs.declared.errors.TcError.{TcError}
use Rattle.cedar_entities.specs.Held.{IsAncestor}
use Rattle.cedar_entities.specs.Kept.{Lookup, held_in, IsKept, KeepsAncestors}
use Rattle.cedar_entities.specs.Refusals.{IsCycle, IsViolation}
use Rattle.cedar_entities.specs.declared.closing.TCComputation.{TCComputation}
use Rattle.cedar_entities.specs.declared.closing.TCComputation.TheVariants.{ComputeNow, EnforceAlreadyComputed, AssumeAlreadyComputed}
use Rattle.cedar_entities.specs.declared.errors.EntitiesError.{EntitiesError}
use Rattle.cedar_entities.specs.declared.errors.EntitiesError.TheVariants.{Duplicate, TransitiveClosureError, Memory}

-- the same is held, and nothing else is kept than what its parents reach
pub record IsComputed (old new : Lookup) : Type 0 where
  pub held : (uid : Uid) → held_in new uid ≡ held_in old uid
  pub keeps : KeepsAncestors new

-- all stays, and what is kept is its own closure
pub record IsEnforced (old new : Lookup) : Type 0 where
  pub stays : (uid : Uid) → new uid ≡ old uid
  pub transitive : IsTransitive (IsKept old)
  pub acyclic : (a : Uid) → ¬ (IsKept old a a)

abbrev pub IsClosedAs : TCComputation → Lookup → Lookup → Type 0
IsClosedAs ComputeNow old new = IsComputed old new
IsClosedAs EnforceAlreadyComputed old new = IsEnforced old new
IsClosedAs AssumeAlreadyComputed old new = (uid : Uid) → new uid ≡ old uid

-- why these are refused: a cycle of the parents; what is missing in, or is a loop of, what is kept; or never
abbrev pub IsRefusedAs : TCComputation → Lookup → TcError Uid → Type 0
IsRefusedAs ComputeNow old e = IsCycle (IsAncestor (held_in old)) e
IsRefusedAs EnforceAlreadyComputed old e = IsViolation (IsKept old) e
IsRefusedAs AssumeAlreadyComputed old e = ⊥

abbrev pub IsClosureRefusal : TCComputation → Lookup → EntitiesError → Type 0
IsClosureRefusal mode old (Duplicate e) = ⊥
IsClosureRefusal mode old (TransitiveClosureError e) = IsRefusedAs mode old e
IsClosureRefusal mode old (Memory e) = ⊤

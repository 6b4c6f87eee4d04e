-- Keys, and errors that are told where a key stands again.
use Rattle.std.specs.Prelude.{◌≡◌, Bool, List, [], ◌∷◌, ◌++◌, map}
use Rattle.std.specs.declared.cmp.Ordering.{Ordering}
use Rattle.std.specs.BTreeMap.{is_at}
use Rattle.cedar_schema_grammar.specs.Faults.{SchemaFault}
use Rattle.cedar_schema_faults.specs.Views.{fault_view}
use Rattle.cedar_schema_faults.specs.declared.kinds.SchemaError.{SchemaError}

-- the second stands where the first does
abbrev pub shares_key : {K : Type 0} → (K → K → Ordering) → K × SchemaError → K × SchemaError → Bool
shares_key cmp p q = is_at (cmp q.0) p.0

-- a key with the fault that is told of it
abbrev pub with_fault : {K : Type 0} → (K → SchemaFault) → K → K × SchemaFault
with_fault fault k = (k, fault k)

abbrev pub keyed_view : {K : Type 0} → K × SchemaError → K × SchemaFault
keyed_view p = (p.0, fault_view p.1)

-- each key has the error that is told of it
abbrev pub HaveKeys : {K : Type 0} → (K → SchemaFault) → List K → List (K × SchemaError) → Type 0
HaveKeys fault ks ps = map keyed_view ps ≡ map (with_fault fault) ks

-- one key more has
abbrev pub AddsKey : {K : Type 0} → (K → SchemaFault) → K → List (K × SchemaError) → List (K × SchemaError) → Type 0
AddsKey fault k old new = map keyed_view new ≡ map keyed_view old ++ with_fault fault k ∷ []

-- Which faults are told.
use Rattle.std.specs.Prelude.{◌≡◌, ◌⊎◌, ◌++◌, Bool, true, false, cond, IsTrue, List, [], ◌∷◌, ⊤}
use Rattle.std.specs.Global.{Vec}
use Rattle.cedar_schema_grammar.specs.Declared.{Library, Declared}
use Rattle.cedar_schema_grammar.specs.Faults.{SchemaFault, TypeNotDefined, ActionNotDefined, CycleInCommonTypeReferences, CycleInActionHierarchy, DuplicateEntityType, DuplicateCommonType, DuplicateAction, DuplicateAttribute, TypeShadowing, ActionShadowing, ContextOrShapeNotRecord, ActionEntityTypeDeclared, ReservedName, ReservedNamespace, EmptyEnum, EmptyAppliesTo, NoPrincipal, NoResource, DuplicatePrincipal, DuplicateResource, DuplicateContext}
use Rattle.cedar_schema_grammar.specs.Reaching.{IsAmong}
use Rattle.cedar_schema_faults.specs.Views.{faults_view}
use Rattle.cedar_schema_faults.specs.Names.{HasNames, HasNoCycle}
use Rattle.cedar_schema_faults.specs.declared.kinds.SchemaError.{SchemaError}
use Rattle.cedar_schema_faults.specs.declared.names.SchemaNames.{SchemaNames}

-- faults that are cycles, or that can't be told while common types have no types
abbrev pub is_of_cycles : SchemaFault → Bool
is_of_cycles (TypeNotDefined n) = false
is_of_cycles (ActionNotDefined r) = false
is_of_cycles (CycleInCommonTypeReferences n) = true
is_of_cycles (CycleInActionHierarchy u) = true
is_of_cycles (DuplicateEntityType n) = false
is_of_cycles (DuplicateCommonType n) = false
is_of_cycles (DuplicateAction u) = false
is_of_cycles (DuplicateAttribute s) = false
is_of_cycles (TypeShadowing n) = false
is_of_cycles (ActionShadowing u) = false
is_of_cycles (ContextOrShapeNotRecord u) = true
is_of_cycles (ActionEntityTypeDeclared n) = false
is_of_cycles (ReservedName n) = false
is_of_cycles (ReservedNamespace n) = false
is_of_cycles (EmptyEnum n) = false
is_of_cycles (EmptyAppliesTo u) = false
is_of_cycles (NoPrincipal u) = false
is_of_cycles (NoResource u) = false
is_of_cycles (DuplicatePrincipal u) = false
is_of_cycles (DuplicateResource u) = false
is_of_cycles (DuplicateContext u) = false

-- those that are told are these, in their order; some of cycles may be left out
abbrev pub AreMost : List SchemaFault → List SchemaFault → Type 0
AreMost told [] = told ≡ []
AreMost told (f ∷ all) = (IsTrue (is_of_cycles f) × AreMost told all) ⊎ ((more : List SchemaFault) × (told ≡ f ∷ more) × AreMost more all)

-- most of these are told behind others, and all of them where all is known
pub record AreTold (known : Type 0) (old new all : List SchemaFault) : Type 0 where
  pub told : List SchemaFault
  pub behind : new ≡ old ++ told
  pub most : AreMost told all
  pub whole : known → told ≡ all

-- nothing is in a cycle, and common types are resolved
abbrev pub IsKnown : Declared → Library → SchemaNames → Type 0
IsKnown d l names = HasNoCycle d l × (names.is_resolved ≡ true)

-- whatever is declared under these names
abbrev pub Tells : SchemaNames → Vec SchemaError → Vec SchemaError → (Declared → Library → List SchemaFault) → Type 0
Tells names old new faults = (d : Declared) (l : Library) → HasNames d l names → AreTold (IsKnown d l names) (faults_view old) (faults_view new) (faults d l)

abbrev pub AreAmong : List SchemaFault → List SchemaFault → Type 0
AreAmong [] all = ⊤
AreAmong (f ∷ fs) all = IsAmong f all × AreAmong fs all

-- those that aren't of cycles
abbrev pub others : List SchemaFault → List SchemaFault
others [] = []
others (f ∷ fs) = cond (is_of_cycles f) (others fs) (f ∷ others fs)

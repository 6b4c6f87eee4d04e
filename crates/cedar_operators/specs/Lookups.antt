-- What is looked up by the name of an attribute.
use Rattle.std.specs.Prelude.{Option, Some, None, List}
use Rattle.cedar_language.specs.Uid.{Text}
use Rattle.cedar_language.specs.Value.{Value, RecordOf, Values, EntityDoesNotExist, EntityAttrDoesNotExist, RecordAttrDoesNotExist, Outcome, Gives, Fails}
use Rattle.cedar_operators.specs.declared.lookups.Lookup.{Lookup}
use Rattle.cedar_operators.specs.declared.lookups.Lookup.TheVariants as looked

-- the keys of a record beside its values
abbrev pub Record : Type 0
Record = List Text × Values

abbrev pub record_in : Value → Option Record
record_in (RecordOf ks vs) = Some (ks, vs)
record_in v = None

-- `Is` holds of what reading gives there; a residual is no outcome
abbrev pub Shows : (Outcome → Type 0) → Lookup → Type 0
Shows Is (looked.Value v) = Is (Gives v.now)
Shows Is (looked.Residual e) = ⊥
Shows Is (looked.NoEntity u) = Is (Fails EntityDoesNotExist)
Shows Is (looked.NoAttribute u) = Is (Fails EntityAttrDoesNotExist)
Shows Is looked.NoKey = Is (Fails RecordAttrDoesNotExist)

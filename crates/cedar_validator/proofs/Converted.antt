-- The types of a schema, by their views; how large they are.
use Rattle.std.proofs.Common.{◌≡◌, ℕ, suc, ◌+◌, ◌≤◌, Bool, true, false, ◌||◌, List, [], ◌∷◌, ◌++◌, map, refl, sym, ap, ◌∙◌, arith, rules, subst, Global}
use Rattle.std.specs.Prelude.{Result, Ok, Err}
use Rattle.std.specs.Result.{IsErr, IsErrAnd}
use Rattle.std.specs.declared.rc.Rc.{Rc}
use Rattle.std.specs.BTreeMap.{BTreeMap}
use Rattle.std.specs.Global.{Vec}
use Rattle.cedar_language.specs.Uid.{Text, Name}
use Rattle.cedar_typing.specs.Types as typing
use Rattle.cedar_typing.specs.Types.{CedarType, Booleans, Longs, Strings, Entities, Sets, Records, Extensions, Fields, no_fields, a_field}
use Rattle.cedar_schema.specs.Types as schema
use Rattle.cedar_schema.specs.Types.{listed, named_views}
use Rattle.cedar_schema.specs.declared.types.SchemaType.{SchemaType, the_lemmas}
use Rattle.cedar_schema.specs.declared.types.SchemaType.TheVariants as schema_types
use Rattle.cedar_schema.specs.declared.types.AttributeType.{AttributeType}
use Rattle.cedar_typechecker.specs.Types as checker
use Rattle.cedar_typechecker.specs.declared.types.ExprType.{ExprType}
use Rattle.cedar_typechecker.specs.declared.types.ExprType.{the_lemmas as expr_lemmas}
use Rattle.cedar_typechecker.specs.declared.types.ExprType.TheVariants as expr_types
use Rattle.cedar_typechecker.specs.declared.types.Field.{Field}
use Rattle.cedar_typing.proofs.Sameness.{name_same}
use Rattle.cedar_language.specs.Order.{same_name}
use Rattle.cedar_validator.specs.Names.{is_writable, IsWritten}
use Rattle.cedar_validator.specs.Converting.{names, some_names, TellsName, Converts}
use Rattle.cedar_validator.specs.declared.errors.SchemaNameError.{SchemaNameError}
use Rattle.cedar_validator.specs.declared.errors.SchemaNameError.TheVariants as error

-- how many types stand in a type
abbrev mutual
  pub size : CedarType → ℕ
  size (Booleans b) = 1
  size Longs = 1
  size Strings = 1
  size (Entities n) = 1
  size (Sets t) = size t + 1
  size (Records fs) = sizes fs + 1
  size (Extensions n o) = 1

  pub sizes : Fields → ℕ
  sizes no_fields = 0
  sizes (a_field k p t fs) = size t + sizes fs

pub record_view : (m : Rc (BTreeMap Text AttributeType) Global) → schema.type_view (schema_types.Record m) ≡ Records (listed (named_views m.value.entries))
record_view m = search (rules, the_lemmas)

pub set_view : (t : Rc SchemaType Global) → schema.type_view (schema_types.Set t) ≡ Sets (schema.type_view t.value)
set_view t = search (rules, the_lemmas)

pub expr_record_view : (r : Rc (Vec Field) Global) → checker.type_view (expr_types.Record r) ≡ Records (checker.fields_view r.value.items)
expr_record_view r = search (rules, expr_lemmas)

pub expr_set_view : (r : Rc ExprType Global) → checker.type_view (expr_types.Set r) ≡ Sets (checker.type_view r.value)
expr_set_view r = search (rules, expr_lemmas)

pub entity_view : (n : Name) → schema.type_view (schema_types.Entity n) ≡ Entities n
entity_view n = search (rules, the_lemmas)

pub extension_view : (n : Name) (o : Bool) → schema.type_view (schema_types.Extension n o) ≡ Extensions n o
extension_view n o = search (rules, the_lemmas)

-- ---- what is told

-- a name that isn't written is told
pub name_told : (n : Name) (e : SchemaNameError) → IsWritten n (Err e) → TellsName (same_name n) e
name_told n (error.UnwritableName m) h =
    (ap (same_name n) h.0 ∙ name_same n, subst (λ (k : Name). is_writable k ≡ false) (sym h.0) h.1)
name_told n error.Memory h = tt

-- what is told of a part is told of the type
pub told_by : (t u : CedarType) (e : SchemaNameError) → u ≡ t → TellsName (names u) e → (r : Result ExprType SchemaNameError)
    → IsErr r × IsErrAnd r (λ x. x ≡ e) → Converts t r
told_by t u e same told (Ok x) err = absurd err.1
told_by t u e same told (Err x) err = subst (λ (z : SchemaNameError). TellsName (names t) z) (sym err.1) (subst (λ (v : CedarType). TellsName (names v) e) same told)

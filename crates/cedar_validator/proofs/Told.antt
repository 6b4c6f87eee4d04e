-- What is told of a part of a schema is told of the schema.
use Rattle.std.proofs.Common.{◌≡◌, ℕ, ◌<◌, Bool, true, false, ◌||◌, List, [], ◌∷◌, length, get_or, Option, Some, None, refl, sym, ap, ◌∙◌, subst}
use Rattle.std.specs.Prelude.{is_some, Result, Ok, Err, MatchResult}
use Rattle.std.specs.Result.{IsErr, IsErrAnd}
use Rattle.std.specs.List.{list_any}
use Rattle.std.proofs.lemmas.List.Folds.{list_any_at}
use Rattle.cedar_language.specs.Uid.{Name, Uid}
use Rattle.cedar_language.specs.Order.{same_name}
use Rattle.cedar_typing.specs.Schema as typing
use Rattle.cedar_typing.proofs.Sameness.{name_is}
use Rattle.cedar_validator_schema.specs.Applying.{Application}
use Rattle.cedar_validator_schema.specs.Actions.{application_at}
use Rattle.cedar_validator_schema.specs.Views.{shape_in}
use Rattle.cedar_validator_schema.specs.declared.schema.ValidatorSchema.{ValidatorSchema}
use Rattle.cedar_validator.specs.Names.{is_writable, IsWritten}
use Rattle.cedar_validator.specs.Converting.{TellsName}
use Rattle.cedar_validator.specs.SchemaTypes.{shape_names, application_names, is_among, is_declared, in_shape, of_action, by_action, TellsNamed}
use Rattle.cedar_validator.specs.declared.errors.SchemaNameError.{SchemaNameError}
use Rattle.cedar_validator.specs.declared.errors.SchemaNameError.TheVariants as error
use Rattle.cedar_validator.proofs.Converted.{name_told}

pub or_first : (a b : Bool) → a ≡ true → (a || b) ≡ true
or_first a b h = ap (λ x. x || b) h

pub or_second : (a b : Bool) → b ≡ true → (a || b) ≡ true
or_second true b h = refl
or_second false b h = h

-- more may be named
pub told_wider : (p q : Name → Bool) (e : SchemaNameError) → ((n : Name) → p n ≡ true → q n ≡ true) → TellsName p e → TellsName q e
told_wider p q (error.UnwritableName n) wider h = (wider n h.0, h.1)
told_wider p q error.Memory wider h = tt

-- a name among others that isn't written
pub told_among : (ns : List Name) (i : ℕ) (n : Name) (e : SchemaNameError) → i < length ns → n ≡ get_or ns i n → IsWritten n (Err e) → TellsName (is_among ns) e
told_among ns i n e lt is h =
    told_wider (same_name n) (is_among ns) e
    (λ m same. list_any_at (λ k. same_name k m) ns i n lt (ap (λ k. same_name k m) (sym is) ∙ same)) (name_told n e h)

pub told_shape : (v : ValidatorSchema) (k : Name) (s : typing.EntityShape) (e : SchemaNameError) → shape_in v k ≡ Some s
    → TellsName (λ n. same_name k n || shape_names s n) e → TellsNamed v e
told_shape v k s (error.UnwritableName n) is h = by (same_name k n) refl h.0
  where
    by : (b : Bool) → same_name k n ≡ b → (b || shape_names s n) ≡ true → TellsNamed v (error.UnwritableName n)
    by true g named = (is_declared (ap (λ m. is_some (shape_in v m)) (sym (name_is k n g)) ∙ ap is_some is), h.1)
    by false g named = (in_shape k s is named, h.1)
told_shape v k s error.Memory is h = tt

pub told_action : (v : ValidatorSchema) (u : Uid) (a : Application) (e : SchemaNameError) → application_at v.actions u ≡ Some a
    → TellsName (λ n. same_name u.type_name n || application_names a n) e → TellsNamed v e
told_action v u a (error.UnwritableName n) is h = by (same_name u.type_name n) refl h.0
  where
    by : (b : Bool) → same_name u.type_name n ≡ b → (b || application_names a n) ≡ true → TellsNamed v (error.UnwritableName n)
    by true g named = (of_action u a is g, h.1)
    by false g named = (by_action u a is named, h.1)
told_action v u a error.Memory is h = tt

-- an error that is handed on
pub handed : {X : Type 0} (P : X → Type 0) (Q : SchemaNameError → Type 0) (r : Result X SchemaNameError) (e : SchemaNameError)
    → IsErr r × IsErrAnd r (λ x. x ≡ e) → Q e → MatchResult r P Q
handed P Q (Ok x) e err h = absurd err.1
handed P Q (Err x) e err h = subst Q (sym err.1) h

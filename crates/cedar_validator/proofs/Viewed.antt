-- A schema is the same in both forms.
use Rattle.std.proofs.Common.{◌≡◌, Bool, Option, Some, None, refl, sym, ap, ◌∙◌}
use mathlib.Core.Path.{fun_ext}
use Rattle.std.specs.Prelude.{is_some, Result, Ok, Err, IfOk}
use Rattle.std.specs.Option.{option_map_or}
use Rattle.cedar_language.specs.Uid.{Name, Uid}
use Rattle.cedar_typing.specs.Types.{Fields, no_fields}
use Rattle.cedar_typing.specs.Schema as typing
use Rattle.cedar_validator_schema.specs.Applying.{Application, applies_in}
use Rattle.cedar_validator_schema.specs.Actions.{application_at}
use Rattle.cedar_validator_schema.specs.Views.{shape_in, context_in, schema_view}
use Rattle.cedar_validator_schema.specs.declared.schema.ValidatorSchema.{ValidatorSchema}

-- the schema with these entity types and actions
abbrev pub with_parts : typing.Schema → (Name → Option typing.EntityShape) → (Uid → Option Application) → Fields → typing.Schema
with_parts s entity action none = record {
  entity = entity;
  may_name = s.may_name;
  may_reach = s.may_reach;
  is_action = λ u. is_some (action u);
  action_reaches = s.action_reaches;
  applies = λ u. applies_in (action u);
  context = λ u. option_map_or (λ a. a.context) (action u) none;
  signature = s.signature;
}

pub same_parts : (signature : Name → Option typing.Signature) (v : ValidatorSchema) (entity : Name → Option typing.EntityShape)
    (action : Uid → Option Application) (none : Fields) → ((n : Name) → entity n ≡ shape_in v n) → ((u : Uid) → action u ≡ application_at v.actions u)
    → none ≡ no_fields → with_parts (schema_view signature v) entity action none ≡ schema_view signature v
same_parts signature v entity action none shapes actions empty =
    let s = schema_view signature v in
    ap (λ e. with_parts s e action none) (fun_ext shapes) ∙ ap (λ a. with_parts s (shape_in v) a none) (fun_ext actions)
    ∙ ap (λ f. with_parts s (shape_in v) (application_at v.actions) f) empty

-- what holds whatever the functions are holds of these
pub for_functions : {E : Type 0} (r : Result Bool E) (X : (Name → Option typing.Signature) → Bool) (s : Name → Option typing.Signature)
    → IfOk r (λ b. (z : Name → Option typing.Signature) → b ≡ X z) → IfOk r (λ b. b ≡ X s)
for_functions (Ok b) X s h = h s
for_functions (Err e) X s h = tt

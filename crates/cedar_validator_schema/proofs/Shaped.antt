-- Names of entity types that are known are among the keys.
use Rattle.std.proofs.Common.{◌≡◌, Bool, true, false, cond, ◌&&◌, ◌||◌, List, [], ◌∷◌, ◌++◌, Option, Some, None, refl, sym, ap, ◌∙◌, append_assoc, append-nil}
use Rattle.std.specs.Prelude.{is_some, option_map, option_and_then}
use Rattle.std.specs.List.{filter, list_any}
use Rattle.std.specs.BTreeMap.{get, keys, is_at}
use Rattle.std.specs.BTreeSet.{contains}
use Rattle.std.proofs.lemmas.List.Folds.{list_any-append}
use Rattle.std.proofs.lemmas.Map.Made.{is_some-lookup}
use Rattle.std.proofs.lemmas.Map.Views.{any-filter_same}
use mathlib.Core.Path.{fun_ext}
use Rattle.cedar_language.specs.Uid.{Name}
use Rattle.cedar_language.specs.Order.{same_name, name_cmp}
use Rattle.cedar_typing.specs.Schema as typing
use Rattle.cedar_typing.proofs.Sameness.{name_is}
use Rattle.cedar_schema_grammar.specs.Declared.{or_else}
use Rattle.cedar_schema_resolution.specs.Shapes.{shape_view}
use Rattle.cedar_validator_schema.specs.Views.{shape_in}
use Rattle.cedar_validator_schema.specs.declared.entity_types.ValidatorEntityType.{ValidatorEntityType}
use Rattle.cedar_validator_schema.specs.declared.schema.ValidatorSchema.{ValidatorSchema}
use Rattle.cedar_validator_schema.proofs.Naming.{at_is_name}

module _ (v : ValidatorSchema) where
  abbrev pub is_shaped : Name → Bool
  is_shaped n = is_some (shape_in v n)

  -- the names of entity types that are known, by the keys
  abbrev pub shaped_names : List Name
  shaped_names = filter is_shaped (keys v.entity_types.by_name) ++ filter is_shaped v.action_types.keys

  -- one more is listed
  pub one_listed : (listed more : List Name) (k : Name) (ks all : List Name) → more ≡ listed ++ cond (is_shaped k) (k ∷ []) []
      → listed ++ filter is_shaped (k ∷ ks) ≡ all → more ++ filter is_shaped ks ≡ all
  one_listed listed more k ks all e h = ap (λ l. l ++ filter is_shaped ks) e ∙ by (is_shaped k) ∙ h
    where
      by : (b : Bool) → (listed ++ cond b (k ∷ []) []) ++ filter is_shaped ks ≡ listed ++ cond b (k ∷ filter is_shaped ks) (filter is_shaped ks)
      by true = append_assoc listed (k ∷ []) (filter is_shaped ks)
      by false = ap (λ l. l ++ filter is_shaped ks) (append-nil listed)

  known_by : (a b : Bool) (o : Option ValidatorEntityType) (shape : typing.EntityShape) → is_some o ≡ a
      → ((is_some (or_else (option_and_then (λ e. option_map shape_view e.shape) o) (cond b (Some shape) None)) && a)
      || (is_some (or_else (option_and_then (λ e. option_map shape_view e.shape) o) (cond b (Some shape) None)) && b))
      ≡ is_some (or_else (option_and_then (λ e. option_map shape_view e.shape) o) (cond b (Some shape) None))
  known_by true b (Some e) shape h = first (is_some (or_else (option_map shape_view e.shape) (cond b (Some shape) None))) b
    where
      first : (p c : Bool) → ((p && true) || (p && c)) ≡ p
      first true c = refl
      first false c = refl
  known_by true b None shape h = cc
  known_by false b (Some e) shape h = cc
  known_by false true None shape h = refl
  known_by false false None shape h = refl

  among : (n : Name) → is_some (get name_cmp v.entity_types.by_name n) ≡ list_any (same_name n) (keys v.entity_types.by_name)
  among n =
      is_some-lookup (is_at (name_cmp n)) v.entity_types.by_name.entries
      ∙ ap (λ test. list_any test (keys v.entity_types.by_name)) (fun_ext (λ m. at_is_name n m))

  of_actions : (n : Name) → contains name_cmp v.action_types n ≡ list_any (same_name n) v.action_types.keys
  of_actions n = ap (λ test. list_any test v.action_types.keys) (fun_ext (λ m. at_is_name n m))

  -- what is listed are the names of those that are known
  pub names_are : (n : Name) → list_any (same_name n) shaped_names ≡ is_shaped n
  names_are n =
      let alike = λ (m : Name) (e : same_name n m ≡ true). ap is_shaped (sym (name_is n m e)) in
      list_any-append (same_name n) (filter is_shaped (keys v.entity_types.by_name)) (filter is_shaped v.action_types.keys)
      ∙ ap (λ b. b || list_any (same_name n) (filter is_shaped v.action_types.keys))
      (any-filter_same (same_name n) is_shaped (is_shaped n) alike (keys v.entity_types.by_name))
      ∙ ap (λ b. (is_shaped n && list_any (same_name n) (keys v.entity_types.by_name)) || b)
      (any-filter_same (same_name n) is_shaped (is_shaped n) alike v.action_types.keys)
      ∙ ap (λ b. (is_shaped n && list_any (same_name n) (keys v.entity_types.by_name)) || (is_shaped n && b)) (sym (of_actions n))
      ∙ known_by (list_any (same_name n) (keys v.entity_types.by_name)) (contains name_cmp v.action_types n)
      (get name_cmp v.entity_types.by_name n) (shape_view v.action_shape) (among n)

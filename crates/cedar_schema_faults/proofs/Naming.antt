-- What is found by names is what they stand for.
use Rattle.std.proofs.Common.{◌≡◌, ◌⊎◌, inl, inr, Bool, true, false, ◌||◌, List, [], ◌∷◌, Option, Some, None, refl, sym, ap, ◌∙◌}
use Rattle.std.specs.Prelude.{is_some, is_none, option_map}
use Rattle.cedar_language.specs.Uid.{Name, Uid}
use Rattle.cedar_typing.specs.Types.{CedarType, Entities}
use Rattle.cedar_schema_grammar.specs.Syntax.{ActionRef}
use Rattle.cedar_schema_grammar.specs.Declared.{Library, EntityType, CommonType, Declared, Referent, to_common, to_type, or_else, first_of, places, entity_name, action_uid, entity_at, type_at, action_at, entity_named, action_named, type_of_ref, built_in_path, declared_as, referent}
use Rattle.cedar_schema.specs.Tables.{entry_at, built_in_at, type_for}
use Rattle.cedar_schema.proofs.Tabled.{mapped_first}
use Rattle.cedar_schema_resolution.specs.Parents.{name_at, first_named}
use Rattle.cedar_schema_faults.specs.Actions.{number_at, number_from, number_by_path, number_for}
use Rattle.cedar_schema_faults.specs.Names.{HasNames}
use Rattle.cedar_schema_faults.specs.declared.names.SchemaNames.{SchemaNames}
use Rattle.cedar_schema_faults.proofs.Numbering.{MayBeNumbered, numbered}

pub none_isnt : {A : Type 0} (o : Option A) → is_some o ≡ true → is_none o ≡ false
none_isnt (Some x) e = refl
none_isnt None e = absurd (cc e)

pub none_is : {A : Type 0} (o : Option A) → is_some o ≡ false → is_none o ≡ true
none_is (Some x) e = absurd (cc e)
none_is None e = refl

mapped_some : {A B : Type 0} (f : A → B) (o : Option A) → is_some (option_map f o) ≡ is_some o
mapped_some f (Some x) = refl
mapped_some f None = refl

some_first : {K A B : Type 0} (f : K → Option A) (g : K → Option B) → ((k : K) → is_some (f k) ≡ is_some (g k)) → (ks : List K)
    → is_some (first_of f ks) ≡ is_some (first_of g ks)
some_first f g e [] = refl
some_first f g e (k ∷ ks) = by (f k) (g k) (e k) (first_of f ks) (first_of g ks) (some_first f g e ks)
  where
    by : {A B : Type 0} (o : Option A) (p : Option B) → is_some o ≡ is_some p → (q : Option A) (r : Option B) → is_some q ≡ is_some r
        → is_some (or_else o q) ≡ is_some (or_else p r)
    by (Some x) (Some y) h q r i = refl
    by None None h q r i = i
    by (Some x) None h q r i = absurd (cc h)
    by None (Some y) h q r i = absurd (cc h)

stands_for_some : {A : Type 0} (g : Referent → A) (o : Option Referent) (b : Option CedarType)
    → (is_some (option_map g o) || is_some b) ≡ is_some (or_else o (option_map to_type b))
stands_for_some g (Some r) b = refl
stands_for_some g None (Some t) = refl
stands_for_some g None None = refl

declared_some : (t : Option CommonType) (e : Option EntityType)
    → is_some (or_else (option_map to_common t) (option_map (λ x. to_type (Entities (entity_name x))) e)) ≡ (is_some e || is_some t)
declared_some (Some t) (Some e) = refl
declared_some (Some t) None = refl
declared_some None (Some e) = refl
declared_some None None = refl

module _ (d : Declared) (l : Library) (names : SchemaNames) (has : HasNames d l names) where
  pub named_type : (namespace n : Name)
      → (is_some (first_of (entry_at names.table) (places namespace n)) || is_some (built_in_at names.table n)) ≡ is_some (referent d l namespace n)
  named_type namespace n =
      ap (λ o. is_some o || is_some (built_in_at names.table n))
      (mapped_first (declared_as d) (type_for has.common) (entry_at names.table) has.table.declared (places namespace n))
      ∙ ap (λ o. is_some (option_map (type_for has.common) (first_of (declared_as d) (places namespace n))) || is_some o) (has.table.built_in n)
      ∙ stands_for_some (type_for has.common) (first_of (declared_as d) (places namespace n)) (built_in_path l n)

  pub declared_type : (n : Name) → is_some (entry_at names.table n) ≡ (is_some (entity_at d n) || is_some (type_at d n))
  declared_type n = ap is_some (has.table.declared n) ∙ mapped_some (type_for has.common) (declared_as d n) ∙ declared_some (type_at d n) (entity_at d n)

  pub named_entity : (namespace n : Name) → is_some (first_named names.entities namespace n) ≡ is_some (entity_named d namespace n)
  named_entity namespace n =
      some_first (name_at names.entities) (λ m. option_map entity_name (entity_at d m)) (λ m. ap is_some (has.entities m)) (places namespace n)

  pub declared_action : (u : Uid) → is_some (number_at names.actions u) ≡ is_some (action_at d u)
  declared_action u = ap is_some (has.actions u) ∙ by (numbered 0 d.actions u)
    where
      by : MayBeNumbered 0 d.actions u → is_some (number_from 0 d.actions u) ≡ is_some (action_at d u)
      by (inl r) = ap is_some r.1 ∙ sym (ap is_some r.0)
      by (inr r) = ap is_some r.2.number ∙ sym (ap is_some r.2.found)

  pub named_action : (namespace : Name) (r : ActionRef) → is_some (number_for names.actions namespace r) ≡ is_some (action_named d namespace r)
  named_action namespace r = some_first (number_by_path names.actions r.name) (λ m. option_map action_uid (action_at d (record { type_name = m; id = r.name })))
      (λ m. declared_action (record { type_name = m; id = r.name }) ∙ sym (mapped_some action_uid (action_at d (record { type_name = m; id = r.name }))))
      (places namespace (type_of_ref r))

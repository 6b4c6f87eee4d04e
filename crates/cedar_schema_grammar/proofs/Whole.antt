-- In a schema without faults nothing that is written is left out.
use Rattle.std.proofs.Common.{◌≡◌, inl, inr, suc, true, false, List, [], ◌∷◌, ◌++◌, length, Option, Some, refl, sym, ap, ◌∙◌, subst, arith}
use Rattle.std.specs.Prelude.{map, is_some, option_map, unwrap_or}
use Rattle.cedar_language.specs.Uid.{Name, Uid}
use Rattle.cedar_language.specs.Facts.{Reaches}
use Rattle.cedar_language.specs.Order.{same_name, same_uid}
use Rattle.cedar_grammar.specs.Steps.{◌>>=◌}
use Rattle.cedar_typing.specs.Types.{CedarType, Booleans, Longs, Strings, Entities, Sets, Records, Extensions, Fields}
use Rattle.cedar_typing.specs.Schema.{Schema}
use Rattle.cedar_schema_grammar.specs.Syntax.{TypeSyntax, a_record, EntitySyntax, AppliesEntry, SchemaSyntax}
use Rattle.cedar_schema_grammar.specs.Declared.{Library, shaped, EntityType, CommonType, Action, Declared, type_name, entity_name, action_uid, declared, entity_at, type_at, action_at, or_else}
use Rattle.cedar_schema_grammar.specs.Reaching.{IsAmong, Edge}
use Rattle.cedar_schema_grammar.specs.Written.{unfolded, type_in, written_fields, refers, type_reaches}
use Rattle.cedar_schema_grammar.specs.Faults.{SchemaFault, CycleInCommonTypeReferences, NoPrincipal, NoResource, DuplicatePrincipal, DuplicateResource, DuplicateContext, where_true, faults_of_all, namespace_faults, shadowing, type_faults, maybe_type_faults, entity_name_faults, body_faults, entity_faults, common_type_faults, principals_of, resources_of, contexts_of, count_faults, names_faults, is_no_record, context_faults, entries_faults, applies_faults, group_faults, action_shadowing, action_faults, duplicates, declared_faults, faults_in}
use Rattle.cedar_schema_grammar.specs.Resolving.{fields_of, body_shape, shape_of, is_type_of_action, action_shape, namespace_of, entries_of, context_fields, context_by, schema_of, Resolves, without_faults, resolved}
use Rattle.cedar_schema_grammar.specs.Laws.{CommonTypesUnfold, IsWhole, NothingIsLeftOut, ContextsAreWhole}
use Rattle.cedar_schema_grammar.proofs.Reaching.{begins_among, references_lead_from, cycles_are_found}
use Rattle.cedar_schema_grammar.proofs.Unfolding.{first_empty, second_empty, not_told, some_is, found_passes, map_is, stands_under_its_name, written_some, unfolds, deeper_is_the_same}

resolved_is : (fs : List SchemaFault) (r s : Schema) → without_faults fs r ≡ Resolves s → (fs ≡ []) × (r ≡ s)
resolved_is [] r s e = (refl, cc e)
resolved_is (f ∷ fs) r s e = absurd (cc e)

-- each is without faults where all are
each_clean : {A : Type 0} (f : A → List SchemaFault) (xs : List A) (x : A) → IsAmong x xs → faults_of_all f xs ≡ [] → f x ≡ []
each_clean f [] x m e = absurd m
each_clean f (y ∷ ys) x (inl g) e = ap f g ∙ first_empty (f y) (faults_of_all f ys) e
each_clean f (y ∷ ys) x (inr m) e = each_clean f ys x m (second_empty (f y) (faults_of_all f ys) e)

pub of_map : {A K : Type 0} (key : A → K) (xs : List A) (k : K) → IsAmong k (map key xs) → (x : A) × IsAmong x xs × (k ≡ key x)
of_map key [] k m = absurd m
of_map key (x ∷ xs) k (inl e) = (x, inl refl, e)
of_map key (x ∷ xs) k (inr m) = let r = of_map key xs k m in (r.0, inr r.1, r.2)

map_length : {A K : Type 0} (key : A → K) (xs : List A) → length (map key xs) ≡ length xs
map_length key [] = refl
map_length key (x ∷ xs) = ap suc (map_length key xs)

record_is : (x : CedarType) → is_no_record (Some x) ≡ false → (fs : Fields) × (x ≡ Records fs)
record_is (Records fs) e = (fs, refl)
record_is (Booleans b) e = absurd (cc e)
record_is Longs e = absurd (cc e)
record_is Strings e = absurd (cc e)
record_is (Entities n) e = absurd (cc e)
record_is (Sets t) e = absurd (cc e)
record_is (Extensions n o) e = absurd (cc e)

module _ (l : Library) (d : Declared) (clean : declared_faults l d ≡ []) where
  abbrev entities_clean : List SchemaFault
  entities_clean = faults_of_all (entity_faults d l) d.entities

  abbrev types_clean : List SchemaFault
  types_clean = faults_of_all (common_type_faults d l) d.types

  abbrev actions_clean : List SchemaFault
  actions_clean = faults_of_all (action_faults d l) d.actions

  after_duplicates : entities_clean ++ (types_clean ++ actions_clean) ≡ []
  after_duplicates = second_empty (duplicates d) (entities_clean ++ (types_clean ++ actions_clean)) clean

  entity_clean : (e : EntityType) → IsAmong e d.entities → entity_faults d l e ≡ []
  entity_clean e m = each_clean (entity_faults d l) d.entities e m (first_empty entities_clean (types_clean ++ actions_clean) after_duplicates)

  type_clean : (t : CommonType) → IsAmong t d.types → common_type_faults d l t ≡ []
  type_clean t m = each_clean (common_type_faults d l) d.types t m (first_empty types_clean actions_clean (second_empty entities_clean (types_clean ++ actions_clean) after_duplicates))

  action_clean : (a : Action) → IsAmong a d.actions → action_faults d l a ≡ []
  action_clean a m = each_clean (action_faults d l) d.actions a m (second_empty types_clean actions_clean (second_empty entities_clean (types_clean ++ actions_clean) after_duplicates))

  -- ---- common types

  abbrev cycle : CommonType → List SchemaFault
  cycle t = where_true (type_reaches d l (type_name t) (type_name t)) (CycleInCommonTypeReferences (type_name t))

  behind_the_name : (t : CommonType) → IsAmong t d.types → cycle t ++ (shadowing d t.namespace t.own ++ type_faults d l t.namespace t.type) ≡ []
  behind_the_name t m = second_empty _ (cycle t ++ (shadowing d t.namespace t.own ++ type_faults d l t.namespace t.type)) (type_clean t m)

  no_cycle : (t : CommonType) → IsAmong t d.types → type_reaches d l (type_name t) (type_name t) ≡ false
  no_cycle t m = not_told (type_reaches d l (type_name t) (type_name t)) _ (first_empty (cycle t) (shadowing d t.namespace t.own ++ type_faults d l t.namespace t.type) (behind_the_name t m))

  acyclic : (n : Name) → Reaches (Edge (refers d l)) n n → ⊥
  acyclic n r =
      let t = of_map type_name d.types n (begins_among (refers d l) (map type_name d.types) (references_lead_from d l) n n r) in
      let there : type_reaches d l n n ≡ true = (cycles_are_found l d n n).1 r in
      let here : type_reaches d l n n ≡ false = subst (λ k. type_reaches d l k k ≡ false) (sym t.2) (no_cycle t.0 t.1) in
      absurd (cc (sym there ∙ here))

  written_clean : (t : CommonType) → type_at d (type_name t) ≡ Some t → type_faults d l t.namespace t.type ≡ []
  written_clean t e =
      let m = (found_passes (λ u. same_name (type_name u) (type_name t)) d.types t e).1 in
      second_empty (shadowing d t.namespace t.own) (type_faults d l t.namespace t.type) (second_empty (cycle t) (shadowing d t.namespace t.own ++ type_faults d l t.namespace t.type) (behind_the_name t m))

  each_unfolds : (t : CommonType) → type_at d (type_name t) ≡ Some t → is_some (unfolded (length d.types) d l t) ≡ true
  each_unfolds t e = let same = map_length type_name d.types in unfolds d l acyclic written_clean (length d.types) t e [] tt tt tt (omega arith)

  each_is_whole : (namespace : Name) (t : TypeSyntax) → type_faults d l namespace t ≡ [] → IsWhole d l namespace t
  each_is_whole namespace t e = written_some d l (unfolded (length d.types) d l) namespace t e (λ u s m. each_unfolds u s)

  common_type_unfolds : (n : Name) (t : CommonType) → type_at d n ≡ Some t → (x : CedarType) × (unfolded (length d.types) d l t ≡ Some x) × (type_in d l t.namespace t.type ≡ Some x)
  common_type_unfolds n t e =
      let x = some_is (unfolded (length d.types) d l t) (each_unfolds t (stands_under_its_name d l n t e)) in
      (x.0, x.1, deeper_is_the_same d l (length d.types) t x.0 x.1)

  -- ---- entity types

  abbrev body_clean : EntityType → EntitySyntax → List SchemaFault
  body_clean e w = type_faults d l e.namespace (a_record w.attributes) ++ maybe_type_faults d l e.namespace w.tags

  shape_clean : (n : Name) (e : EntityType) (w : EntitySyntax) → entity_at d n ≡ Some e → e.body ≡ shaped w → body_clean e w ≡ []
  shape_clean n e w f g =
      let all = entity_clean e (found_passes (λ x. same_name (entity_name x) n) d.entities e f).1 in
      let body : body_faults d l e e.body ≡ [] = second_empty (shadowing d e.namespace e.own) (body_faults d l e e.body) (second_empty _ (shadowing d e.namespace e.own ++ body_faults d l e e.body) (second_empty _ (_ ++ (shadowing d e.namespace e.own ++ body_faults d l e e.body)) all)) in
      second_empty (faults_of_all (entity_name_faults d e.namespace) w.parents) (body_clean e w) (subst (λ b. body_faults d l e b ≡ []) g body)

  fields_whole : (namespace : Name) (w : EntitySyntax) → type_faults d l namespace (a_record w.attributes) ≡ [] → (fs : Fields) × (type_in d l namespace (a_record w.attributes) ≡ Some (Records fs))
  fields_whole namespace w e =
      let x = some_is (type_in d l namespace (a_record w.attributes)) (each_is_whole namespace (a_record w.attributes) e) in
      let m = map_is Records (written_fields (unfolded (length d.types) d l) d l namespace w.attributes) x.0 x.1 in
      (m.0, x.1 ∙ ap Some (sym m.2))

  tags_whole : (namespace : Name) (o : Option TypeSyntax) → maybe_type_faults d l namespace o ≡ [] → (t : TypeSyntax) → o ≡ Some t → IsWhole d l namespace t
  tags_whole namespace o e t g = each_is_whole namespace t (subst (λ p. maybe_type_faults d l namespace p ≡ []) g e)

  shape_is : (n : Name) (e : EntityType) (w : EntitySyntax) (fs : Fields) → entity_at d n ≡ Some e → e.body ≡ shaped w → type_in d l e.namespace (a_record w.attributes) ≡ Some (Records fs) →
      (schema_of l d).entity n ≡ Some (record { attributes = fs; tags = w.tags >>= type_in d l e.namespace })
  shape_is n e w fs f g h =
      ap (λ o. or_else (shape_of d l o) (action_shape (is_type_of_action d n))) f
      ∙ ap (λ b. or_else (body_shape d l e.namespace b) (action_shape (is_type_of_action d n))) g
      ∙ ap (λ x. or_else (option_map (λ gs. record { attributes = gs; tags = w.tags >>= type_in d l e.namespace }) (fields_of x)) (action_shape (is_type_of_action d n))) h

  -- ---- contexts

  abbrev contexts_clean : Action → List AppliesEntry → List SchemaFault
  contexts_clean a es = faults_of_all (context_faults d l a.namespace (action_uid a)) (contexts_of es)

  entries_clean : (a : Action) (es : List AppliesEntry) → entries_faults d l a.namespace (action_uid a) es ≡ [] → contexts_clean a es ≡ []
  entries_clean a es e =
      let names = faults_of_all (names_faults d a.namespace (action_uid a)) (principals_of es ++ resources_of es) in
      let many = count_faults [] (DuplicateContext (action_uid a)) (contexts_of es) in
      let no_resource = count_faults (NoResource (action_uid a) ∷ []) (DuplicateResource (action_uid a)) (resources_of es) in
      let no_principal = count_faults (NoPrincipal (action_uid a) ∷ []) (DuplicatePrincipal (action_uid a)) (principals_of es) in
      second_empty names (contexts_clean a es)
      (second_empty many (names ++ contexts_clean a es)
      (second_empty no_resource (many ++ (names ++ contexts_clean a es)) (second_empty no_principal (no_resource ++ (many ++ (names ++ contexts_clean a es))) e)))

  applies_clean : (a : Action) → IsAmong a d.actions → applies_faults d l a.namespace (action_uid a) a.written.applies_to ≡ []
  applies_clean a m =
      second_empty (faults_of_all (group_faults d a.namespace) a.written.groups) (applies_faults d l a.namespace (action_uid a) a.written.applies_to)
      (second_empty (action_shadowing d a) (_ ++ applies_faults d l a.namespace (action_uid a) a.written.applies_to) (second_empty _ (action_shadowing d a ++ (_ ++ applies_faults d l a.namespace (action_uid a) a.written.applies_to)) (action_clean a m)))

  context_clean : (u : Uid) (a : Action) (es : List AppliesEntry) (t : TypeSyntax) → action_at d u ≡ Some a → a.written.applies_to ≡ Some es → contexts_of es ≡ t ∷ [] → context_faults d l a.namespace (action_uid a) t ≡ []
  context_clean u a es t f g h =
      let m = (found_passes (λ x. same_uid (action_uid x) u) d.actions a f).1 in
      let entries : entries_faults d l a.namespace (action_uid a) es ≡ [] = subst (λ o. applies_faults d l a.namespace (action_uid a) o ≡ []) g (applies_clean a m) in
      let contexts = subst (λ ts. faults_of_all (context_faults d l a.namespace (action_uid a)) ts ≡ []) h (entries_clean a es entries) in
      first_empty (context_faults d l a.namespace (action_uid a) t) [] contexts

  context_whole : (namespace : Name) (u : Uid) (t : TypeSyntax) → context_faults d l namespace u t ≡ [] → (fs : Fields) × (type_in d l namespace t ≡ Some (Records fs))
  context_whole namespace u t e =
      let x = some_is (type_in d l namespace t) (each_is_whole namespace t (second_empty _ (type_faults d l namespace t) e)) in
      let plain = not_told (is_no_record (type_in d l namespace t)) _ (first_empty _ (type_faults d l namespace t) e) in
      let r = record_is x.0 (subst (λ o. is_no_record o ≡ false) x.1 plain) in
      (r.0, x.1 ∙ ap Some r.1)

  context_is : (u : Uid) (a : Action) (es : List AppliesEntry) (t : TypeSyntax) (fs : Fields) → action_at d u ≡ Some a → a.written.applies_to ≡ Some es → contexts_of es ≡ t ∷ [] → type_in d l a.namespace t ≡ Some (Records fs) →
      (schema_of l d).context u ≡ fs
  context_is u a es t fs f g h i =
      ap (λ o. context_by d l (namespace_of o) (contexts_of (entries_of o))) f
      ∙ ap (λ o. context_by d l a.namespace (contexts_of (unwrap_or o []))) g
      ∙ ap (λ ts. context_by d l a.namespace ts) h
      ∙ ap (λ x. context_fields (fields_of x)) i

-- ---- the laws

declared_clean : (l : Library) (s : SchemaSyntax) (schema : Schema) → resolved l s ≡ Resolves schema → declared_faults l (declared s) ≡ []
declared_clean l s schema r = second_empty (faults_of_all namespace_faults s) (declared_faults l (declared s)) (resolved_is (faults_in l s (declared s)) (schema_of l (declared s)) schema r).0

schema_is : (l : Library) (s : SchemaSyntax) (schema : Schema) → resolved l s ≡ Resolves schema → schema_of l (declared s) ≡ schema
schema_is l s schema r = (resolved_is (faults_in l s (declared s)) (schema_of l (declared s)) schema r).1

pub common_types_unfold : CommonTypesUnfold
common_types_unfold l s schema r n t e = common_type_unfolds l (declared s) (declared_clean l s schema r) n t e

pub nothing_is_left_out : NothingIsLeftOut
nothing_is_left_out l s schema r n e w f g =
    let d = declared s in
    let clean = declared_clean l s schema r in
    let body = shape_clean l d clean n e w f g in
    let fs = fields_whole l d clean e.namespace w (first_empty (type_faults d l e.namespace (a_record w.attributes)) (maybe_type_faults d l e.namespace w.tags) body) in
    record {
      fields = fs.0;
      written = fs.1;
      tags = tags_whole l d clean e.namespace w.tags (second_empty (type_faults d l e.namespace (a_record w.attributes)) (maybe_type_faults d l e.namespace w.tags) body);
      shape = subst (λ (x : Schema). x.entity n ≡ Some (record { attributes = fs.0; tags = w.tags >>= type_in d l e.namespace })) (schema_is l s schema r) (shape_is l d clean n e w fs.0 f g fs.1);
    }

pub contexts_are_whole : ContextsAreWhole
contexts_are_whole l s schema r u a es t f g h =
    let d = declared s in
    let clean = declared_clean l s schema r in
    let fs = context_whole l d clean a.namespace (action_uid a) t (context_clean l d clean u a es t f g h) in
    (fs.0, fs.1, subst (λ (x : Schema). x.context u ≡ fs.0) (schema_is l s schema r) (context_is l d clean u a es t fs.0 f g h fs.1))

-- What code holds of a schema is the schema that is declared.
use Rattle.std.proofs.Common.{◌≡◌, inl, inr, Bool, true, false, cond, ◌&&◌, ◌||◌, List, [], ◌∷◌, Option, Some, None, IsTrue, refl, sym, ap, ◌∙◌, subst}
use mathlib.Core.Path.{fun_ext}
use Rattle.std.specs.Prelude.{◌↔◌, map, is_some, option_map, option_and_then}
use Rattle.std.specs.List.{list_any}
use Rattle.std.specs.Global.{Vec}
use Rattle.std.specs.Map.{lookup}
use Rattle.std.specs.Option.{option_map_or}
use Rattle.std.specs.declared.cmp.Ordering.{Ordering}
use Rattle.std.specs.BTreeMap.{BTreeMap, get, keys, is_at}
use Rattle.std.specs.BTreeSet.{BTreeSet, contains}
use Rattle.std.proofs.lemmas.List.Folds.{list_any-append}
use Rattle.std.proofs.lemmas.Map.Made.{is_some-lookup}
use Rattle.cedar_language.specs.Uid.{Text, Name, Uid}
use Rattle.cedar_language.specs.Facts.{Reaches}
use Rattle.cedar_language.specs.Order.{same_name, same_uid, name_cmp, uid_cmp}
use Rattle.cedar_typing.specs.Types.{Fields}
use Rattle.cedar_typing.specs.Schema as typing
use Rattle.cedar_typing.proofs.Sameness.{name_is, uid_is}
use Rattle.cedar_schema_grammar.specs.Declared.{Library, Action, Declared, or_else, entity_at, action_at, action_uid}
use Rattle.cedar_schema_grammar.specs.Faults.{principals_of, resources_of, contexts_of, is_in_group}
use Rattle.cedar_schema_grammar.specs.Reaching.{leads_through, IsAmong, LeadsFrom, Edge}
use Rattle.cedar_schema_grammar.specs.Resolving.{bare_shape, action_shape, is_type_of_action, shape_of, lists, parents_of, may_have_parent, types_with_parents, found_types, is_named, entries_of, namespace_of, applies_by, context_by, schema_of}
use Rattle.cedar_schema_grammar.specs.Environments as environments
use Rattle.cedar_schema_grammar.proofs.Reaching.{leads_where_edges_do, groups_are_transitive, parents_are_transitive}
use Rattle.cedar_schema.specs.Types.{listed, named_views}
use Rattle.cedar_schema.specs.declared.types.AttributeType.{AttributeType}
use Rattle.cedar_schema_resolution.specs.Shapes.{shape_view}
use Rattle.cedar_validator_schema.specs.Hierarchies.{targets_at, leads, Leads}
use Rattle.cedar_validator_schema.specs.EntityTypes.{may_have, HasTypes}
use Rattle.cedar_validator_schema.specs.Applying.{application_view, applies_in, application_of}
use Rattle.cedar_validator_schema.specs.Actions.{application_at, HasActions, types_lead, is_type_among}
use Rattle.cedar_validator_schema.specs.Views.{shape_in, context_in, schema_view}
use Rattle.cedar_schema_resolution.specs.declared.shapes.EntityShape.{EntityShape}
use Rattle.cedar_validator_schema.specs.declared.actions.Actions.{Actions}
use Rattle.cedar_validator_schema.specs.declared.entity_types.EntityTypes.{EntityTypes}
use Rattle.cedar_validator_schema.specs.declared.hierarchies.Hierarchy.{Hierarchy}
use Rattle.cedar_validator_schema.specs.declared.schema.ValidatorSchema.{ValidatorSchema}
use Rattle.cedar_validator_schema.proofs.Cases.{some_map}
use Rattle.cedar_validator_schema.proofs.Naming.{at_is_name}
use Rattle.cedar_validator_schema.proofs.Putting.{at_is_uid}

-- ---- who is within whom

same_truth : (a b : Bool) → (a ≡ true → b ≡ true) → (b ≡ true → a ≡ true) → a ≡ b
same_truth true b f g = sym (f refl)
same_truth false true f g = g refl
same_truth false false f g = refl

-- edges lead from keys alone
keys_among : {K X : Type 0} (test : K → Bool) (x : K) → ((k : K) → test k ≡ true → x ≡ k) → (es : List (K × X))
    → is_some (lookup test es) ≡ true → IsAmong x (map (λ e. e.0) es)
keys_among test x exact [] e = absurd (cc e)
keys_among test x exact (p ∷ es) e = by (test p.0) refl e (keys_among test x exact es)
  where
    by : (b : Bool) → test p.0 ≡ b → is_some (lookup test (p ∷ es)) ≡ true → (is_some (lookup test es) ≡ true → IsAmong x (map (λ y. y.0) es))
        → IsAmong x (map (λ y. y.0) (p ∷ es))
    by true f g ih = inl (exact p.0 f)
    by false f g ih = inr (ih (rw (f, lookup) at g))

some_row : {K : Type 0} (test : K → Bool) (o : Option (Vec K)) → list_any test (option_map_or (λ row. row.items) o []) ≡ true → is_some o ≡ true
some_row test (Some row) e = refl
some_row test None e = absurd (cc e)

module _ {K : Type 0} (eq : K → K → Bool) (cmp : K → K → Ordering) (exact : (x y : K) → is_at (cmp x) y ≡ true → x ≡ y) (h : Hierarchy K) where
  from_keys : LeadsFrom (leads eq cmp h) (keys h.targets)
  from_keys x y e = keys_among (is_at (cmp x)) x (exact x) h.targets.entries (some_row (eq y) (lookup (is_at (cmp x)) h.targets.entries) e)

  -- what a walk finds is what edges lead to through the keys
  pub walk_is : (b : Bool) (x y : K) → IsTrue b ↔ Reaches (Leads eq cmp h) x y → b ≡ leads_through (leads eq cmp h) (keys h.targets) x y
  walk_is b x y is =
      let way = leads_where_edges_do (leads eq cmp h) (keys h.targets) from_keys x y in
      same_truth b (leads_through (leads eq cmp h) (keys h.targets) x y) (λ e. way.1 (is.0 e)) (λ e. is.1 (way.0 e))

  -- the same edges lead on to the same
  pub through_is : (other : K → K → Bool) (ks : List K) → ((x y : K) → leads eq cmp h x y ≡ other x y)
      → ((x y : K) → (leads_through other ks x y ≡ true) ↔ Reaches (Edge other) x y)
      → leads_through (leads eq cmp h) (keys h.targets) ≡ leads_through other ks
  through_is other ks alike way = fun_ext (λ x. fun_ext (λ y.
      let same : leads eq cmp h ≡ other = fun_ext (λ a. fun_ext (alike a)) in
      let mine = leads_where_edges_do (leads eq cmp h) (keys h.targets) from_keys x y in
      same_truth (leads_through (leads eq cmp h) (keys h.targets) x y) (leads_through other ks x y)
      (λ e. (way x y).1 (subst (λ f. Reaches (Edge f) x y) same (mine.0 e))) (λ e. mine.1 (subst (λ f. Reaches (Edge f) x y) (sym same) ((way x y).0 e)))))

pub names_exact : (m n : Name) → is_at (name_cmp m) n ≡ true → m ≡ n
names_exact m n e = name_is m n (sym (at_is_name m n) ∙ e)

pub uids_exact : (u w : Uid) → is_at (uid_cmp u) w ≡ true → u ≡ w
uids_exact u w e = uid_is u w (sym (at_is_uid u w) ∙ e)

-- the keys are the declared actions
pub listed_are : (a : Actions) (us : List Uid) → us ≡ keys a.by_uid → (u : Uid) → list_any (same_uid u) us ≡ is_some (application_at a u)
listed_are a us e u =
    ap (list_any (same_uid u)) e ∙ ap (λ test. list_any test (keys a.by_uid)) (fun_ext (λ w. sym (at_is_uid u w)))
    ∙ sym (is_some-lookup (is_at (uid_cmp u)) a.by_uid.entries) ∙ sym (some_map application_view (get uid_cmp a.by_uid u))

-- ---- what actions apply to

named_is : (d : Declared) (namespace : Name) (nss : List (List Name)) (n : Name)
    → list_any (same_name n) (environments.all_named d namespace nss) ≡ is_named d namespace nss n
named_is d namespace [] n = refl
named_is d namespace (ns ∷ nss) n = list_any-append (same_name n) (found_types d namespace ns) (environments.all_named d namespace nss)
    ∙ ap (λ b. list_any (same_name n) (found_types d namespace ns) || b) (named_is d namespace nss n)

applies_is : (d : Declared) (l : Library) (o : Option Action) (n m : Name) → applies_in (option_map (application_of d l) o) n m ≡ applies_by d o n m
applies_is d l None n m = refl
applies_is d l (Some a) n m = ap (λ b. b && list_any (same_name m) (application_of d l a).resources) (named_is d a.namespace (principals_of
    (entries_of (Some a))) n)
    ∙ ap (λ b. is_named d a.namespace (principals_of (entries_of (Some a))) n && b) (named_is d a.namespace (resources_of (entries_of (Some a))) m)

context_is : (d : Declared) (l : Library) (o : Option Action)
    → context_in (option_map (application_of d l) o) ≡ context_by d l (namespace_of o) (contexts_of (entries_of o))
context_is d l None = refl
context_is d l (Some a) = refl

-- ---- the whole

pub no_attributes_bare : (m : BTreeMap Text AttributeType) → m.entries ≡ [] → shape_view (record { attributes = m; tags = None }) ≡ bare_shape
no_attributes_bare m e = ap (λ es. record { attributes = listed (named_views es); tags = None }) e

type_shape : (b : Bool) → cond b (Some bare_shape) None ≡ action_shape b
type_shape true = refl
type_shape false = refl

abbrev made : (Name → Option typing.EntityShape) → (Uid → Bool) → (Name → Name → Bool) → (Uid → Bool) → (Uid → Uid → Bool) → (Uid → Name → Name
    → Bool) → (Uid → Fields)
    → (Name → Option typing.Signature) → typing.Schema
made e n r i a p c s = record { entity = e; may_name = n; may_reach = r; is_action = i; action_reaches = a; applies = p; context = c; signature = s }

same_schema : (e1 e2 : Name → Option typing.EntityShape) (n1 n2 : Uid → Bool) (r1 r2 : Name → Name → Bool) (i1 i2 : Uid → Bool) (a1 a2 : Uid → Uid → Bool)
    (p1 p2 : Uid → Name → Name → Bool) (c1 c2 : Uid → Fields) (s : Name → Option typing.Signature)
    → e1 ≡ e2 → n1 ≡ n2 → r1 ≡ r2 → i1 ≡ i2 → a1 ≡ a2 → p1 ≡ p2 → c1 ≡ c2
    → made e1 n1 r1 i1 a1 p1 c1 s ≡ made e2 n2 r2 i2 a2 p2 c2 s
same_schema e1 e2 n1 n2 r1 r2 i1 i2 a1 a2 p1 p2 c1 c2 s e n r i a p c =
    ap (λ x. made x n1 r1 i1 a1 p1 c1 s) e ∙ ap (λ x. made e2 x r1 i1 a1 p1 c1 s) n ∙ ap (λ x. made e2 n2 x i1 a1 p1 c1 s) r
    ∙ ap (λ x. made e2 n2 r2 x a1 p1 c1 s) i ∙ ap (λ x. made e2 n2 r2 i2 x p1 c1 s) a ∙ ap (λ x. made e2 n2 r2 i2 a2 x c1 s) p
    ∙ ap (λ x. made e2 n2 r2 i2 a2 p2 x s) c

module _ (d : Declared) (l : Library) (t0 t1 : EntityTypes) (a : Actions) (types : BTreeSet Name) (shape : EntityShape) (has : HasTypes d l d.entities t0)
    (acts : HasActions d l d.actions a) where
  leads_is : ((n m : Name) → leads same_name name_cmp t1.parents n m
      ≡ (leads same_name name_cmp t0.parents n m || types_lead (targets_at uid_cmp a.groups) d.actions n m))
      → (n m : Name) → leads same_name name_cmp t1.parents n m ≡ may_have_parent d n m
  leads_is more n m = more n m ∙ ap (λ ns. list_any (same_name m) ns || types_lead (targets_at uid_cmp a.groups) d.actions n m) (has.parents n)
      ∙ ap (λ f. list_any (same_name m) (parents_of d (entity_at d n)) || types_lead f d.actions n m) (fun_ext acts.groups)

  pub built : t1.by_name ≡ t0.by_name
      → ((n m : Name) → leads same_name name_cmp t1.parents n m
      ≡ (leads same_name name_cmp t0.parents n m || types_lead (targets_at uid_cmp a.groups) d.actions n m))
      → ((n : Name) → contains name_cmp types n ≡ is_type_among d.actions n) → shape_view shape ≡ bare_shape
      → schema_view l.signature (record { entity_types = t1; actions = a; action_types = types; action_shape = shape }) ≡ schema_of l d
  built same more among bare =
      let v : ValidatorSchema = record { entity_types = t1; actions = a; action_types = types; action_shape = shape } in
      same_schema (shape_in v) (schema_of l d).entity (schema_view l.signature v).may_name (schema_of l d).may_name
      (schema_view l.signature v).may_reach (schema_of l d).may_reach (schema_view l.signature v).is_action (schema_of l d).is_action
      (schema_view l.signature v).action_reaches (schema_of l d).action_reaches (schema_view l.signature v).applies (schema_of l d).applies
      (schema_view l.signature v).context (schema_of l d).context l.signature
      (fun_ext (λ n. ap (λ m. or_else (option_and_then (λ e. option_map shape_view e.shape) (get name_cmp m n)) (cond (contains name_cmp types n)
      (Some (shape_view shape)) None)) same
      ∙ ap (λ o. or_else o (cond (contains name_cmp types n) (Some (shape_view shape)) None)) (has.shapes n)
      ∙ ap (λ b. or_else (shape_of d l (entity_at d n)) (cond b (Some (shape_view shape)) None)) (among n)
      ∙ ap (λ x. or_else (shape_of d l (entity_at d n)) (cond (is_type_of_action d n) (Some x) None)) bare
      ∙ ap (or_else (shape_of d l (entity_at d n))) (type_shape (is_type_of_action d n))))
      (fun_ext (λ u. ap (λ m. option_map_or (λ e. may_have e.ids u.id) (get name_cmp m u.type_name) false || is_some (application_at a u)) same
      ∙ ap (λ b. b || is_some (application_at a u)) (has.ids u.type_name u.id)
      ∙ ap (λ b. lists (entity_at d u.type_name) u.id || b) (is_declared u)))
      (through_is same_name name_cmp names_exact t1.parents (may_have_parent d) (types_with_parents d) (leads_is more) (parents_are_transitive l d))
      (fun_ext is_declared)
      (through_is same_uid uid_cmp uids_exact a.groups (is_in_group d) (map action_uid d.actions) (λ u w. ap (list_any (same_uid w))
      (acts.groups u)) (groups_are_transitive l d))
      (fun_ext (λ u. fun_ext (λ n. fun_ext (λ m. ap (λ o. applies_in o n m) (acts.applications u) ∙ applies_is d l (action_at d u) n m))))
      (fun_ext (λ u. ap context_in (acts.applications u) ∙ context_is d l (action_at d u)))
    where
      is_declared : (u : Uid) → is_some (application_at a u) ≡ is_some (action_at d u)
      is_declared u = ap is_some (acts.applications u) ∙ some_map (application_of d l) (action_at d u)

-- What a world holds after commands is what the commands say.
use Rattle.std.proofs.Common.{◌≡◌, ◌⊎◌, inl, inr, ℕ, Bool, true, false, cond, not, ◌&&◌, Option, Some, None, is_some, List, [], ◌∷◌, codes, option_map, refl, sym, ◌∙◌, ap, subst}
use Rattle.std.specs.FinMap as map
use Rattle.std.specs.FinSet as set
use Rattle.cedar_language.specs.Uid.{Text, Uid}
use Rattle.cedar_language.specs.Tree.{String, MakeRecord, Tree, Lit, Apply, Trees, no_trees, a_tree}
use Rattle.cedar_language.specs.Value.{Value}
use Rattle.cedar_grammar.specs.Bindings.{linked}
use Rattle.cedar_grammar.specs.Functions.{Functions}
use Rattle.cedar_grammar.specs.Syntax.{PolicySyntax}
use Rattle.cedar_world.specs.Orders.{text_cmp, text_eq, uid_cmp, uid_eq}
use Rattle.cedar_world.specs.Bodies as body
use Rattle.cedar_world.specs.Bodies.{Fields, LinkBody, EntityBody, string_of, entity_of, named_fields, zipped, each, found, link_with, entity_with, entity_body, link_body, uids_of}
use Rattle.cedar_world.specs.World as world
use Rattle.cedar_world.specs.World.{EntityData, Policy, Link, seen, parents_of, parents_at, in_force_as, in_force_at}
use Rattle.cedar_world.specs.EntityEdits.{Version, put, add, added_one, remove, without as unlinked}
use Rattle.cedar_world.specs.EditLaws.{EditsAtUids}
use Rattle.cedar_world.specs.PolicyEdits.{HasRoom, Names, joined}
use Rattle.cedar_world.specs.Setting.{Setting, IsBody}
use Rattle.cedar_world.specs.Values.{values, version_with, versions}
use Rattle.cedar_world.specs.Commands as command
use Rattle.cedar_world.specs.Commands.{Verb, Reply, Done, Named}
use Rattle.cedar_world.specs.Session as session
use Rattle.cedar_world.proofs.Parts.{not_none, same_some}
use Rattle.cedar_world.proofs.Maps.{text_total}
use Rattle.cedar_world.proofs.Edits.{uid_total}
use Rattle.cedar_theorem.specs.Bodies.{field, items, entity_in, lists, value_under}
use Rattle.cedar_theorem.specs.Holdings.{Bound, Written, Linked, Policies, template_of, policy_of, in_force, with_bound, loaded, Fit, Entities, nobody, listed, put_one, put_all, add_one, add_all, without, EditsPolicies, EditsEntities, Command, Edited, Holds}
use Rattle.cedar_theorem.proofs.Reading.{record_read, entry_found, string_read, uid_read, entity_read, list_read, read_both, each_listed, or_no_uids, parents_read, or_no_fields, attributes_read}

-- ---- what stands under ids

abbrev pub shown : world.Bound → Bound
shown (Policy s) = Written s
shown (Link template bindings) = Linked template bindings

abbrev pub policies_of : world.Policies → Policies
policies_of policies id = option_map shown (map.get policies id)

bound_shown : (b : Bool) (x : world.Bound) (o : Option world.Bound) → option_map shown (cond b (Some x) o) ≡ cond b (Some (shown x)) (option_map shown o)
bound_shown true x o = refl
bound_shown false x o = refl

gone_shown : (b : Bool) (o : Option world.Bound) → option_map shown (cond b None o) ≡ cond b None (option_map shown o)
gone_shown true o = refl
gone_shown false o = refl

inserted : (policies : world.Policies) (id : Text) (x : world.Bound) → policies_of (map.insert policies id x) ≡ with_bound (policies_of policies) id (Some (shown x))
inserted policies id x i other =
    (ap (option_map shown) (map.get-insert text_total policies id x other) ∙ bound_shown (text_eq other id) x (map.get policies other)) i

removed : (policies : world.Policies) (id : Text) → policies_of (map.remove policies id) ≡ with_bound (policies_of policies) id None
removed policies id i other =
    (ap (option_map shown) (map.get-remove text_total policies id other) ∙ gone_shown (text_eq other id) (map.get policies other)) i

joins : (policies : world.Policies) (ss : List PolicySyntax) (ids : List Text) → policies_of (joined policies ss ids) ≡ loaded (policies_of policies) ss ids
joins policies (s ∷ ss) (id ∷ ids) = joins (map.insert policies id (Policy s)) ss ids ∙ ap (λ ps. loaded ps ss ids) (inserted policies id (Policy s))
joins policies (s ∷ ss) [] = refl
joins policies [] ids = refl

has_room : (policies : world.Policies) (id : Text) (s : PolicySyntax) → HasRoom policies id s → (policies_of policies id ≡ None) ⊎ (policies_of policies id ≡ Some (Written s))
has_room policies id s (inl e) = inl (ap (option_map shown) e)
has_room policies id s (inr e) = inr (ap (option_map shown) e)

fits : (policies : world.Policies) (count i from : ℕ) (ss : List PolicySyntax) (ids : List Text) → Names policies count i from ss ids → Fit (policies_of policies) ss ids
fits policies count i from [] [] h = tt
fits policies count i from [] (id ∷ ids) h = h
fits policies count i from (s ∷ ss) [] h = h
fits policies count i from (s ∷ ss) (id ∷ ids) (inl (room, is, more)) =
    (has_room policies id s (subst (λ x. HasRoom policies x s) (sym is) room), fits policies count _ from ss ids more)
fits policies count i from (s ∷ ss) (id ∷ ids) (inr (n, conflict, next, is, more)) =
    (has_room policies id s (subst (λ x. HasRoom policies x s) (sym is) (inl next.free.0)), fits policies count _ _ ss ids more)

-- ---- the policies in force

template_same : (o : Option world.Bound) → template_of (option_map shown o) ≡ world.template_of o
template_same None = refl
template_same (Some (Policy s)) = refl
template_same (Some (Link template bindings)) = refl

force_same : (policies : world.Policies) (o : Option world.Bound) → policy_of (policies_of policies) (option_map shown o) ≡ in_force_as policies o
force_same policies None = refl
force_same policies (Some (Policy s)) = refl
force_same policies (Some (Link template bindings)) = ap (option_map (linked bindings)) (template_same (map.get policies template))

pub same_in_force : (policies : world.Policies) (id : Text) → in_force (policies_of policies) id ≡ in_force_at policies id
same_in_force policies id = force_same policies (map.get policies id)

-- ---- what a body of a link says

link_parts : (o p : Option Text) (q r : Option (Option Uid)) (b : LinkBody) → link_with o p q r ≡ Some b
    → (o ≡ Some b.template) × (p ≡ Some b.id) × (q ≡ Some b.bindings.principal) × (r ≡ Some b.bindings.resource)
link_parts (Some template) (Some id) (Some principal) (Some resource) b e =
    let is = same_some _ b e in
    (ap (λ (x : LinkBody). Some x.template) is, ap (λ (x : LinkBody). Some x.id) is, ap (λ (x : LinkBody). Some x.bindings.principal) is, ap (λ (x : LinkBody). Some x.bindings.resource) is)
link_parts _ _ _ _ b e = absurd (not_none b e)

pub record LinkSays (tree : Tree) (b : LinkBody) : Type 0 where
  pub template_is : field (codes "template") tree ≡ Some (Lit (String b.template))
  pub id_is : field (codes "id") tree ≡ Some (Lit (String b.id))
  pub principal_is : b.bindings.principal ≡ entity_in (field (codes "principal") tree)
  pub resource_is : b.bindings.resource ≡ entity_in (field (codes "resource") tree)

link_says : (tree : Tree) (b : LinkBody) → link_body tree ≡ Some b → LinkSays tree b
link_says tree b e =
    let (ks, ts, is, reads) = record_read (codes "template" ∷ codes "id" ∷ codes "principal" ∷ codes "resource" ∷ []) body.link_fields tree b e in
    let fs = zipped ks ts in
    let (template, id, principal, resource) =
    link_parts (body.required string_of (codes "template") fs) (body.required string_of (codes "id") fs) (body.optional entity_of (codes "principal") fs) (body.optional entity_of (codes "resource") fs) b reads in
    subst (λ t. LinkSays t b) (sym is) (record {
      template_is = entry_found (codes "template") ks ts ∙ string_read (found (codes "template") fs) b.template template;
      id_is = entry_found (codes "id") ks ts ∙ string_read (found (codes "id") fs) b.id id;
      principal_is = entity_read (found (codes "principal") fs) b.bindings.principal principal ∙ ap entity_in (sym (entry_found (codes "principal") ks ts));
      resource_is = entity_read (found (codes "resource") fs) b.bindings.resource resource ∙ ap entity_in (sym (entry_found (codes "resource") ks ts));
    })

string_is : (tree : Tree) (id : Text) → string_of tree ≡ Some id → tree ≡ Lit (String id)
string_is (Lit (String x)) id e = ap (λ y. Lit (String y)) (same_some x id e)
string_is _ id e = absurd (not_none id e)

-- ---- entities

abbrev pub entities_of : world.Entities → Entities
entities_of entities = record {
  held = λ uid. seen (map.get entities uid);
  has_parent = λ a b. set.contains (parents_at entities a) b;
}

-- the tree lists this version
record Lists (functions : Functions) (t : Tree) (v : Version) : Type 0 where
  uid_is : entity_in (field (codes "uid") t) ≡ Some v.uid
  held_is : seen (Some v.held) ≡ Some (listed functions t)
  parents_are : (b : Uid) → set.contains v.held.parents b ≡ lists (items (field (codes "parents") t)) b

module _ (functions : Functions) (entities : world.Entities) (t : Tree) (v : Version) (says : Lists functions t v) where
  held_put : (b : Bool) (o : Option EntityData) → seen (cond b (Some v.held) o) ≡ cond b (Some (listed functions t)) (seen o)
  held_put true o = says.held_is
  held_put false o = refl

  parent_put : (c : Bool) (o : Option EntityData) (b : Uid) → set.contains (parents_of (cond c (Some v.held) o)) b ≡ cond c (lists (items (field (codes "parents") t)) b) (set.contains (parents_of o) b)
  parent_put true o b = says.parents_are b
  parent_put false o b = refl

  puts_this : entities_of (map.insert entities v.uid v.held) ≡ put_one functions (entities_of entities) t (Some v.uid)
  puts_this = λ i. record {
    held = λ a. (ap seen (map.get-insert uid_total entities v.uid v.held a) ∙ held_put (uid_eq a v.uid) (map.get entities a)) i;
    has_parent = λ a b. (ap (λ o. set.contains (parents_of o) b) (map.get-insert uid_total entities v.uid v.held a) ∙ parent_put (uid_eq a v.uid) (map.get entities a) b) i;
  }

  puts_one : entities_of (map.insert entities v.uid v.held) ≡ put_one functions (entities_of entities) t (entity_in (field (codes "uid") t))
  puts_one = puts_this ∙ ap (put_one functions (entities_of entities) t) (sym says.uid_is)

  added : (o : Option EntityData) → map.get entities v.uid ≡ o → entities_of (added_one o entities v) ≡ cond (is_some (seen o)) (entities_of entities) (put_one functions (entities_of entities) t (Some v.uid))
  added (Some h) e = refl
  added None e = puts_this

  adds_one : entities_of (added_one (map.get entities v.uid) entities v) ≡ add_one functions (entities_of entities) t (entity_in (field (codes "uid") t))
  adds_one = added (map.get entities v.uid) refl ∙ ap (add_one functions (entities_of entities) t) (sym says.uid_is)

-- ---- what a list of entities says

version_parts : (by : Setting) (b : EntityBody) (o p : Option (List (Text × Value))) (v : Version) → version_with by b o p ≡ Some v
    → (fs gs : List (Text × Value)) × (o ≡ Some fs) × (p ≡ Some gs)
    × (v ≡ record { uid = b.uid; held = record { attributes = map.from_entries fs; tags = map.from_entries gs; parents = b.parents } })
version_parts by b (Some fs) (Some gs) v e = (fs, gs, refl, refl, sym (same_some _ v e))
version_parts by b _ _ v e = absurd (not_none v e)

entity_parts : (o : Option Uid) (p : Option (Option (List Uid))) (q r : Option (Option Fields)) (b : EntityBody) → entity_with o p q r ≡ Some b
    → (uid : Uid) × (parents : Option (List Uid)) × (attributes tags : Option Fields) × (o ≡ Some uid) × (p ≡ Some parents) × (q ≡ Some attributes) × (r ≡ Some tags)
    × (b ≡ record { uid = uid; parents = set.from_list (or_no_uids parents); attributes = or_no_fields attributes; tags = or_no_fields tags })
entity_parts (Some uid) (Some parents) (Some attributes) (Some tags) b e = (uid, parents, attributes, tags, refl, refl, refl, refl, sym (same_some _ b e))
entity_parts _ _ _ _ b e = absurd (not_none b e)

module _ (by : Setting) where
  lists_version : (t : Tree) (b : EntityBody) (v : Version) → entity_body t ≡ Some b → version_with by b (values by b.attributes) (values by b.tags) ≡ Some v → Lists by.functions t v
  lists_version t b v e f =
      let (ks, ts, is, reads) = record_read (codes "uid" ∷ codes "parents" ∷ codes "attrs" ∷ codes "tags" ∷ []) body.entity_fields t b e in
      let fs = zipped ks ts in
      let (uid, parents, attributes, tags, uid_is, parents_is, attributes_is, tags_is, b_is) =
      entity_parts (body.required entity_of (codes "uid") fs) (body.optional uids_of (codes "parents") fs) (body.optional named_fields (codes "attrs") fs) (body.optional named_fields (codes "tags") fs) b reads in
      let (es, gs, es_are, gs_are, v_is) = version_parts by b (values by b.attributes) (values by b.tags) v f in
      let at = λ (key : Text). entry_found key ks ts in
      subst (λ x. Lists by.functions x v) (sym is) (subst (Lists by.functions (Apply (MakeRecord ks) ts)) (sym v_is) (record {
        uid_is = ap entity_in (at (codes "uid")) ∙ uid_read (found (codes "uid") fs) uid uid_is ∙ ap (λ (x : EntityBody). Some x.uid) (sym b_is);
        held_is = λ i. Some (record {
          attribute = λ name. (map.get-from_entries text_total es name
              ∙ attributes_read by.functions (found (codes "attrs") fs) attributes attributes_is es (ap (λ (x : EntityBody). values by x.attributes) (sym b_is) ∙ es_are) name
              ∙ ap (λ o. value_under by.functions o name) (sym (at (codes "attrs")))) i;
          tag = λ name. (map.get-from_entries text_total gs name
              ∙ attributes_read by.functions (found (codes "tags") fs) tags tags_is gs (ap (λ (x : EntityBody). values by x.tags) (sym b_is) ∙ gs_are) name
              ∙ ap (λ o. value_under by.functions o name) (sym (at (codes "tags")))) i;
        });
        parents_are = λ c. ap (λ (x : EntityBody). set.contains x.parents c) b_is
            ∙ set.contains-from_list uid_total (or_no_uids parents) c
            ∙ parents_read (found (codes "parents") fs) parents parents_is c
            ∙ ap (λ o. lists (items o) c) (sym (at (codes "parents")));
      }))

  puts_all : (entities : world.Entities) (ts : Trees) (bs : List EntityBody) (vs : List Version) → each entity_body ts ≡ Some bs → versions by bs ≡ Some vs
      → entities_of (put entities vs) ≡ put_all by.functions (entities_of entities) ts
  puts_all entities no_trees bs vs e f = ap (λ ws. entities_of (put entities ws)) (sym (same_some [] vs (ap (versions by) (same_some [] bs e) ∙ f)))
  puts_all entities (a_tree t ts) bs vs e f =
      let (b, rest, bs_are, here, more) = read_both (entity_body t) (each entity_body ts) bs e in
      let (v, ws, vs_are, this, later) = read_both (version_with by b (values by b.attributes) (values by b.tags)) (versions by rest) vs (ap (versions by) (sym bs_are) ∙ f) in
      ap (λ xs. entities_of (put entities xs)) vs_are
      ∙ puts_all (map.insert entities v.uid v.held) ts rest ws more later
      ∙ ap (λ x. put_all by.functions x ts) (puts_one by.functions entities t v (lists_version t b v here this))

  adds_all : (entities : world.Entities) (ts : Trees) (bs : List EntityBody) (vs : List Version) → each entity_body ts ≡ Some bs → versions by bs ≡ Some vs
      → entities_of (add entities vs) ≡ add_all by.functions (entities_of entities) ts
  adds_all entities no_trees bs vs e f = ap (λ ws. entities_of (add entities ws)) (sym (same_some [] vs (ap (versions by) (same_some [] bs e) ∙ f)))
  adds_all entities (a_tree t ts) bs vs e f =
      let (b, rest, bs_are, here, more) = read_both (entity_body t) (each entity_body ts) bs e in
      let (v, ws, vs_are, this, later) = read_both (version_with by b (values by b.attributes) (values by b.tags)) (versions by rest) vs (ap (versions by) (sym bs_are) ∙ f) in
      ap (λ xs. entities_of (add entities xs)) vs_are
      ∙ adds_all (added_one (map.get entities v.uid) entities v) ts rest ws more later
      ∙ ap (λ x. add_all by.functions x ts) (adds_one by.functions entities t v (lists_version t b v here this))

-- ---- a removal

module _ (edits : EditsAtUids) (entities : world.Entities) (uids : List Uid) (ts : Trees) (are : each entity_of ts ≡ Some uids) where
  gone : (a : Uid) → set.contains (set.from_list {R = uid_cmp} uids) a ≡ lists ts a
  gone a = set.contains-from_list uid_total uids a ∙ each_listed ts uids are a

  held_cut : (goes : Bool) (o : Option EntityData) → seen (cond goes None (option_map (unlinked (set.from_list uids)) o)) ≡ cond goes None (seen o)
  held_cut true o = refl
  held_cut false None = refl
  held_cut false (Some h) = refl

  parent_cut : (b : Uid) (goes : Bool) (o : Option EntityData) → set.contains (parents_of (cond goes None (option_map (unlinked (set.from_list uids)) o))) b
      ≡ (not goes && (set.contains (parents_of o) b && not (set.contains (set.from_list {R = uid_cmp} uids) b)))
  parent_cut b true o = set.contains-empty uid_cmp b
  parent_cut b false None = set.contains-empty uid_cmp b ∙ ap (λ x. x && not (set.contains (set.from_list {R = uid_cmp} uids) b)) (sym (set.contains-empty uid_cmp b))
  parent_cut b false (Some h) = set.contains-difference uid_total h.parents (set.from_list uids) b

  removes : entities_of (remove entities (set.from_list uids)) ≡ without (entities_of entities) ts
  removes = λ i. record {
    held = λ a. (ap seen (edits.after_remove entities (set.from_list uids) a)
        ∙ held_cut (set.contains (set.from_list {R = uid_cmp} uids) a) (map.get entities a)
        ∙ ap (λ x. cond x None (seen (map.get entities a))) (gone a)) i;
    has_parent = λ a b. (ap (λ o. set.contains (parents_of o) b) (edits.after_remove entities (set.from_list uids) a)
        ∙ parent_cut b (set.contains (set.from_list {R = uid_cmp} uids) a) (map.get entities a)
        ∙ ap (λ x. not x && (set.contains (parents_at entities a) b && not (set.contains (set.from_list {R = uid_cmp} uids) b))) (gone a)
        ∙ ap (λ x. not (lists ts a) && (set.contains (parents_at entities a) b && not x)) (gone b)) i;
  }

-- ---- commands

module _ (by : Setting) where
  edits_policies : (old new : world.Policies) (verb : Verb) (text : Text) (reply : Reply) → session.EditsPolicies by old verb text reply new
      → EditsPolicies by.functions (policies_of old) verb text reply (policies_of new)
  edits_policies old new command.Load text (Named ids) (ss, are, loads) = record {
    policies = ss;
    reads = are;
    fit = fits old _ 0 0 ss ids loads.names;
    new_is = ap policies_of loads.policies ∙ joins old ss ids;
  }
  edits_policies old new command.Link text Done (b, (tree, reads, is), links) =
      let says = link_says tree b is in
      record {
        body = tree;
        template = b.template;
        id = b.id;
        bindings = b.bindings;
        reads = reads;
        template_is = says.template_is;
        id_is = says.id_is;
        principal_is = says.principal_is;
        resource_is = says.resource_is;
        new_is = ap policies_of links ∙ inserted old b.id (Link b.template b.bindings);
      }
  edits_policies old new command.Unlink text Done (id, (tree, reads, is), goes) =
      record { id = id; reads = subst (IsBody by text) (string_is tree id is) reads; new_is = ap policies_of goes ∙ removed old id }
  edits_policies old new command.RemoveStatic text Done (id, (tree, reads, is), goes) =
      record { id = id; reads = subst (IsBody by text) (string_is tree id is) reads; new_is = ap policies_of goes ∙ removed old id }
  edits_policies old new command.RemoveTemplate text Done (id, (tree, reads, is), goes) =
      record { id = id; reads = subst (IsBody by text) (string_is tree id is) reads; new_is = ap policies_of goes ∙ removed old id }
  edits_policies old new verb text reply e = ap policies_of e

  edits_entities : EditsAtUids → (old new : world.Entities) (verb : Verb) (text : Text) (reply : Reply) → session.EditsEntities by old verb text reply new
      → EditsEntities by.functions (entities_of old) verb text reply (entities_of new)
  edits_entities edits old new command.Add text Done (vs, (bs, (tree, reads, is), are), (can, new_is, none)) =
      let (ts, tree_is, each_is) = list_read (each entity_body) tree bs is in
      (ts, subst (IsBody by text) tree_is reads, ap entities_of new_is ∙ adds_all by old ts bs vs each_is are)
  edits_entities edits old new command.Put text Done (vs, (bs, (tree, reads, is), are), (new_is, none)) =
      let (ts, tree_is, each_is) = list_read (each entity_body) tree bs is in
      (ts, subst (IsBody by text) tree_is reads, ap entities_of new_is ∙ puts_all by old ts bs vs each_is are)
  edits_entities edits old new command.Remove text Done (uids, (tree, reads, is), new_is) =
      let (ts, tree_is, each_is) = list_read (each entity_of) tree uids is in
      (ts, subst (IsBody by text) tree_is reads, ap entities_of new_is ∙ removes edits old uids ts each_is)
  edits_entities edits old new verb text reply e = ap entities_of e

-- ---- commands, one after the other

edited : {X Y : Type 0} (show : X → Y) (Edits : X → Verb → Text → Reply → X → Type 0) (Shows : Y → Verb → Text → Reply → Y → Type 0)
    → ((old new : X) (verb : Verb) (text : Text) (reply : Reply) → Edits old verb text reply new → Shows (show old) verb text reply (show new))
    → (old new : X) (commands : List Command) (replies : List Reply) → session.Edited Edits old commands replies new → Edited Shows (show old) commands replies (show new)
edited show Edits Shows each old new [] [] e = ap show e
edited show Edits Shows each old new (c ∷ commands) (reply ∷ replies) (mid, one, more) =
    (show mid, each old mid c.0 c.1 reply one, edited show Edits Shows each mid new commands replies more)
edited show Edits Shows each old new [] (reply ∷ replies) h = h
edited show Edits Shows each old new (c ∷ commands) [] h = h

no_policies : policies_of map.empty ≡ (λ id. None)
no_policies i id = ap (option_map shown) (map.get-empty text_cmp id) i

no_entities : entities_of map.empty ≡ nobody
no_entities = λ i. record {
  held = λ uid. ap seen (map.get-empty uid_cmp uid) i;
  has_parent = λ a b. (ap (λ o. set.contains (parents_of o) b) (map.get-empty uid_cmp a) ∙ set.contains-empty uid_cmp b) i;
}

pub holds : (by : Setting) → EditsAtUids → (commands : List Command) (replies : List Reply) (world : world.World) → session.IsReached by commands replies world
    → Holds by.functions commands replies (policies_of world.policies) (entities_of world.entities)
holds by edits commands replies world reached = record {
  policies_are = subst (λ start. Edited (EditsPolicies by.functions) start commands replies (policies_of world.policies)) no_policies
      (edited policies_of (session.EditsPolicies by) (EditsPolicies by.functions) (edits_policies by) map.empty world.policies commands replies reached.policies);
  entities_are = subst (λ start. Edited (EditsEntities by.functions) start commands replies (entities_of world.entities)) no_entities
      (edited entities_of (session.EditsEntities by) (EditsEntities by.functions) (edits_entities by edits) map.empty world.entities commands replies reached.entities);
}

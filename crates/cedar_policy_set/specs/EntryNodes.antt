-- Entries as nodes, by which they are compared, and as stored trees of numbers.
use Rattle.std.proofs.Common.{◌≡◌, ℕ, zero, suc, pos, refl, sym, ◌∙◌, ap, subst, List, [], ◌∷◌, map, Bool, true}
use Rattle.std.specs.Prelude.{Option, Some, None}
use Rattle.std.specs.Bool.{Decides}
use Rattle.std.specs.Ordering.{is_eq}
use Rattle.std.specs.declared.cmp.Ordering.{Ordering}
use Rattle.std.specs.declared.cmp.Ordering.TheVariants.{Less, Equal, Greater}
use Rattle.std.proofs.lemmas.Cmp.{tied_itself}
use base.Stored.{Coded, Gv, gnil, gnum, gcons}
use Rattle.cedar_language.specs.Uid.{Text, Name, Uid}
use Rattle.cedar_language.specs.Tree.{Tree}
use Rattle.cedar_language.specs.Order.{head, Node, node, Nodes, no_nodes, a_node, node_cmp}
use Rattle.cedar_language.specs.OrderLaws.{node_cmp_total, node_same, node_gv, nodes_gv, head_code}
use Rattle.cedar_language.specs.Answering.{Effect, Permit, Forbid}
use Rattle.cedar_grammar.specs.Build.{Keyed}
use Rattle.cedar_grammar.specs.Policy.{Target, the_entity, the_slot, Constraint, anything, equals, within, of_type, of_type_within, ActionConstraint, any_action, action_equals, action_within_any, Policy}
use Rattle.cedar_shapes.specs.ShapeOrder.{shape}
use Rattle.cedar_shapes.specs.ShapeLaws.{tree_cmp_same}
use Rattle.cedar_grammar.specs.Bindings.{Bindings}
use Rattle.cedar_policy_set.specs.Entries.{Entry, static_policy, template, link}

-- ---- the parts as nodes

abbrev pub kind_node : ℕ → List Name → List Text → Nodes → Node
kind_node k ns ts below = node (head k (pos 0) ns ts) below

abbrev pub over : Node → Nodes
over n = a_node n no_nodes

abbrev pub uid_node : Uid → Node
uid_node u = kind_node 1 (u.type_name ∷ []) (u.id ∷ []) no_nodes

abbrev pub target_node : Target → Node
target_node the_slot = kind_node 0 [] [] no_nodes
target_node (the_entity u) = uid_node u

abbrev pub constraint_node : Constraint → Node
constraint_node anything = kind_node 0 [] [] no_nodes
constraint_node (equals e) = kind_node 1 [] [] (over (target_node e))
constraint_node (within e) = kind_node 2 [] [] (over (target_node e))
constraint_node (of_type p) = kind_node 3 (p ∷ []) [] no_nodes
constraint_node (of_type_within p e) = kind_node 4 (p ∷ []) [] (over (target_node e))

abbrev pub action_node : ActionConstraint → Node
action_node any_action = kind_node 0 [] [] no_nodes
action_node (action_equals u) = uid_node u
action_node (action_within_any us) = kind_node 2 (map (λ (u : Uid). u.type_name) us) (map (λ (u : Uid). u.id) us) no_nodes

abbrev pub body_node : Option Tree → Node
body_node None = kind_node 0 [] [] no_nodes
body_node (Some t) = kind_node 1 [] [] (over (shape t))

abbrev pub effect_number : Effect → ℕ
effect_number Permit = 0
effect_number Forbid = 1

abbrev pub keyed_texts : List (Keyed Text) → List Text
keyed_texts [] = []
keyed_texts (e ∷ es) = e.0 ∷ e.1 ∷ keyed_texts es

abbrev pub policy_node : Policy → Node
policy_node p =
    kind_node (effect_number p.effect) [] (keyed_texts p.annotations)
    (a_node (constraint_node p.principal) (a_node (action_node p.action) (a_node (constraint_node p.resource) (over (body_node p.body)))))

abbrev pub binding_node : Option Uid → Node
binding_node None = kind_node 0 [] [] no_nodes
binding_node (Some u) = uid_node u

abbrev pub entry_node : Entry → Node
entry_node (static_policy s) = kind_node 0 [] [] (over (policy_node s))
entry_node (template s) = kind_node 1 [] [] (over (policy_node s))
entry_node (link t s b) = kind_node 2 [] (t ∷ []) (a_node (policy_node s) (a_node (binding_node b.principal) (over (binding_node b.resource))))

-- whether two entries are one
abbrev pub same_entry : Entry → Entry → Bool
same_entry a b = is_eq (node_cmp (entry_node a) (entry_node b))

-- ---- what nodes stand for, read back

abbrev kind_at : Node → ℕ
kind_at (node h below) = h.kind

abbrev names_at : Node → List Name
names_at (node h below) = h.names

abbrev texts_at : Node → List Text
texts_at (node h below) = h.texts

abbrev below_at : Node → Nodes
below_at (node h below) = below

abbrev first_text : List Text → Text
first_text [] = []
first_text (t ∷ ts) = t

abbrev first_name : List Name → Name
first_name [] = []
first_name (n ∷ ns) = n

abbrev first_of : Nodes → Node
first_of no_nodes = kind_node 0 [] [] no_nodes
first_of (a_node n ns) = n

abbrev later_of : Nodes → Nodes
later_of no_nodes = no_nodes
later_of (a_node n ns) = ns

abbrev uid_from : List Name → List Text → Uid
uid_from ns ts = record { type_name = first_name ns; id = first_text ts }

abbrev target_by : ℕ → List Name → List Text → Target
target_by zero ns ts = the_slot
target_by (suc k) ns ts = the_entity (uid_from ns ts)

abbrev target_from : Node → Target
target_from n = target_by (kind_at n) (names_at n) (texts_at n)

target_back : (e : Target) → target_from (target_node e) ≡ e
target_back the_slot = refl
target_back (the_entity u) = refl

abbrev constraint_by : ℕ → Name → Target → Constraint
constraint_by zero p e = anything
constraint_by (suc zero) p e = equals e
constraint_by (suc (suc zero)) p e = within e
constraint_by (suc (suc (suc zero))) p e = of_type p
constraint_by (suc (suc (suc (suc k)))) p e = of_type_within p e

abbrev constraint_from : Node → Constraint
constraint_from n = constraint_by (kind_at n) (first_name (names_at n)) (target_from (first_of (below_at n)))

constraint_back : (c : Constraint) → constraint_from (constraint_node c) ≡ c
constraint_back anything = refl
constraint_back (equals e) = ap equals (target_back e)
constraint_back (within e) = ap within (target_back e)
constraint_back (of_type p) = refl
constraint_back (of_type_within p e) = ap (of_type_within p) (target_back e)

abbrev uids_from : List Name → List Text → List Uid
uids_from [] ts = []
uids_from (n ∷ ns) [] = []
uids_from (n ∷ ns) (t ∷ ts) = record { type_name = n; id = t } ∷ uids_from ns ts

uids_back : (us : List Uid) → uids_from (map (λ (u : Uid). u.type_name) us) (map (λ (u : Uid). u.id) us) ≡ us
uids_back [] = refl
uids_back (u ∷ us) = ap (λ vs. u ∷ vs) (uids_back us)

abbrev action_by : ℕ → List Name → List Text → ActionConstraint
action_by zero ns ts = any_action
action_by (suc zero) ns ts = action_equals (uid_from ns ts)
action_by (suc (suc k)) ns ts = action_within_any (uids_from ns ts)

abbrev action_from : Node → ActionConstraint
action_from n = action_by (kind_at n) (names_at n) (texts_at n)

action_back : (a : ActionConstraint) → action_from (action_node a) ≡ a
action_back any_action = refl
action_back (action_equals u) = refl
action_back (action_within_any us) = ap action_within_any (uids_back us)

abbrev effect_from : ℕ → Effect
effect_from zero = Permit
effect_from (suc n) = Forbid

effect_back : (e : Effect) → effect_from (effect_number e) ≡ e
effect_back Permit = refl
effect_back Forbid = refl

abbrev keyed_from : List Text → List (Keyed Text)
keyed_from [] = []
keyed_from (k ∷ []) = []
keyed_from (k ∷ v ∷ ts) = (k, v) ∷ keyed_from ts

keyed_back : (es : List (Keyed Text)) → keyed_from (keyed_texts es) ≡ es
keyed_back [] = refl
keyed_back (e ∷ es) = ap (λ fs. e ∷ fs) (keyed_back es)

abbrev binding_by : ℕ → List Name → List Text → Option Uid
binding_by zero ns ts = None
binding_by (suc k) ns ts = Some (uid_from ns ts)

abbrev binding_from : Node → Option Uid
binding_from n = binding_by (kind_at n) (names_at n) (texts_at n)

binding_back : (b : Option Uid) → binding_from (binding_node b) ≡ b
binding_back None = refl
binding_back (Some u) = refl

-- ---- so each node stands for one entry

shape_inj : (t u : Tree) → shape t ≡ shape u → t ≡ u
shape_inj t u e = tree_cmp_same t u (ap (node_cmp (shape t)) (sym e) ∙ tied_itself node_cmp_total (shape t))

kinds_differ : (m n : Node) → (kind_at m ≡ kind_at n → ⊥) → m ≡ n → ⊥
kinds_differ m n apart e = apart (ap kind_at e)

body_inj : (a b : Option Tree) → body_node a ≡ body_node b → a ≡ b
body_inj None None e = refl
body_inj None (Some u) e = absurd (kinds_differ _ _ (λ k. cc) e)
body_inj (Some t) None e = absurd (kinds_differ _ _ (λ k. cc) e)
body_inj (Some t) (Some u) e = ap Some (shape_inj t u (ap (λ n. first_of (below_at n)) e))

policy_from : (p q : Policy) → p.effect ≡ q.effect → p.annotations ≡ q.annotations → p.principal ≡ q.principal → p.action ≡ q.action → p.resource ≡ q.resource → p.body ≡ q.body → p ≡ q
policy_from p q e n c a r b = λ i. record { effect = e i; annotations = n i; principal = c i; action = a i; resource = r i; body = b i }

policy_inj : (p q : Policy) → policy_node p ≡ policy_node q → p ≡ q
policy_inj p q e =
    policy_from p q
    (sym (effect_back p.effect) ∙ ap (λ n. effect_from (kind_at n)) e ∙ effect_back q.effect)
    (sym (keyed_back p.annotations) ∙ ap (λ n. keyed_from (texts_at n)) e ∙ keyed_back q.annotations)
    (sym (constraint_back p.principal) ∙ ap (λ n. constraint_from (first_of (below_at n))) e ∙ constraint_back q.principal)
    (sym (action_back p.action) ∙ ap (λ n. action_from (first_of (later_of (below_at n)))) e ∙ action_back q.action)
    (sym (constraint_back p.resource) ∙ ap (λ n. constraint_from (first_of (later_of (later_of (below_at n))))) e ∙ constraint_back q.resource)
    (body_inj p.body q.body (ap (λ n. first_of (later_of (later_of (later_of (below_at n))))) e))

bindings_from : (b c : Bindings) → b.principal ≡ c.principal → b.resource ≡ c.resource → b ≡ c
bindings_from b c p r = λ i. record { principal = p i; resource = r i }

entry_inj : (a b : Entry) → entry_node a ≡ entry_node b → a ≡ b
entry_inj (static_policy s) (static_policy r) e = ap static_policy (policy_inj s r (ap (λ n. first_of (below_at n)) e))
entry_inj (template s) (template r) e = ap template (policy_inj s r (ap (λ n. first_of (below_at n)) e))
entry_inj (link t s b) (link u r c) e =
    let name : t ≡ u = ap (λ n. first_text (texts_at n)) e in
    let syntax : s ≡ r = policy_inj s r (ap (λ n. first_of (below_at n)) e) in
    let bindings : b ≡ c =
    bindings_from b c
    (sym (binding_back b.principal) ∙ ap (λ n. binding_from (first_of (later_of (below_at n)))) e ∙ binding_back c.principal)
    (sym (binding_back b.resource) ∙ ap (λ n. binding_from (first_of (later_of (later_of (below_at n))))) e ∙ binding_back c.resource)
    in λ i. link (name i) (syntax i) (bindings i)
entry_inj (static_policy s) (template r) e = absurd (kinds_differ _ _ (λ k. cc) e)
entry_inj (static_policy s) (link u r c) e = absurd (kinds_differ _ _ (λ k. cc) e)
entry_inj (template s) (static_policy r) e = absurd (kinds_differ _ _ (λ k. cc) e)
entry_inj (template s) (link u r c) e = absurd (kinds_differ _ _ (λ k. cc) e)
entry_inj (link t s b) (static_policy r) e = absurd (kinds_differ _ _ (λ k. cc) e)
entry_inj (link t s b) (template r) e = absurd (kinds_differ _ _ (λ k. cc) e)

is_tied : (o : Ordering) → is_eq o ≡ true → o ≡ Equal
is_tied Less h = absurd (cc)
is_tied Equal h = refl
is_tied Greater h = absurd (cc)

pub entries_decide : (a b : Entry) → Decides (same_entry a b) (a ≡ b)
entries_decide a b = (
  λ h. entry_inj a b (node_same _ _ (is_tied _ h)),
  λ e. ap (λ c. same_entry a c) (sym e) ∙ ap is_eq (tied_itself node_cmp_total (entry_node a)),
)

-- ---- an entry as a stored tree of numbers

abbrev gv_first : Gv → Gv
gv_first gnil = gnil
gv_first (gnum n) = gnil
gv_first (gcons a b) = a

abbrev gv_later : Gv → Gv
gv_later gnil = gnil
gv_later (gnum n) = gnil
gv_later (gcons a b) = b

abbrev IsPair : Gv → Type 0
IsPair gnil = ⊥
IsPair (gnum n) = ⊥
IsPair (gcons a b) = Unit {0}

mutual
  node_stored : (x y : Node) → node_gv x ≡ node_gv y → x ≡ y
  node_stored (node h ns) (node i ms) p =
      let a : h ≡ i = head_code.inj h i (ap gv_first p) in
      let b : ns ≡ ms = nodes_stored ns ms (ap gv_later p) in cc

  nodes_stored : (xs ys : Nodes) → nodes_gv xs ≡ nodes_gv ys → xs ≡ ys
  nodes_stored no_nodes no_nodes p = refl
  nodes_stored no_nodes (a_node m ms) p = absurd (subst IsPair (sym p) tt)
  nodes_stored (a_node n ns) no_nodes p = absurd (subst IsPair p tt)
  nodes_stored (a_node n ns) (a_node m ms) p =
      let a : n ≡ m = node_stored n m (ap gv_first p) in
      let b : ns ≡ ms = nodes_stored ns ms (ap gv_later p) in cc

pub entry_stored : (a b : Entry) → node_gv (entry_node a) ≡ node_gv (entry_node b) → a ≡ b
entry_stored a b p = entry_inj a b (node_stored (entry_node a) (entry_node b) p)

abbrev pub entry_code : Coded Entry
entry_code = record { code = λ e. node_gv (entry_node e); inj = entry_stored }

-- The order of marks, kind by kind.
use Rattle.std.proofs.Common.{◌≡◌, refl, sym, ap, ◌∙◌, ℕ, List, [], ◌∷◌, map, Global, BTreeMap}
use Rattle.std.specs.declared.cmp.Ordering.{Ordering}
use Rattle.std.specs.declared.cmp.Ordering.TheVariants.{Less, Equal, Greater}
use Rattle.std.specs.Ordering.{ordering_then, nat_cmp, int_cmp}
use Rattle.std.proofs.lemmas.Cmp.{nat_cmp_total, tied_itself}
use Rattle.std.specs.Cmp.Lexicographic.{slice_cmp}
use Rattle.std.specs.Cmp.Derive.Mapped.{lex_map}
use Rattle.std.specs.declared.rc.RcStr.{RcStr}
use Rattle.std.specs.FinMap.{nat_cmp-IsAntisymmetric}
use Rattle.std.specs.Prelude.{pos}
use Rattle.std.specs.Rc.{rc_str_bytes}
use Rattle.std.specs.declared.rc.Rc.{Rc}
use Rattle.std.specs.List.{flat_map}
use Rattle.std.specs.Hash as fed
use Rattle.cedar_language.specs.Tree.{PatternElem, Like, MakeRecord}
use Rattle.cedar_language.specs.Order.{Head, head, Node, node, no_nodes, nodes_cmp, node_cmp, text_cmp, name_cmp, head_cmp}
use Rattle.cedar_literals.specs.Patterns.{elem_cmp, elem_head, pattern_cmp}
use Rattle.cedar_grammar.specs.Build.{keys}
use Rattle.cedar_trees.specs.Bare.{bare_kind, bare_entries}
use Rattle.cedar_trees.specs.declared.expr.Expr.{Expr}
use Rattle.cedar_trees.specs.declared.expr.ExprKind.{ExprKind}
use Rattle.cedar_trees.specs.declared.expr.ExprKind.TheVariants as kind
use Rattle.cedar_trees.proofs.Bares.{bare-Like, bare-Record}
use Rattle.cedar_shapes.specs.ShapeHash.{held_hash}
use Rattle.cedar_shapes.specs.ShapeOrder.{mark, operator_mark, elem_nodes, kind_at, kind_number}
use Rattle.cedar_shapes.specs.HeldNodes.{held_node, as_kind, sort_of_kind}
use Rattle.cedar_shapes.specs.declared.marks.Held.{Held}
use Rattle.cedar_shapes.specs.declared.marks.Held.TheVariants as held

pub then_equal : (o : Ordering) → ordering_then o Equal ≡ o
then_equal Less = refl
then_equal Equal = refl
then_equal Greater = refl

pub elems_cmp : (ps qs : List PatternElem) → nodes_cmp (elem_nodes ps) (elem_nodes qs) ≡ pattern_cmp ps qs
elems_cmp [] [] = refl
elems_cmp [] (q ∷ qs) = refl
elems_cmp (p ∷ ps) [] = refl
elems_cmp (p ∷ ps) (q ∷ qs) =
    ap (λ o. ordering_then o (nodes_cmp (elem_nodes ps) (elem_nodes qs))) (then_equal (head_cmp (elem_head p) (elem_head q)))
    ∙ ap (ordering_then (elem_cmp p q)) (elems_cmp ps qs)

pub texts_cmp : (xs ys : List (RcStr Global)) → slice_cmp text_cmp (map rc_str_bytes xs) (map rc_str_bytes ys) ≡ slice_cmp (λ a b. text_cmp (rc_str_bytes a) (rc_str_bytes b)) xs ys
texts_cmp xs ys = lex_map rc_str_bytes text_cmp xs ys

-- ---- marks of the kinds that hold lists

marks_cmp : {m n x y : Node} → m ≡ x → n ≡ y → node_cmp m n ≡ node_cmp x y
marks_cmp h i = λ j. node_cmp (h j) (i j)

module _ (T : Type 0) where
  pub mark-Like : (k : ExprKind T) (e : Rc (Expr T) Global) (p : List PatternElem) → k ≡ kind.Like e p → mark (bare_kind k) ≡ operator_mark (Like p)
  mark-Like k e p h = ap mark (ap bare_kind h ∙ bare-Like T e p)

  pub mark-Record : (k : ExprKind T) (m : Rc (BTreeMap (RcStr Global) (Expr T)) Global) → k ≡ kind.Record m → mark (bare_kind k) ≡ operator_mark (MakeRecord (keys (bare_entries m.value.entries)))
  mark-Record k m h = ap mark (ap bare_kind h ∙ bare-Record T m)

  pub held-Record : (k : ExprKind T) (m : Rc (BTreeMap (RcStr Global) (Expr T)) Global) → k ≡ kind.Record m → held_hash (bare_kind k) ≡ flat_map fed.str (keys (bare_entries m.value.entries))
  held-Record k m h = ap held_hash (ap bare_kind h ∙ bare-Record T m)

abbrev head_rest : Head → Head → Ordering
head_rest h i = ordering_then (int_cmp h.number i.number) (ordering_then (slice_cmp name_cmp h.names i.names) (slice_cmp text_cmp h.texts i.texts))

-- ---- by kind, and then by what is held

-- an order that isn't equal decides
pub stops : (o r : Ordering) → (o ≡ Equal → ⊥) → ordering_then o r ≡ o
stops Less r h = refl
stops Equal r h = absurd (h refl)
stops Greater r h = refl

pub by_kinds : (m n : Node) → (nat_cmp (kind_at m) (kind_at n) ≡ Equal → ⊥) → node_cmp m n ≡ nat_cmp (kind_at m) (kind_at n)
by_kinds (node h ns) (node i ms) d = rw (stops (nat_cmp h.kind i.kind) (head_rest h i) d) (stops (nat_cmp h.kind i.kind) (nodes_cmp ns ms) d)

same_number : (k : ℕ) → nat_cmp k k ≡ Equal
same_number k = tied_itself nat_cmp_total k

as_kinds : (k : ℕ) (m n : Node) → node_cmp (as_kind k m) (as_kind k n) ≡ node_cmp (as_kind 0 m) (as_kind 0 n)
as_kinds k (node h ns) (node i ms) = ap (λ o. ordering_then (ordering_then o (head_rest h i)) (nodes_cmp ns ms)) (same_number k)

module _ {T : Type 0} where
  as_it_is : (x : Held T) → as_kind 0 (held_node x) ≡ held_node x
  as_it_is held.Nothing = refl
  as_it_is (held.Literal l) = refl
  as_it_is (held.Number n) = refl
  as_it_is (held.Unknown u) = refl
  as_it_is (held.Name n) = refl
  as_it_is (held.Text s) = refl
  as_it_is (held.Path p) = refl
  as_it_is (held.Pattern p) = refl
  as_it_is (held.Keys m) = refl

-- marks of one kind go by what is held
pub held_decides : {T U : Type 0} (x : Held T) (y : Held U) (k : ℕ) (m n : Node) → as_kind k (held_node x) ≡ m → as_kind k (held_node y) ≡ n → node_cmp m n ≡ node_cmp (held_node x) (held_node y)
held_decides x y k m n h i = marks_cmp (sym h) (sym i) ∙ as_kinds k (held_node x) (held_node y) ∙ marks_cmp (as_it_is x) (as_it_is y)

-- how the kinds of two nodes stand decides, unless they are one
module _ (m n : Node) where
  pub kinds_less : nat_cmp (kind_at m) (kind_at n) ≡ Less → Less ≡ node_cmp m n
  kinds_less h = sym (by_kinds m n (λ e. cc) ∙ h)

  pub kinds_greater : nat_cmp (kind_at m) (kind_at n) ≡ Greater → Greater ≡ node_cmp m n
  kinds_greater h = sym (by_kinds m n (λ e. cc) ∙ h)

  module _ (same : nat_cmp (kind_at m) (kind_at n) ≡ Equal) where
    one_kind : kind_at m ≡ kind_at n
    one_kind = nat_cmp-IsAntisymmetric (kind_at m) (kind_at n) same

    pub one_sort : (j k : ℕ) → j ≡ sort_of_kind (kind_at m) → k ≡ sort_of_kind (kind_at n) → j ≡ k
    one_sort j k h i = h ∙ ap sort_of_kind one_kind ∙ sym i

    pub what_is_held : {T U : Type 0} (x : Held T) (y : Held U) → as_kind (kind_at m) (held_node x) ≡ m → as_kind (kind_at n) (held_node y) ≡ n → node_cmp (held_node x) (held_node y) ≡ node_cmp m n
    what_is_held x y h i = sym (held_decides x y (kind_at m) m n h (ap (λ k. as_kind k (held_node y)) one_kind ∙ i))

module _ (T : Type 0) where
  pub record_node : (k : ExprKind T) (m : Rc (BTreeMap (RcStr Global) (Expr T)) Global) → k ≡ kind.Record m → node (head (kind_number (bare_kind k)) (pos 0) [] (keys (bare_entries m.value.entries))) no_nodes ≡ mark (bare_kind k)
  record_node k m h = let e = mark-Record T k m h in ap (λ x. node (head (kind_at x) (pos 0) [] (keys (bare_entries m.value.entries))) no_nodes) e ∙ sym e

  pub record_sort : (k : ExprKind T) (m : Rc (BTreeMap (RcStr Global) (Expr T)) Global) → k ≡ kind.Record m → 8 ≡ sort_of_kind (kind_number (bare_kind k))
  record_sort k m h = sym (ap (λ x. sort_of_kind (kind_at x)) (mark-Record T k m h))

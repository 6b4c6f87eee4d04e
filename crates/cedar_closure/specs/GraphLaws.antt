-- Maps from keys to nodes are graphs.
use Rattle.std.specs.Prelude.{Bool, IsTrue, ◌≡◌, is_some}
use Rattle.std.specs.declared.cmp.Ordering.{Ordering}
use Rattle.std.specs.Cmp.{IsEquivalence, IsTotalOrder}
use Rattle.std.specs.Ordering.{is_eq, eq_by_cmp}
use Rattle.std.specs.Set.{is_member}
use Rattle.std.specs.HashMap as hash
use Rattle.std.specs.HashMap.Eq.{lookup_congr}
use Rattle.std.specs.BTreeMap as tree
use Rattle.std.proofs.Common.{sym, ap, ◌∙◌}
use Rattle.std.proofs.lemmas.Cmp.{eq_by_cmp_equiv}
use Rattle.std.proofs.lemmas.Map.Made.{is_some-lookup}

module _ {K V S : Type 0} {eq : K → K → Bool} where
  pub hash_alike : IsEquivalence eq → (m : hash.HashMap K V S) (a b : K) → IsTrue (eq a b) → hash.get eq m a ≡ hash.get eq m b
  hash_alike laws m a b e = lookup_congr eq laws.congr m.entries a b e

module _ {K V S : Type 0} (eq : K → K → Bool) where
  pub hash_has_node : (m : hash.HashMap K V S) (k : K) → is_member eq (hash.keys m) k ≡ is_some (hash.get eq m k)
  hash_has_node m k = sym (is_some-lookup (eq k) m.entries)

module _ {K V : Type 0} {eq : K → K → Bool} {cmp : K → K → Ordering} where
  pub tree_alike : IsTotalOrder cmp → ((x y : K) → eq x y ≡ is_eq (cmp x y)) → (m : tree.BTreeMap K V) (a b : K) → IsTrue (eq a b) → tree.get cmp m a ≡ tree.get cmp m b
  tree_alike total matches m a b e = lookup_congr (eq_by_cmp cmp) (eq_by_cmp_equiv total).congr m.entries a b (sym (matches a b) ∙ e)

module _ {K V : Type 0} {eq : K → K → Bool} (cmp : K → K → Ordering) (matches : (x y : K) → eq x y ≡ is_eq (cmp x y)) where
  pub tree_has_node : (m : tree.BTreeMap K V) (k : K) → is_member eq (tree.keys m) k ≡ is_some (tree.get cmp m k)
  tree_has_node m k = ap (λ test. is_member test (tree.keys m) k) (λ i x y. matches x y i) ∙ sym (is_some-lookup (eq_by_cmp cmp k) m.entries)

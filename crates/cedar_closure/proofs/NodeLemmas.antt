-- The edges of the nodes of a graph.
use Rattle.std.proofs.Common.{◌≡◌, Bool, true, false, List, [], ◌∷◌, ◌++◌, IsTrue, refl, sym, ap, ◌∙◌, inl, inr, true≢false}
use Rattle.std.specs.declared.option.Option.{Option}
use Rattle.std.specs.declared.option.Option.TheVariants.{None, Some}
use Rattle.std.specs.Option.{is_some, option_map_or}
use Rattle.std.specs.Cmp.{IsEquivalence}
use Rattle.std.specs.Set.{is_member}
use Rattle.std.proofs.lemmas.Bool.{or_cases}
use Rattle.std.proofs.lemmas.List.Folds.{list_any-append}
use Rattle.std.proofs.lemmas.Map.Steps.{list_any_congr}
use Rattle.cedar_closure.specs.Graph.{edges_at, HasEdge}
use Rattle.cedar_closure.proofs.Members.{or_more, or_else}

module _ {K : Type 0} (next : K → List K) where
  -- all keys to which edges lead from the keys
  abbrev pub all_targets : List K → List K
  all_targets [] = []
  all_targets (k ∷ ks) = next k ++ all_targets ks

  pub member-all_targets : (eq : K → K → Bool) → ((a b : K) → IsTrue (eq a b) → next a ≡ next b) → (ks : List K) (a q : K) → IsTrue (is_member eq ks a) → IsTrue (is_member eq (next a) q) → IsTrue (is_member eq (all_targets ks) q)
  member-all_targets eq same [] a q h e = absurd (true≢false (sym h))
  member-all_targets eq same (k ∷ ks) a q h e =
      list_any-append (eq q) (next k) (all_targets ks)
      ∙ elim (or_cases (eq a k) (is_member eq ks a) h) [
        | inl here ↦ or_more (is_member eq (next k) q) _ (ap (λ xs. is_member eq xs q) (sym (same a k here)) ∙ e)
        | inr there ↦ or_else (is_member eq (next k) q) _ (member-all_targets eq same ks a q there e)
      ]

module _ {K V : Type 0} (edges : V → List K) (found : K → Option V) where
  -- the edges of a key that was looked up
  pub edges_of_node : (k : K) (v : V) → Some v ≡ found k → edges_at edges found k ≡ edges v
  edges_of_node k v h = ap (λ o. option_map_or edges o []) (sym h)

  module _ (eq : K → K → Bool) where
    pub no_edge_from : (k b : K) → None ≡ found k → HasEdge eq edges found k b → ⊥
    no_edge_from k b h e = let f : true ≡ false = sym e ∙ ap (λ o. is_member eq (option_map_or edges o []) b) (sym h) in absurd (true≢false f)

    -- where an edge begins there is a node
    pub edge_from_node : (a b : K) → HasEdge eq edges found a b → IsTrue (is_some (found a))
    edge_from_node a b h = elim (found a) as (λ o. IsTrue (is_member eq (option_map_or edges o []) b) → IsTrue (is_some o)) [ None ↦ λ k. k | Some v ↦ λ k. refl ] h

    pub edge_to_alike : IsEquivalence eq → (a b q : K) → IsTrue (eq b q) → HasEdge eq edges found a b → HasEdge eq edges found a q
    edge_to_alike laws a b q e h = sym (list_any_congr laws b q (edges_at edges found a) e) ∙ h

    -- keys that are equal have one node
    module _ (alike : (a b : K) → IsTrue (eq a b) → found a ≡ found b) where
      pub edges_alike : (a b : K) → IsTrue (eq a b) → edges_at edges found a ≡ edges_at edges found b
      edges_alike a b e = ap (λ o. option_map_or edges o []) (alike a b e)

      pub edge_alike : (a b q : K) → IsTrue (eq a b) → HasEdge eq edges found a q → HasEdge eq edges found b q
      edge_alike a b q e h = ap (λ xs. is_member eq xs q) (sym (edges_alike a b e)) ∙ h

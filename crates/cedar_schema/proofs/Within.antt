-- A test of each edge tells that all lead to numbers.
use Rattle.std.proofs.Common.{◌≡◌, ◌⊎◌, inl, inr, ℕ, ◌<◌, Bool, true, false, List, [], length, refl, sym, ap, ◌∙◌, subst, true≢false}
use Rattle.std.specs.List.{list_all}
use Rattle.std.specs.Global.{Vec}
use Rattle.std.specs.Option.{option_map_or}
use Rattle.std.proofs.Math.Dec.{ltb}
use Rattle.std.proofs.Math.ListN.{get_or}
use Rattle.std.proofs.lemmas.Bool.{cases_Bool, ltb-true}
use Rattle.std.proofs.lemmas.List.Folds.{list_all_at}
use Rattle.std.proofs.lemmas.Option.{slice_get_cases}
use Rattle.cedar_schema.specs.Orders.{targets_of, StandsIn, HasTarget, AreWithin}

passes_at : {X : Type 0} (p : X → Bool) (xs : List X) (i : ℕ) (d : X) → i < length xs → list_all p xs ≡ true → p (get_or xs i d) ≡ true
passes_at p xs i d low all = elim (cases_Bool (p (get_or xs i d))) [
  | inl passes ↦ passes
  | inr fails ↦ absurd (true≢false (sym all ∙ list_all_at p xs i d low fails))
]

leads_below : (count b : ℕ) (ts : List ℕ) → list_all (λ t. ltb t count) ts ≡ true → StandsIn ts b → b < count
leads_below count b ts all at = subst (λ t. t < count) at.2 (ltb-true _ _ (passes_at (λ t. ltb t count) ts at.0 0 at.1 all))

pub within : (edges : List (Vec ℕ)) → list_all (λ row. list_all (λ t. ltb t (length edges)) row.items) edges ≡ true → AreWithin edges
within edges all a b leads = elim ((slice_get_cases edges a).1) [
  | inl row ↦
      let below : list_all (λ t. ltb t (length edges)) (get_or edges a row.0).items ≡ true
      = passes_at (λ r. list_all (λ t. ltb t (length edges)) r.items) edges a row.0 row.1 all in
      let same : targets_of edges a ≡ (get_or edges a row.0).items
      = ap (λ o. option_map_or (λ r. r.items) o []) row.2 ∙ ap (λ r. r.items) (sym row.3) in
      leads_below (length edges) b _ below (subst (λ ts. StandsIn ts b) same leads)
  | inr past ↦ leads_below (length edges) b [] refl (subst (λ o. StandsIn (option_map_or (λ r. r.items) o []) b) past.1 leads)
]

pub within_if : (passes : Bool) (edges : List (Vec ℕ))
    → passes ≡ list_all (λ row. list_all (λ t. ltb t (length edges)) row.items) edges → passes ≡ true → AreWithin edges
within_if passes edges is passed = within edges (sym is ∙ passed)

-- Whether edges lead from one thing to another.
use Rattle.std.specs.Prelude.{◌≡◌, ◌⊎◌, Bool, true, false, List, [], ◌∷◌}

-- one edge leads from x to y, or several do through these alone
abbrev pub leads_through : {K : Type 0} → (K → K → Bool) → List K → K → K → Bool
leads_through leads [] x y = leads x y
leads_through leads (k ∷ ks) x y =
    elim (leads_through leads ks x y) as (λ _. Bool) [
      | true ↦ true
      | false ↦ elim (leads_through leads ks x k) as (λ _. Bool) [ true ↦ leads_through leads ks k y | false ↦ false ]
    ]

abbrev pub IsAmong : {K : Type 0} → K → List K → Type 0
IsAmong x [] = ⊥
IsAmong x (k ∷ ks) = (x ≡ k) ⊎ IsAmong x ks

-- edges lead from these alone
abbrev pub LeadsFrom : {K : Type 0} → (K → K → Bool) → List K → Type 0
LeadsFrom {K} leads ks = (x y : K) → leads x y ≡ true → IsAmong x ks

-- the edges as a relation
abbrev pub Edge : {K : Type 0} → (K → K → Bool) → K → K → Type 0
Edge leads x y = leads x y ≡ true

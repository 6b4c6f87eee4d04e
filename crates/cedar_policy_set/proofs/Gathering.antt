-- Places that are gathered: those that were among them stay, and each list that is met comes to them.
use Rattle.std.proofs.Common.{◌≡◌, ◌⊎◌, inl, inr, ℕ, Bool, true, false, ◌||◌, cond, List, [], ◌∷◌, ◌++◌, Some, Vec, Global, refl, sym, ◌∙◌, ap, true≢false}
use Rattle.std.specs.Prelude.{nat_eq}
use Rattle.std.specs.List.{list_any}
use Rattle.std.specs.Map.{lookup, values_of}
use Rattle.std.specs.Option.{option_map_or}
use Rattle.std.proofs.lemmas.Bool.{or_left, or_right}
use Rattle.std.proofs.lemmas.List.Folds.{list_any-append}
use Rattle.cedar_policy_set.specs.ScopeFinding.{is_listed, AreAmong}

pub among_first : (ps qs : List ℕ) → AreAmong ps (ps ++ qs)
among_first ps qs p h = list_any-append (nat_eq p) ps qs ∙ or_left (is_listed ps p) (is_listed qs p) h

pub among_second : (ps qs : List ℕ) → AreAmong qs (ps ++ qs)
among_second ps qs p h = list_any-append (nat_eq p) ps qs ∙ or_right (is_listed ps p) (is_listed qs p) h

-- ---- a walk over lists

-- whether one of these lists has a place
abbrev pub has_place : List (Vec ℕ Global) → ℕ → Bool
has_place vs p = list_any (λ v. is_listed v.items p) vs

-- each place of all lists waits in the walk, or is among those that were found
abbrev pub AreWalked : List (Vec ℕ Global) → List (Vec ℕ Global) → List ℕ → Type 0
AreWalked all left ps = (p : ℕ) → has_place all p ≡ true → (has_place left p ≡ true) ⊎ (is_listed ps p ≡ true)

pub walked_more : (all left : List (Vec ℕ Global)) (v : Vec ℕ Global) (ps : List ℕ) → AreWalked all (v ∷ left) ps → AreWalked all left (ps ++ v.items)
walked_more all left v ps walked p h = by_turn (is_listed v.items p) refl (walked p h)
  where
    by_turn : (b : Bool) → is_listed v.items p ≡ b → ((is_listed v.items p || has_place left p) ≡ true) ⊎ (is_listed ps p ≡ true) → (has_place left p ≡ true) ⊎ (is_listed (ps ++ v.items) p ≡ true)
    by_turn true e waits = inr (among_second ps v.items p e)
    by_turn false e (inl waits) = inl (ap (λ b. b || has_place left p) (sym e) ∙ waits)
    by_turn false e (inr among) = inr (among_first ps v.items p among)

-- what is found under a key is in one of the lists
listed_within : {K : Type 0} (test : K → Bool) (es : List (K × Vec ℕ Global)) (p : ℕ) → is_listed (option_map_or (λ v. v.items) (lookup test es) []) p ≡ true → has_place (values_of es) p ≡ true
listed_within test [] p h = h
listed_within test (e ∷ es) p h = by_key (test e.0) (listed_within test es p) h
  where
    by_key : (b : Bool) → (is_listed (option_map_or (λ v. v.items) (lookup test es) []) p ≡ true → has_place (values_of es) p ≡ true) → is_listed (option_map_or (λ v. v.items) (cond b (Some e.1) (lookup test es)) []) p ≡ true → (is_listed e.1.items p || has_place (values_of es) p) ≡ true
    by_key true rest k = or_left (is_listed e.1.items p) (has_place (values_of es) p) k
    by_key false rest k = or_right (is_listed e.1.items p) (has_place (values_of es) p) (rest k)

-- behind the walk all of them were found
pub all_walked : {K : Type 0} (test : K → Bool) (es : List (K × Vec ℕ Global)) (ps : List ℕ) → AreWalked (values_of es) [] ps → AreAmong (option_map_or (λ v. v.items) (lookup test es) []) ps
all_walked test es ps walked p h = none_waits (walked p (listed_within test es p h))
  where
    none_waits : (false ≡ true) ⊎ (is_listed ps p ≡ true) → is_listed ps p ≡ true
    none_waits (inl h) = absurd (true≢false (sym h))
    none_waits (inr found) = found

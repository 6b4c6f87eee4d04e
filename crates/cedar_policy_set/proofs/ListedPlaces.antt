-- What stands under an entity once one more position is listed.
use Rattle.std.proofs.Common.{◌≡◌, ◌≢◌, ℕ, suc, Bool, true, false, cond, List, [], ◌∷◌, ◌++◌, length, refl, sym, ap, subst, ◌∙◌, Option, Some, Result, Ok, Err, OnOk, OnErr, Vec, Global, unwrap_or, arith}
use Rattle.std.specs.BTreeMap.{BTreeMap, get, is_at}
use Rattle.std.specs.Map.{lookup}
use Rattle.std.specs.Option.{option_map_or}
use Rattle.std.specs.Prelude.{is_ok, if◌then◌else◌}
use Rattle.std.specs.Cmp.Lexicographic.{texts_ties, bytes_decides}
use Rattle.cedar_language.specs.Uid.{Text, Uid}
use Rattle.cedar_language.specs.Order.{same_text, text_cmp}
use Rattle.cedar_policy_set.specs.ScopeLists.{ListsSome}

-- what stands, stands after an error
pub on_err : {A E P : Type 0} (r : Result A E) → P → OnErr r P
on_err (Ok a) p = tt
on_err (Err e) p = p

-- ids that are the same have the same
pub alike_there : {V : Type 0} (m : BTreeMap Text V) (id t : Text) → same_text id t ≡ true → get text_cmp m id ≡ get text_cmp m t
alike_there m id t same = ap (get text_cmp m) ((bytes_decides id t).0 same)

-- the order tells which ids are the same
pub at_same : (id t : Text) → is_at (text_cmp id) t ≡ same_text id t
at_same id t = sym (texts_ties id t)

pub put_at : {V : Type 0} (new : Option V) (w : V) (old : Option V) (id t : Text) → new ≡ cond (is_at (text_cmp id) t) (Some w) old → new ≡ cond (same_text id t) (Some w) old
put_at new w old id t is = is ∙ ap (λ b. cond b (Some w) old) (at_same id t)

-- where a list that isn't empty is put, none is empty
pub still_some : (old new : Text → Option (Vec ℕ Global)) (w : Vec ℕ Global) (id : Text) → ListsSome old → w.items ≢ [] → ((t : Text) → new t ≡ cond (is_at (text_cmp id) t) (Some w) (old t)) → ListsSome new
still_some old new w id some full put t ps found = by (is_at (text_cmp id) t) (sym (put t) ∙ found)
  where
    by : (b : Bool) → cond b (Some w) (old t) ≡ Some ps → ps.items ≢ []
    by true e = subst (λ v. v.items ≢ []) (ap (λ o. unwrap_or o w) e) full
    by false e = some t ps e

-- one that something was listed in isn't empty
pub listed_full : (ps : List ℕ) (p : ℕ) → ps ++ p ∷ [] ≢ []
listed_full [] p e = let none : 1 ≡ 0 = ap length e in absurd (omega (arith, none))
listed_full (q ∷ qs) p e = let none : suc (length (qs ++ p ∷ [])) ≡ 0 = ap length e in absurd (omega (arith, none))

-- also where no more was listed in it
pub still_full : {E : Type 0} (r : Result (Unit {0}) E) (old new : List ℕ) (p : ℕ) → new ≡ (if is_ok r then old ++ p ∷ [] else old) → old ≢ [] → new ≢ []
still_full (Ok a) old new p is full = subst (λ ps. ps ≢ []) (sym is) (listed_full old p)
still_full (Err e) old new p is full = subst (λ ps. ps ≢ []) (sym is) full

-- what follows either way follows
pub either_way : {A E : Type 0} {P Q X : Type 0} (r : Result A E) → OnOk r P → OnErr r Q → (P → X) → (Q → X) → X
either_way (Ok a) p q f g = f p
either_way (Err e) p q f g = g q

-- a map with the same entries has no other lists
pub same_some : (old new : BTreeMap Text (Vec ℕ Global)) → ListsSome (get text_cmp old) → new.entries ≡ old.entries → ListsSome (get text_cmp new)
same_some old new some same t ps found = some t ps (sym (ap (λ es. lookup (is_at (text_cmp t)) es) same) ∙ found)

-- what is said of one id is said of the same one
pub said_of : {V : Type 0} (items : V → List ℕ) (old new : Text → Option V) (id named : Text) (p : ℕ) → id ≡ named
    → ((t : Text) → option_map_or items (new t) [] ≡ cond (same_text id t) (option_map_or items (old t) [] ++ p ∷ []) (option_map_or items (old t) []))
    → (u : Uid) → option_map_or items (new u.id) [] ≡ cond (same_text named u.id) (option_map_or items (old u.id) [] ++ p ∷ []) (option_map_or items (old u.id) [])
said_of items old new id named p same said u = said u.id ∙ ap (λ k. cond (same_text k u.id) (option_map_or items (old u.id) [] ++ p ∷ []) (option_map_or items (old u.id) [])) same

module _ {V : Type 0} (items : V → List ℕ) where
  module _ (old new : Text → Option V) (id : Text) (v w : V) (p : ℕ) (put : (t : Text) → new t ≡ cond (same_text id t) (Some w) (old t)) where
    -- behind those that are there
    pub listed_behind : ((t : Text) → same_text id t ≡ true → old t ≡ Some v) → items w ≡ items v ++ p ∷ [] → (t : Text)
        → option_map_or items (new t) [] ≡ cond (same_text id t) (option_map_or items (old t) [] ++ p ∷ []) (option_map_or items (old t) [])
    listed_behind there is t = ap (λ o. option_map_or items o []) (put t) ∙ by (same_text id t) refl
      where
        by : (c : Bool) → same_text id t ≡ c → option_map_or items (cond c (Some w) (old t)) [] ≡ cond c (option_map_or items (old t) [] ++ p ∷ []) (option_map_or items (old t) [])
        by true s = is ∙ sym (ap (λ o. option_map_or items o [] ++ p ∷ []) (there t s))
        by false s = refl

    -- alone, where there are none
    pub listed_first : ((t : Text) → same_text id t ≡ true → option_map_or items (old t) [] ≡ []) → items w ≡ p ∷ [] → (t : Text)
        → option_map_or items (new t) [] ≡ cond (same_text id t) (option_map_or items (old t) [] ++ p ∷ []) (option_map_or items (old t) [])
    listed_first none is t = ap (λ o. option_map_or items o []) (put t) ∙ by (same_text id t) refl
      where
        by : (c : Bool) → same_text id t ≡ c → option_map_or items (cond c (Some w) (old t)) [] ≡ cond c (option_map_or items (old t) [] ++ p ∷ []) (option_map_or items (old t) [])
        by true s = is ∙ sym (ap (λ ps. ps ++ p ∷ []) (none t s))
        by false s = refl

    -- nothing is listed
    pub listed_none : ((t : Text) → same_text id t ≡ true → old t ≡ Some v) → items w ≡ items v → (t : Text) → option_map_or items (new t) [] ≡ option_map_or items (old t) []
    listed_none there is t = ap (λ o. option_map_or items o []) (put t) ∙ by (same_text id t) refl
      where
        by : (c : Bool) → same_text id t ≡ c → option_map_or items (cond c (Some w) (old t)) [] ≡ option_map_or items (old t) []
        by true s = is ∙ sym (ap (λ o. option_map_or items o []) (there t s))
        by false s = refl

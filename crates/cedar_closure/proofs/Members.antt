-- Lists of keys as sets.
use Rattle.std.proofs.Common.{◌≡◌, Bool, true, false, ◌||◌, List, [], ◌∷◌, ◌++◌, IsTrue, refl, sym, ap, ◌∙◌, ℕ, zero, suc, ◌<◌, length, slice_get, Option, Some, None, arith, subst}
use Rattle.std.specs.Cmp.{IsEquivalence}
use Rattle.std.specs.Option.{IfSome, IfNone}
use Rattle.std.specs.Set.{is_member, IsUnion}
use Rattle.std.specs.List.{list_any}
use Rattle.std.proofs.lemmas.List.Folds.{list_any-append}
use Rattle.std.proofs.lemmas.Map.Steps.{list_any_congr}
use Rattle.cedar_closure.specs.Graph.{SameKeys}

pub or_none : (a : Bool) → (a || false) ≡ a
or_none true = refl
or_none false = refl

pub or_more : (a b : Bool) → a ≡ true → (a || b) ≡ true
or_more a b e = ap (λ c. c || b) e

pub or_else : (a b : Bool) → b ≡ true → (a || b) ≡ true
or_else true b e = refl
or_else false b e = e

-- an element that passes the test stands in the list
pub list_any-at : {X : Type 0} (p : X → Bool) (xs : List X) (i : ℕ) (x : X) → slice_get xs i ≡ Some x → p x ≡ true → list_any p xs ≡ true
list_any-at p [] i x e h = cc
list_any-at p (y ∷ xs) zero x e h = let same : y ≡ x = cc in or_more (p y) _ (ap p same ∙ h)
list_any-at p (y ∷ xs) (suc i) x e h = or_else (p y) _ (list_any-at p xs i x e h)

module _ {K : Type 0} {eq : K → K → Bool} (laws : IsEquivalence eq) where
  -- the key at an index is a member
  pub member_at : (xs : List K) (i : ℕ) (x : K) → slice_get xs i ≡ Some x → IsTrue (is_member eq xs x)
  member_at xs i x e = list_any-at (eq x) xs i x e (laws.refl x)

  -- and a member stands at an index, up to equality
  pub member_index : (xs : List K) (q : K) → IsTrue (is_member eq xs q) → (i : ℕ) × (x : K) × (slice_get xs i ≡ Some x) × IsTrue (eq q x)
  member_index [] q h = cc
  member_index (y ∷ xs) q h =
      elim (eq q y) as (λ b. eq q y ≡ b → (i : ℕ) × (x : K) × (slice_get (y ∷ xs) i ≡ Some x) × IsTrue (eq q x)) [
        | true ↦ λ e. (0, y, refl, e)
        | false ↦ λ e. let r = member_index xs q (sym (ap (λ b. b || is_member eq xs q) e) ∙ h) in (suc r.0, r.1, r.2, r.3)
      ] refl

  -- a key that is equal to a member is one
  pub member_alike : (xs : List K) (x k : K) → IsTrue (eq x k) → is_member eq xs x ≡ is_member eq xs k
  member_alike xs x k e = list_any_congr laws x k xs e

  -- what is in one list and not in another
  pub missing_alike : (xs ys : List K) (x k : K) → IsTrue (eq x k) → IsTrue (is_member eq xs x) → false ≡ is_member eq ys x → IsTrue (is_member eq xs k) × (is_member eq ys k ≡ false)
  missing_alike xs ys x k e inside outside = (sym (member_alike xs x k e) ∙ inside, sym (outside ∙ member_alike ys x k e))

  -- the two sides of `==` may change places
  pub member_turned : (xs : List K) (k : K) → list_any (λ y. eq y k) xs ≡ is_member eq xs k
  member_turned [] k = refl
  member_turned (x ∷ xs) k = ap (λ b. b || list_any (λ y. eq y k) xs) (laws.symm x k) ∙ ap (λ b. eq k x || b) (member_turned xs k)

  -- where nothing is left, all were put behind
  pub union_is : (old new rest xs : List K) → rest ≡ [] → SameKeys eq (old ++ xs) (new ++ rest) → IsUnion eq old xs new
  union_is old new rest xs none same q =
      sym (or_none (is_member eq new q)) ∙ ap (λ ys. is_member eq new q || is_member eq ys q) (sym none)
      ∙ sym (list_any-append (eq q) new rest) ∙ same q ∙ list_any-append (eq q) old xs

-- the front stays where keys go behind
pub slice_get-front : {K : Type 0} (xs ys : List K) (i : ℕ) → i < length xs → slice_get (xs ++ ys) i ≡ slice_get xs i
slice_get-front [] ys i h = absurd (omega arith)
slice_get-front (x ∷ xs) ys zero h = refl
slice_get-front (x ∷ xs) ys (suc i) h = slice_get-front xs ys i (omega arith)

-- what holds at an option's case
pub some_then : {X : Type 0} (o : Option X) (P : X → Type 0) (x : X) → o ≡ Some x → IfSome o P → P x
some_then o P x e h = subst (λ r. IfSome r P) e h

pub none_then : {X : Type 0} (o : Option X) (P : Type 0) → o ≡ None → IfNone o P → P
none_then o P e h = subst (λ r. IfNone r P) e h

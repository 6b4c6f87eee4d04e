-- Looking at the sources of the keys that were found one by one finds all that lead to one of the first.
use Rattle.std.proofs.Common.{◌≡◌, Bool, true, false, cond, ◌||◌, List, [], ◌∷◌, ◌++◌, IsTrue, refl, sym, ap, subst, ◌∙◌, inl, inr, ℕ, zero, suc, ◌<◌, ◌≤◌, ◌+◌, length, map, slice_get, Some, Bor, arith, below_more, true≢false}
use Rattle.std.specs.Cmp.{IsEquivalence}
use Rattle.std.specs.declared.cmp.Ordering.{Ordering}
use Rattle.std.specs.Ordering.{is_eq}
use Rattle.std.specs.BTreeMap.{is_at}
use Rattle.std.specs.BTreeSet.{BTreeSet, contains}
use Rattle.std.specs.List.{IsDistinct, list_any}
use Rattle.std.specs.Set.{is_member, IsUnion}
use Rattle.std.specs.Map.Iter.{deref}
use Rattle.std.proofs.lemmas.Bool.{or_cases}
use Rattle.std.proofs.lemmas.List.{map-append}
use Rattle.std.proofs.lemmas.List.Folds.{list_any-append}
use Rattle.std.proofs.lemmas.Map.Keys.{IsDistinct-push}
use Rattle.std.proofs.lemmas.Map.Made.{IsDistinct-from_count, length-from_keys}
use Rattle.std.proofs.lemmas.Option.{slice_get_within}
use Rattle.cedar_language.specs.Facts.{edge, further}
use Rattle.cedar_closure.specs.Sources.{LeadsToOne, is_target, reaches, IsSeen, Finds}
use Rattle.cedar_closure.proofs.Members.{or_more, or_else, or_none, member_at, member_index, member_alike, slice_get-front}
use Rattle.cedar_closure.proofs.NumberSets.{behind_then}
use Rattle.cedar_closure.proofs.Numbered.{nothing_behind}
use Rattle.cedar_closure.proofs.Turned.{put_true}

-- given keys come behind what was found, all of them but those that are left
pub record FindsBut {K : Type 0} (eq : K → K → Bool) (given : K → Bool) (rest old new : List K) : Type 0 where
  pub behind : (more : List K) × (new ≡ old ++ more)
  pub only : (q : K) → IsTrue (is_member eq new q) → IsTrue (is_member eq old q || given q)
  pub left : (q : K) → IsTrue (is_member eq rest q) → IsTrue (given q)
  pub but : (q : K) → IsTrue (given q) → IsTrue (is_member eq new q || is_member eq rest q)

module _ {K : Type 0} {eq : K → K → Bool} {given : K → Bool} where
  -- one key more is found, and one less is left
  pub finds_on : (rest left old mid new : List K) (key : K) → rest ≡ key ∷ left → IsUnion eq mid (key ∷ []) new → ((more : List K) × (new ≡ mid ++ more)) → FindsBut eq given rest old mid → FindsBut eq given left old new
  finds_on rest left old mid new key is union behind f =
      let first : (q : K) → is_member eq rest q ≡ (eq q key || is_member eq left q) = λ q. ap (λ ks. is_member eq ks q) is in
      record {
        behind = behind_then old mid new f.behind behind;
        only = λ q h. elim (or_cases (is_member eq mid q) (eq q key || false) (sym (union q) ∙ h)) [
          | inl k ↦ f.only q k
          | inr k ↦ or_else (is_member eq old q) _ (f.left q (first q ∙ or_more _ _ (sym (or_none (eq q key)) ∙ k)))
        ];
        left = λ q h. f.left q (first q ∙ or_else (eq q key) _ h);
        but = λ q h. elim (or_cases (is_member eq mid q) (is_member eq rest q) (f.but q h)) [
          | inl k ↦ or_more _ _ (union q ∙ or_more _ _ k)
          | inr k ↦ elim (or_cases (eq q key) (is_member eq left q) (sym (first q) ∙ k)) [
            | inl e ↦ or_more _ _ (union q ∙ or_else (is_member eq mid q) _ (or_more _ _ e))
            | inr l ↦ or_else (is_member eq new q) _ l
          ]
        ];
      }

  -- the same keys are given in other words
  pub finds_same : {other : K → Bool} (most : ℕ) (old new : List K) → ((q : K) → given q ≡ other q) → Finds eq most given old new → Finds eq most other old new
  finds_same most old new same f = record {
    more = f.more;
    behind = f.behind;
    only = λ q h. ap (λ b. is_member eq old q || b) (sym (same q)) ∙ f.only q h;
    all = λ h q k. f.all h q (same q ∙ k);
  }

  -- none is given
  pub finds_none : (most : ℕ) (old : List K) → ((q : K) → given q ≡ false) → Finds eq most given old old
  finds_none most old none = record {
    more = (nothing_behind old).0;
    behind = (nothing_behind old).1;
    only = λ q h. or_more _ _ h;
    all = λ h q k. absurd (true≢false (sym k ∙ none q));
  }

-- what stands at an index
pub at_within : {K : Type 0} (xs : List K) (i : ℕ) → i < length xs → (x : K) × (slice_get xs i ≡ Some x)
at_within [] i h = absurd (omega arith)
at_within (x ∷ xs) zero h = (x, refl)
at_within (x ∷ xs) (suc i) h = at_within xs i (omega arith)

-- and what the reference there points to
now_at : {K : Type 0} (xs : List (Bor K)) (i : ℕ) (x : Bor K) → slice_get xs i ≡ Some x → slice_get (map deref xs) i ≡ Some x.now
now_at [] i x e = cc
now_at {K} (y ∷ xs) zero x e = let same : y ≡ x = cc in ap (λ (z : Bor K). Some z.now) same
now_at (y ∷ xs) (suc i) x e = now_at xs i x e

pub now_is : {K : Type 0} (xs : List (Bor K)) (i : ℕ) (x : Bor K) (t : K) → slice_get xs i ≡ Some x → slice_get (map deref xs) i ≡ Some t → x.now ≡ t
now_is xs i x t at here = let is : Some x.now ≡ Some t = sym (now_at xs i x at) ∙ here in cc

-- nothing was found and seen
pub seen_begins : {K : Type 0} (eq : K → K → Bool) (cmp : K → K → Ordering) (found : List K) (seen : BTreeSet (Bor K)) → found ≡ [] → seen.keys ≡ [] → IsSeen eq cmp found seen
unfolding IsDistinct
seen_begins {K} eq cmp found seen none empty = record {
  distinct = subst (IsDistinct eq) (sym none) tt;
  same = λ q. ap (λ ks. list_any (is_at (λ (y : Bor K). cmp q.now y.now)) ks) empty ∙ sym (ap (λ ks. is_member eq ks q.now) none);
}

-- one more reference
pub pushed_now : {K : Type 0} (old new : List (Bor K)) (key : Bor K) → new ≡ old ++ key ∷ [] → map deref new ≡ map deref old ++ key.now ∷ []
pushed_now old new key pushed = ap (map deref) pushed ∙ map-append deref old (key ∷ [])

module _ {K : Type 0} {eq : K → K → Bool} {cmp : K → K → Ordering} (laws : IsEquivalence eq) (ties : (x y : K) → eq x y ≡ is_eq (cmp x y)) where
  -- a key that wasn't seen is found and seen
  pub seen_on : (old new : List K) (seen after : BTreeSet (Bor K)) (key : Bor K) → contains (λ (x y : Bor K). cmp x.now y.now) seen key ≡ false
      → ((q : Bor K) → contains (λ (x y : Bor K). cmp x.now y.now) after q ≡ cond (is_eq (cmp key.now q.now)) true (contains (λ (x y : Bor K). cmp x.now y.now) seen q)) → new ≡ old ++ key.now ∷ [] → IsSeen eq cmp old seen → IsSeen eq cmp new after
  seen_on old new seen after key absent put pushed s = record {
    distinct = subst (IsDistinct eq) (sym pushed) (IsDistinct-push laws old key.now s.distinct (sym (s.same key) ∙ absent));
    same = λ q.
        put q ∙ put_true (is_eq (cmp key.now q.now)) (contains (λ (x y : Bor K). cmp x.now y.now) seen q)
        ∙ ap (λ b. b || is_eq (cmp key.now q.now)) (s.same q)
        ∙ ap (λ b. is_member eq old q.now || b) (sym (ties key.now q.now) ∙ laws.symm key.now q.now ∙ sym (or_none (eq q.now key.now)))
        ∙ sym (ap (λ ks. is_member eq ks q.now) pushed ∙ list_any-append (eq q.now) old (key.now ∷ []));
  }

  -- a key that was seen is there
  pub union_of_seen : (old : List K) (seen : BTreeSet (Bor K)) (key : Bor K) → contains (λ (x y : Bor K). cmp x.now y.now) seen key ≡ true → IsSeen eq cmp old seen → IsUnion eq old (key.now ∷ []) old
  union_of_seen old seen key there s q = by (eq q key.now) refl
    where
      by : (b : Bool) → eq q key.now ≡ b → is_member eq old q ≡ (is_member eq old q || (b || false))
      by true e = let inside : is_member eq old q ≡ true = member_alike laws old q key.now e ∙ sym (s.same key) ∙ there in inside ∙ sym (or_more _ _ inside)
      by false e = sym (or_none (is_member eq old q))

or_assoc : (a b c : Bool) → ((a || b) || c) ≡ (a || (b || c))
or_assoc true b c = refl
or_assoc false b c = refl

module _ {K : Type 0} {eq : K → K → Bool} (laws : IsEquivalence eq) where
  -- one key is cloned, and those that are left are missing
  pub cloned_on : (all after rest left keys : List K) (x y : K) → rest ≡ x ∷ left → IsTrue (eq x y) → after ≡ all ++ y ∷ [] → ((q : K) → (is_member eq all q || is_member eq rest q) ≡ is_member eq keys q)
      → (q : K) → (is_member eq after q || is_member eq left q) ≡ is_member eq keys q
  cloned_on all after rest left keys x y cut clone pushed before q =
      ap (λ b. b || is_member eq left q) (ap (λ ks. is_member eq ks q) pushed ∙ list_any-append (eq q) all (y ∷ []))
      ∙ or_assoc (is_member eq all q) (eq q y || false) (is_member eq left q)
      ∙ ap (λ b. is_member eq all q || (b || is_member eq left q)) (or_none (eq q y) ∙ laws.symm q y ∙ sym (laws.congr x y q clone) ∙ laws.symm x q)
      ∙ ap (λ ks. is_member eq all q || is_member eq ks q) (sym cut)
      ∙ before q

  -- as many keys, the same ones, are no two equal either
  pub clones_apart : (found all : List K) → IsDistinct eq found → ((q : K) → is_member eq all q ≡ is_member eq found q) → length all ≡ length found → IsDistinct eq all
  clones_apart found all distinct same long = IsDistinct-from_count laws all (sym (length-from_keys laws found all distinct (λ q. sym (same q))) ∙ sym long)

-- What was found leads to a target. Unless there is more than enough, it has the targets, and the sources of those of it
-- that were looked at.
pub record IsLeading {K : Type 0} (eq : K → K → Bool) (has : K → K → Bool) (targets : List K) (most : ℕ) (found : List K) (looked : ℕ) : Type 0 where
  pub only : (q : K) → IsTrue (is_member eq found q) → LeadsToOne eq (λ s t. IsTrue (has t s)) targets q
  pub begun : length found ≤ most → (q : K) → IsTrue (is_member eq targets q) → IsTrue (is_member eq found q)
  pub followed : length found ≤ most → (i : ℕ) → i < looked → (t s : K) → slice_get found i ≡ Some t → IsTrue (has t s) → IsTrue (is_member eq found s)

module _ {K : Type 0} {eq : K → K → Bool} (laws : IsEquivalence eq) (has : K → K → Bool) (targets : List K) (most : ℕ) where
  -- who has an edge to a key that leads to a target leads there too
  one_before : (s t : K) → IsTrue (has t s) → LeadsToOne eq (λ s t. IsTrue (has t s)) targets t → LeadsToOne eq (λ s t. IsTrue (has t s)) targets s
  one_before s t h (is_target k) = reaches t k (edge h)
  one_before s t h (reaches u k r) = reaches u k (further h r)

  pub lead_on : (old new : List K) (x : K) (i : ℕ) → slice_get old i ≡ Some x → length old ≤ most → Finds eq most (has x) old new → IsLeading eq has targets most old i → IsLeading eq has targets most new (i + 1)
  lead_on old new x i here few f s =
      let within = slice_get_within old i x here in
      let stands : (j : ℕ) → j < length old → slice_get new j ≡ slice_get old j = λ j h. ap (λ xs. slice_get xs j) f.behind ∙ slice_get-front old f.more j h in
      let keeps : (q : K) → IsTrue (is_member eq old q) → IsTrue (is_member eq new q) = λ q h. ap (λ xs. is_member eq xs q) f.behind ∙ list_any-append (eq q) old f.more ∙ or_more _ _ h in
      record {
        only = λ q h. elim (or_cases (is_member eq old q) (has x q) (f.only q h)) [
          | inl k ↦ s.only q k
          | inr k ↦ one_before q x k (s.only x (member_at laws old i x here))
        ];
        begun = λ h q k. keeps q (s.begun few q k);
        followed = λ h. below_more (λ j. (t q : K) → slice_get new j ≡ Some t → IsTrue (has t q) → IsTrue (is_member eq new q)) i
            (λ j l t q k e. let inside : j < length old = omega arith in keeps q (s.followed few j l t q (sym (stands j inside) ∙ k) e))
            (λ t q k e.
            let is : Some t ≡ Some x = sym k ∙ stands i within ∙ here in
            let one : t ≡ x = cc in
            f.all h q (ap (λ u. has u q) (sym one) ∙ e));
      }

  -- all that was found was looked at
  pub lead_ends : ((x y s : K) → IsTrue (eq x y) → has x s ≡ has y s) → (found : List K) (looked : ℕ) → length found ≤ looked → length found ≤ most → IsLeading eq has targets most found looked
      → (t s : K) → IsTrue (is_member eq found t) → IsTrue (has t s) → IsTrue (is_member eq found s)
  lead_ends alike found looked end few s t q h e =
      let p = member_index laws found t h in
      let within : p.0 < length found = slice_get_within found p.0 p.1 p.2 in
      let before : p.0 < looked = omega arith in
      s.followed few p.0 before p.1 q p.2 (sym (alike t p.1 q p.3) ∙ e)

-- Keys that are found by their digests.
use Rattle.std.proofs.Common.{◌≡◌, Bool, true, false, cond, ◌||◌, List, [], ◌∷◌, ◌++◌, IsTrue, refl, sym, ap, ◌∙◌, inl, inr, ℕ, ◌<◌, ◌+◌, length, slice_get, nat_eq, Some, None, true≢false, arith, subst, drop, slice_index_or, Option}
use Rattle.std.specs.Option.{option_map_or, IfNone}
use Rattle.std.specs.Ordering.{nat_cmp}
use Rattle.std.specs.Map.{lookup}
use Rattle.std.specs.Global.{Vec}
use Rattle.std.specs.Cmp.{IsEquivalence}
use Rattle.std.specs.List.{IsDistinct}
use Rattle.std.specs.BTreeMap.{BTreeMap, get, is_at}
use Rattle.std.specs.Set.{is_member, IsUnion}
use Rattle.std.proofs.lemmas.Bool.{or_cases, eqb-true, eq-eqb, cases_lt}
use Rattle.std.proofs.lemmas.Option.{slice_get_within}
use Rattle.std.proofs.lemmas.List.{length_push}
use Rattle.std.proofs.lemmas.List.Folds.{list_any-append}
use Rattle.std.proofs.lemmas.Map.Keys.{IsDistinct-push}
use Rattle.cedar_closure.specs.Numbering.{stands_for, is_numbered}
use Rattle.cedar_closure.specs.Keys.{numbers_of, IsFound}
use Rattle.cedar_closure.proofs.Members.{or_more, or_else, or_none, list_any-at, member_index, member_alike, slice_get-front}
use Rattle.cedar_closure.proofs.Numbered.{passes_at, slice_get-behind, stands, stood, drop_at}

-- which numbers are held at a digest once one was added at `at`
abbrev pub held_then : BTreeMap ℕ (Vec ℕ) → ℕ → ℕ → ℕ → ℕ → Bool
held_then old at number d i = cond (nat_eq at d) (is_member nat_eq (numbers_of old d) i || nat_eq i number) (is_member nat_eq (numbers_of old d) i)

held_still : (old : BTreeMap ℕ (Vec ℕ)) (at number d i : ℕ) → is_member nat_eq (numbers_of old d) i ≡ true → held_then old at number d i ≡ true
held_still old at number d i h = elim (nat_eq at d) as (λ b. cond b (is_member nat_eq (numbers_of old d) i || nat_eq i number) (is_member nat_eq (numbers_of old d) i) ≡ true) [
  | true ↦ or_more _ _ h
  | false ↦ h
]

held_new : (old : BTreeMap ℕ (Vec ℕ)) (at number d i : ℕ) → at ≡ d → i ≡ number → held_then old at number d i ≡ true
held_new old at number d i here is =
    ap (λ b. cond b (is_member nat_eq (numbers_of old d) i || nat_eq i number) (is_member nat_eq (numbers_of old d) i)) (eq-eqb at d here) ∙ or_else (is_member nat_eq (numbers_of old d) i) _ (eq-eqb i number is)

held_before : (old : BTreeMap ℕ (Vec ℕ)) (at number d i n : ℕ) → (is_member nat_eq (numbers_of old d) i ≡ true → i < n) → number < n → held_then old at number d i ≡ true → i < n
held_before old at number d i n before last h = elim (nat_eq at d) as (λ b. cond b (is_member nat_eq (numbers_of old d) i || nat_eq i number) (is_member nat_eq (numbers_of old d) i) ≡ true → i < n) [
  | true ↦ λ k. elim (or_cases (is_member nat_eq (numbers_of old d) i) (nat_eq i number) k) [
    | inl e ↦ before e
    | inr e ↦ let same : i ≡ number = eqb-true i number e in omega arith
  ]
  | false ↦ λ k. before k
] h

module _ {K : Type 0} {eq : K → K → Bool} (laws : IsEquivalence eq) (digest_at : K → ℕ) (alike : (x y : K) → IsTrue (eq x y) → digest_at x ≡ digest_at y) where
  -- a key for which none of the numbers at its digest stands isn't there
  pub found_none : (keys : List K) (numbers : BTreeMap ℕ (Vec ℕ)) (key : K) → IsFound eq digest_at keys numbers → (held : List ℕ) → numbers_of numbers (digest_at key) ≡ held → is_numbered eq keys held key ≡ false → is_member eq keys key ≡ false
  found_none keys numbers key found held is none = elim (is_member eq keys key) as (λ b. is_member eq keys key ≡ b → b ≡ false) [
    | true ↦ λ e.
        let p = member_index laws keys key e in
        let here : IsTrue (is_member nat_eq held p.0) = ap (λ ns. is_member nat_eq ns p.0) (sym is ∙ ap (λ d. numbers_of numbers d) (alike key p.1 p.3)) ∙ found.held p.0 p.1 p.2 in
        let q = passes_at (nat_eq p.0) held here in
        let same : p.0 ≡ q.1 = eqb-true p.0 q.1 q.3 in
        sym (list_any-at (stands_for eq keys key) held q.0 q.1 q.2 (ap (λ n. stands_for eq keys key n) (sym same) ∙ stands laws keys key p.1 p.0 p.2 p.3)) ∙ none
    | false ↦ λ e. refl
  ] refl

  -- one more key, and its number at its digest
  pub found_added : (keys after : List K) (old new : BTreeMap ℕ (Vec ℕ)) (key : K) (at : ℕ) → IsFound eq digest_at keys old → at ≡ digest_at key → is_member eq keys key ≡ false
      → ((d i : ℕ) → is_member nat_eq (numbers_of new d) i ≡ held_then old at (length keys) d i) → after ≡ keys ++ key ∷ [] → IsFound eq digest_at after new
  found_added keys after old new key at found is absent added pushed =
      let long : length after ≡ length keys + 1 = ap length pushed ∙ length_push keys key in
      let last : length keys < length after = omega arith in
      record {
        distinct = subst (IsDistinct eq) (sym pushed) (IsDistinct-push laws keys key found.distinct absent);
        below = λ d i h. held_before old at (length keys) d i (length after) (λ k. let small : i < length keys = found.below d i k in omega arith) last (sym (added d i) ∙ h);
        held = λ i x here. added (digest_at x) i ∙ elim (cases_lt i (length keys)) [
          | inl k ↦ held_still old at (length keys) (digest_at x) i (found.held i x (sym (ap (λ xs. slice_get xs i) pushed ∙ slice_get-front keys (key ∷ []) i k) ∙ here))
          | inr k ↦
              let inside = slice_get_within after i x here in
              let end : i ≡ length keys = omega arith in
              let one : Some x ≡ Some key = sym here ∙ ap (λ j. slice_get after j) end ∙ ap (λ xs. slice_get xs (length keys)) pushed ∙ slice_get-behind keys key in
              let same : x ≡ key = cc in
              held_new old at (length keys) (digest_at x) i (is ∙ ap digest_at (sym same)) end
        ];
      }

module _ {K : Type 0} {eq : K → K → Bool} (laws : IsEquivalence eq) where
  pub absent_alike : (keys : List K) (x y : K) → IsTrue (eq x y) → is_member eq keys x ≡ false → is_member eq keys y ≡ false
  absent_alike keys x y e none = sym (member_alike laws keys x y e) ∙ none

  pub union_of_new : (keys after : List K) (x y : K) → IsTrue (eq x y) → after ≡ keys ++ y ∷ [] → IsUnion eq keys (x ∷ []) after
  union_of_new keys after x y clone pushed q =
      ap (λ xs. is_member eq xs q) pushed ∙ list_any-append (eq q) keys (y ∷ [])
      ∙ ap (λ b. is_member eq keys q || (b || false)) (laws.symm q y ∙ sym (laws.congr x y q clone) ∙ laws.symm x q)

  pub union_of_old : (keys : List K) (key : K) (n : ℕ) → IsTrue (stands_for eq keys key n) → IsUnion eq keys (key ∷ []) keys
  union_of_old keys key n h q = elim (eq q key) as (λ b. eq q key ≡ b → is_member eq keys q ≡ (is_member eq keys q || (b || false))) [
    | true ↦ λ e.
        let s = stood laws keys key n h in
        let inside : is_member eq keys q ≡ true = member_alike laws keys q key e ∙ list_any-at (eq key) keys n s.0 s.1 s.2 in
        inside ∙ sym (or_more _ _ inside)
    | false ↦ λ e. sym (or_none (is_member eq keys q))
  ] refl

  -- a number that doesn't stand for the key is passed
  pub pass_number : (keys : List K) (ns : List ℕ) (i : ℕ) (key x : K) → i < length ns → slice_get keys (slice_index_or ns i 0) ≡ Some x → eq key x ≡ false
      → is_numbered eq keys (drop i ns) key ≡ is_numbered eq keys ns key → is_numbered eq keys (drop (i + 1) ns) key ≡ is_numbered eq keys ns key
  pass_number keys ns i key x here at lacks before =
      sym (ap (λ b. b || is_numbered eq keys (drop (i + 1) ns) key) (ap (λ o. option_map_or (eq key) o false) at ∙ lacks))
      ∙ ap (λ ms. is_numbered eq keys ms key) (sym (drop_at ns i here))
      ∙ before

-- the numbers that a look-up found
pub held_at_some : (numbers : BTreeMap ℕ (Vec ℕ)) (d : ℕ) (held : Vec ℕ) → Some held ≡ get nat_cmp numbers d → numbers_of numbers d ≡ held.items
held_at_some numbers d held is = ap (λ o. option_map_or (λ (v : Vec ℕ). v.items) o []) (sym is)

pub held_at_none : (numbers : BTreeMap ℕ (Vec ℕ)) (d : ℕ) → None ≡ get nat_cmp numbers d → numbers_of numbers d ≡ []
held_at_none numbers d is = ap (λ o. option_map_or (λ (v : Vec ℕ). v.items) o []) (sym is)

pub on_none : {X P Q : Type 0} (o : Option X) → (P → Q) → IfNone o P → IfNone o Q
on_none None f h = f h
on_none (Some x) f h = h

none_apart : {K : Type 0} (eq : K → K → Bool) (keys : List K) → keys ≡ [] → IsDistinct eq keys
unfolding IsDistinct
none_apart eq [] e = tt
none_apart eq (x ∷ xs) e = cc

-- no key, and no number
pub found_begins : {K : Type 0} (eq : K → K → Bool) (digest_at : K → ℕ) (keys : List K) (numbers : BTreeMap ℕ (Vec ℕ)) → keys ≡ [] → numbers.entries ≡ [] → IsFound eq digest_at keys numbers
found_begins eq digest_at keys numbers none empty = record {
  distinct = none_apart eq keys none;
  below = λ d i h. absurd (true≢false (sym h ∙ ap (λ es. is_member nat_eq (option_map_or (λ (v : Vec ℕ). v.items) (lookup (is_at (nat_cmp d)) es) []) i) empty));
  held = λ i x here.
      let inside = slice_get_within keys i x here in
      let short : length keys ≡ 0 = ap length none in
      absurd (omega arith);
}

-- Sets of numbers, and the marks of their members.
use Rattle.std.proofs.Common.{◌≡◌, Bool, true, false, ◌||◌, List, [], ◌∷◌, ◌++◌, IsTrue, refl, sym, ap, ◌∙◌, inl, inr, ℕ, ◌<◌, length, drop, slice_index_or, slice_set, nat_eq, true≢false, arith, subst, replicate}
use Rattle.std.specs.Set.{is_member, IsUnion}
use Rattle.std.specs.List.{IsDistinct}
use Rattle.std.proofs.lemmas.Bool.{cases_lt}
use Rattle.std.proofs.lemmas.Bool.Decides.{eqb_tells}
use Rattle.std.proofs.lemmas.Cmp.{nat_eq_equiv}
use Rattle.std.proofs.lemmas.List.{get_or-replicate, length-replicate, get_or_past, get_or-set_same, get_or-set_other, append_assoc}
use Rattle.std.proofs.lemmas.List.Folds.{list_any-append}
use Rattle.std.proofs.lemmas.Map.Keys.{IsDistinct-push}
use Rattle.std.proofs.lemmas.Option.{get_or_from_slice_get, slice_get_read}
use Rattle.cedar_closure.specs.Numbers.{IsSet}
use Rattle.cedar_closure.specs.Graph.{SameKeys}
use Rattle.cedar_closure.specs.declared.numbers.NumberSet.{NumberSet}
use Rattle.cedar_closure.proofs.Members.{or_else, or_none}

-- a member has a mark
pub member_below : (set : NumberSet) → IsSet set → (q : ℕ) → IsTrue (is_member nat_eq set.members.items q) → q < length set.is_member.items
member_below set is q h = elim (cases_lt q (length set.is_member.items)) [
  | inl k ↦ k
  | inr k ↦ absurd (true≢false (sym h ∙ sym (is.marked q) ∙ get_or_past set.is_member.items q false k))
]

pub none_marked : (n q : ℕ) → slice_index_or (replicate n false) q false ≡ false
none_marked n q = elim (cases_lt q n) [
  | inl k ↦ get_or-replicate n q false false k
  | inr k ↦ get_or_past (replicate n false) q false (let same : length (replicate n false) ≡ n = length-replicate n false in omega arith)
]

none_distinct : (xs : List ℕ) → xs ≡ [] → IsDistinct nat_eq xs
unfolding IsDistinct
none_distinct [] e = tt
none_distinct (x ∷ xs) e = cc

-- no number is a member, and none is marked
pub empty_set : (set : NumberSet) → set.members.items ≡ [] → ((q : ℕ) → slice_index_or set.is_member.items q false ≡ false) → IsSet set
empty_set set none unmarked = record {
  marked = λ q. unmarked q ∙ sym (ap (λ xs. is_member nat_eq xs q) none);
  distinct = none_distinct set.members.items none;
}

-- a mark that was read
pub mark_read : (marks : List Bool) (n : ℕ) (b : Bool) → n < length marks → b ≡ slice_index_or marks n b → slice_index_or marks n false ≡ b
mark_read marks n b below is = get_or_from_slice_get marks n b false (slice_get_read marks (length marks) n b refl below is)

-- one more number, which was no member, and its mark
pub set_pushed : (old new : NumberSet) (n : ℕ) → IsSet old → n < length old.is_member.items → is_member nat_eq old.members.items n ≡ false
    → new.members.items ≡ old.members.items ++ n ∷ [] → new.is_member.items ≡ slice_set old.is_member.items n true → IsSet new
set_pushed old new n is below fresh members marks =
    let ms = old.is_member.items in
    let xs = old.members.items in
    let pushed : (q : ℕ) → is_member nat_eq new.members.items q ≡ (is_member nat_eq xs q || nat_eq q n) = λ q.
    ap (λ ys. is_member nat_eq ys q) members ∙ list_any-append (nat_eq q) xs (n ∷ []) ∙ ap (λ b. is_member nat_eq xs q || b) (or_none (nat_eq q n)) in
    record {
      marked = λ q. ap (λ bs. slice_index_or bs q false) marks ∙ elim (eqb_tells q n) [
        | inl t ↦ ap (λ k. slice_index_or (slice_set ms n true) k false) t.1 ∙ get_or-set_same ms n true false below ∙ sym (pushed q ∙ or_else (is_member nat_eq xs q) _ t.0)
        | inr t ↦ get_or-set_other ms n q true false t.1 ∙ is.marked q ∙ sym (pushed q ∙ ap (λ b. is_member nat_eq xs q || b) t.0 ∙ or_none (is_member nat_eq xs q))
      ];
      distinct = subst (IsDistinct nat_eq) (sym members) (IsDistinct-push nat_eq_equiv xs n is.distinct fresh);
    }

pub or_step : (a b c : Bool) → ((a || (b || false)) || c) ≡ (a || (b || c))
or_step true b c = refl
or_step false true c = refl
or_step false false c = refl

-- one more of those still to come was put behind
pub union_step : {K : Type 0} (eq : K → K → Bool) (all old new left rest : List K) (x : K) → left ≡ x ∷ rest → IsUnion eq old (x ∷ []) new → SameKeys eq all (old ++ left) → SameKeys eq all (new ++ rest)
union_step eq all old new left rest x cut union same q =
    list_any-append (eq q) new rest
    ∙ ap (λ b. b || is_member eq rest q) (union q)
    ∙ or_step (is_member eq old q) (eq q x) (is_member eq rest q)
    ∙ ap (λ b. is_member eq old q || b) (ap (λ xs. is_member eq xs q) (sym cut))
    ∙ sym (list_any-append (eq q) old left)
    ∙ same q

pub behind_then : {K : Type 0} (first old new : List K) → ((more : List K) × (old ≡ first ++ more)) → ((more : List K) × (new ≡ old ++ more)) → (more : List K) × (new ≡ first ++ more)
behind_then first old new h k = (h.0 ++ k.0, k.1 ∙ ap (λ xs. xs ++ k.0) h.1 ∙ append_assoc first h.0 k.0)

-- one mark less, that of the first of those still to come
pub unmarked_step : (marks new : List Bool) (left rest : List ℕ) (x : ℕ) → left ≡ x ∷ rest → x < length marks → new ≡ slice_set marks x false
    → ((q : ℕ) → slice_index_or marks q false ≡ true → is_member nat_eq left q ≡ true) → (q : ℕ) → slice_index_or new q false ≡ true → is_member nat_eq rest q ≡ true
unmarked_step marks new left rest x cut below is before q h = elim (eqb_tells q x) [
  | inl t ↦ absurd (true≢false (sym h ∙ ap (λ bs. slice_index_or bs q false) is ∙ ap (λ k. slice_index_or (slice_set marks x false) k false) t.1 ∙ get_or-set_same marks x false false below))
  | inr t ↦
      let marked : slice_index_or marks q false ≡ true = sym (get_or-set_other marks x q false false t.1) ∙ sym (ap (λ bs. slice_index_or bs q false) is) ∙ h in
      sym (ap (λ b. b || is_member nat_eq rest q) t.0) ∙ ap (λ xs. is_member nat_eq xs q) (sym cut) ∙ before q marked
]

-- where none is still to come, none is marked
pub unmarked_end : (marks : List Bool) (left : List ℕ) → left ≡ [] → ((q : ℕ) → slice_index_or marks q false ≡ true → is_member nat_eq left q ≡ true) → (q : ℕ) → slice_index_or marks q false ≡ false
unmarked_end marks left none before q = elim (slice_index_or marks q false) as (λ b. slice_index_or marks q false ≡ b → b ≡ false) [
  | true ↦ λ e. sym (before q e) ∙ ap (λ xs. is_member nat_eq xs q) none
  | false ↦ λ e. refl
] refl

pub unmarked_start : (set : NumberSet) → IsSet set → (q : ℕ) → slice_index_or set.is_member.items q false ≡ true → is_member nat_eq (drop 0 set.members.items) q ≡ true
unmarked_start set is q h = sym (is.marked q) ∙ h

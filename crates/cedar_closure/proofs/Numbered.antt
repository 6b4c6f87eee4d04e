-- What numbers reach, and the keys for which they stand.
use Rattle.std.proofs.Common.{◌≡◌, Bool, true, false, ◌||◌, List, [], ◌∷◌, ◌++◌, IsTrue, refl, sym, ap, ◌∙◌, inl, inr, ℕ, zero, suc, ◌<◌, ◌≤◌, ◌+◌}
use Rattle.std.proofs.Common.{length, take, slice_get, nat_eq, Some, None, ◌↔◌, true≢false, arith, subst, drop, slice_index_or, slice_set}
use Rattle.std.specs.Global.{Vec}
use Rattle.std.specs.Option.{option_map_or}
use Rattle.std.specs.Cmp.{IsEquivalence}
use Rattle.std.specs.List.{list_any}
use Rattle.std.specs.Set.{is_member, IsUnion}
use Rattle.std.proofs.Math.Seq.{take-append_seam}
use Rattle.std.proofs.lemmas.Bool.{or_cases, eqb-true, cases_lt}
use Rattle.std.proofs.lemmas.Bool.Decides.{eqb_tells}
use Rattle.std.proofs.lemmas.Cmp.{nat_eq_equiv}
use Rattle.std.proofs.lemmas.Option.{slice_get_within, slice_get_past, slice_get_read, slice_get-get_or, get_or_from_slice_get}
use Rattle.std.proofs.lemmas.List.Folds.{list_any-append}
use Rattle.std.proofs.lemmas.List.{length_push, length-append, length-set, get_or-set_same, get_or-set_other, drop_more}
use Rattle.cedar_language.specs.Facts.{Reaches, edge, further}
use Rattle.cedar_closure.specs.Numbers.{numbers_at, HasTarget, AreWithin, AreReached}
use Rattle.cedar_closure.specs.Numbering.{stands_for, is_numbered, AreNumbersOf, AreEdgesOf}
use Rattle.cedar_closure.proofs.Members.{or_more, or_else, or_none, list_any-at, member_at, slice_get-front}
use Rattle.cedar_closure.proofs.NumberSets.{or_step}
use Rattle.cedar_closure.proofs.Search.{IsEdge, AreAlike, Reaches-last}

-- an element of the list that passes the test
pub passes_at : {X : Type 0} (p : X → Bool) (xs : List X) → list_any p xs ≡ true → (i : ℕ) × (x : X) × (slice_get xs i ≡ Some x) × (p x ≡ true)
passes_at p [] h = cc
passes_at p (y ∷ xs) h = elim (p y) as (λ b. p y ≡ b → (i : ℕ) × (x : _) × (slice_get (y ∷ xs) i ≡ Some x) × (p x ≡ true)) [
  | true ↦ λ e. (0, y, refl, e)
  | false ↦ λ e. let r = passes_at p xs (sym (ap (λ b. b || list_any p xs) e) ∙ h) in (suc r.0, r.1, r.2, r.3)
] refl

-- a test that answers the same at each element
pub list_any_same : {X : Type 0} (p r : X → Bool) (xs : List X) → ((i : ℕ) (x : X) → slice_get xs i ≡ Some x → p x ≡ r x) → list_any p xs ≡ list_any r xs
list_any_same p r [] same = refl
list_any_same p r (x ∷ xs) same = ap (λ b. b || list_any p xs) (same 0 x refl) ∙ ap (λ b. r x || b) (list_any_same p r xs (λ i y h. same (suc i) y h))

pub slice_get-behind : {X : Type 0} (xs : List X) (y : X) → slice_get (xs ++ y ∷ []) (length xs) ≡ Some y
slice_get-behind [] y = refl
slice_get-behind (x ∷ xs) y = slice_get-behind xs y

none_more : {X : Type 0} (xs : List X) → xs ++ [] ≡ xs
none_more [] = refl
none_more (x ∷ xs) = ap (λ ys. x ∷ ys) (none_more xs)

-- within a list an element stands at each index
element_at : {X : Type 0} (xs : List X) (i : ℕ) → i < length xs → (x : X) × (slice_get xs i ≡ Some x)
element_at [] i h = absurd (omega arith)
element_at (x ∷ xs) zero h = (x, refl)
element_at (x ∷ xs) (suc i) h = element_at xs i (omega arith)

pub longer : {X : Type 0} (old more new : List X) → new ≡ old ++ more → length old ≤ length new
longer old more new cut = let all : length new ≡ length old + length more = ap length cut ∙ length-append old more in omega arith

pub nothing_behind : {X : Type 0} (xs : List X) → (more : List X) × (xs ≡ xs ++ more)
nothing_behind xs = ([], sym (none_more xs))

pub drop_at : (ns : List ℕ) (i : ℕ) → i < length ns → drop i ns ≡ slice_index_or ns i 0 ∷ drop (i + 1) ns
drop_at ns i here = drop_more ns i 0 here

-- the numbers at a number whose list was read
pub row_at : (rows : List (Vec ℕ)) (i : ℕ) (row : Vec ℕ) → i < length rows → row ≡ slice_index_or rows i row → numbers_at rows i ≡ row.items
row_at rows i row below is = ap (λ o. option_map_or (λ (r : Vec ℕ). r.items) o []) (slice_get_read rows (length rows) i row refl below is)

row_before : (rows after : List (Vec ℕ)) (row : Vec ℕ) (i : ℕ) → after ≡ rows ++ row ∷ [] → i < length rows → numbers_at after i ≡ numbers_at rows i
row_before rows after row i pushed k = ap (λ rs. numbers_at rs i) pushed
    ∙ ap (λ o. option_map_or (λ (r : Vec ℕ). r.items) o []) (slice_get-front rows (row ∷ []) i k)

row_last : (rows after : List (Vec ℕ)) (row : Vec ℕ) (i : ℕ) → after ≡ rows ++ row ∷ [] → i ≡ length rows → numbers_at after i ≡ row.items
row_last rows after row i pushed last = ap (λ j. numbers_at after j) last ∙ ap (λ rs. numbers_at rs (length rows)) pushed
    ∙ ap (λ o. option_map_or (λ (r : Vec ℕ). r.items) o []) (slice_get-behind rows row)

row_past : (rows : List (Vec ℕ)) (i : ℕ) → length rows ≤ i → numbers_at rows i ≡ []
row_past rows i past = ap (λ o. option_map_or (λ (r : Vec ℕ). r.items) o []) (slice_get_past rows i past)

pub no_targets : (edges : List (Vec ℕ)) (n : ℕ) → edges ≡ [] → (a b : ℕ) → HasTarget edges a b → b < n
no_targets edges n none a b h = absurd (true≢false (sym h ∙ ap (λ rs. is_member nat_eq (numbers_at rs a) b) none))

pub targets_below : (edges after : List (Vec ℕ)) (row : Vec ℕ) (low high : ℕ) → after ≡ edges ++ row ∷ [] → low ≤ high
    → ((i : ℕ) → IsTrue (is_member nat_eq row.items i) → i < high)
    → ((a b : ℕ) → HasTarget edges a b → b < low) → (a b : ℕ) → HasTarget after a b → b < high
targets_below edges after row low high pushed grows last before a b h =
    let long : length after ≡ length edges + 1 = ap length pushed ∙ length_push edges row in
    elim (cases_lt a (length edges)) [
      | inl k ↦ let small : b < low = before a b (sym (ap (λ ns. is_member nat_eq ns b) (row_before edges after row a pushed k)) ∙ h) in omega arith
      | inr k ↦ elim (cases_lt (length edges) a) [
        | inl past ↦ absurd (true≢false (sym h ∙ ap (λ ns. is_member nat_eq ns b) (row_past after a (omega arith))))
        | inr same ↦ last b (sym (ap (λ ns. is_member nat_eq ns b) (row_last edges after row a pushed (omega arith))) ∙ h)
      ]
    ]

-- at a number there is all that it reaches
abbrev pub IsReachedAt : List (Vec ℕ) → List (Vec ℕ) → ℕ → Type 0
IsReachedAt edges rows a = (b : ℕ) → IsTrue (is_member nat_eq (numbers_at rows a) b) ↔ Reaches (HasTarget edges) a b

-- and at each from a first one on
abbrev pub AreReachedFrom : ℕ → List (Vec ℕ) → List (Vec ℕ) → Type 0
AreReachedFrom n edges rows = (a : ℕ) → n ≤ a → a < length rows → IsReachedAt edges rows a

-- what is found at a number is below the bound
pub reached_below : (edges rows : List (Vec ℕ)) → AreWithin edges → (i : ℕ) → IsReachedAt edges rows i → (q : ℕ)
    → IsTrue (is_member nat_eq (numbers_at rows i) q) → q < length edges
reached_below edges rows within i reached q h = let last = Reaches-last ((reached q).0 h) in within last.0 q last.1

-- the first of a list's elements
pub take_front : {X : Type 0} (all first more : List X) (n : ℕ) → all ≡ first ++ more → n ≡ length first → take n all ≡ first
take_front all first more n cut is = ap (λ xs. take n xs) cut ∙ ap (λ k. take k (first ++ more)) is ∙ take-append_seam first more

pub take_at : {X : Type 0} (all first more : List X) (n i : ℕ) (x : X) → all ≡ first ++ more → n ≡ length first → i < n → slice_get all i ≡ Some x
    → slice_get (take n all) i ≡ Some x
take_at all first more n i x cut is below here = ap (λ xs. slice_get xs i) (take_front all first more n cut is)
    ∙ sym (slice_get-front first more i (omega arith)) ∙ ap (λ xs. slice_get xs i) (sym cut) ∙ here

pub drop_here : {X : Type 0} (xs : List X) (i : ℕ) (x : X) → slice_get xs i ≡ Some x → drop i xs ≡ x ∷ drop (i + 1) xs
drop_here xs i x here = drop_more xs i x (slice_get_within xs i x here) ∙ ap (λ y. y ∷ drop (i + 1) xs) (get_or_from_slice_get xs i x x here)

-- one more number of which all is found that it reaches
pub nothing_reached : (edges rows : List (Vec ℕ)) → rows ≡ [] → AreReached edges rows
nothing_reached edges rows none a below = let empty : length rows ≡ 0 = ap length none in absurd (omega arith)

pub reached_step : (edges rows after : List (Vec ℕ)) (row : Vec ℕ) (members : List ℕ) (n : ℕ) → after ≡ rows ++ row ∷ [] → length rows ≡ n → row.items ≡ members
    → ((q : ℕ) → IsTrue (is_member nat_eq members q) ↔ Reaches (HasTarget edges) n q) → AreReached edges rows → AreReached edges after
reached_step edges rows after row members n pushed count is found before a below b =
    let long : length after ≡ length rows + 1 = ap length pushed ∙ length_push rows row in
    elim (cases_lt a (length rows)) [
      | inl k ↦ let same = ap (λ ns. is_member nat_eq ns b) (row_before rows after row a pushed k) in
          (λ h. (before a k b).0 (sym same ∙ h), λ r. same ∙ (before a k b).1 r)
      | inr k ↦
          let last : a ≡ length rows = omega arith in
          let number : a ≡ n = last ∙ count in
          let same = ap (λ ns. is_member nat_eq ns b) (row_last rows after row a pushed last ∙ is) in (
            λ h. subst (λ i. Reaches (HasTarget edges) i b) (sym number) ((found b).0 (sym same ∙ h)),
            λ r. same
                ∙ (found b).1 (subst (λ i. Reaches (HasTarget edges) i b) number r),
          )
    ]

or_parts : (a b : Bool) → (a || (b || false)) ≡ (a || b)
or_parts a b = ap (λ c. a || c) (or_none b)

pub below_step : (numbers after : List ℕ) (n low high : ℕ) → after ≡ numbers ++ n ∷ [] → low ≤ high → n < high
    → ((i : ℕ) → IsTrue (is_member nat_eq numbers i) → i < low) → (i : ℕ) → IsTrue (is_member nat_eq after i) → i < high
below_step numbers after n low high pushed grows last before i h =
    elim (or_cases (is_member nat_eq numbers i) (nat_eq i n)
    (sym (or_parts (is_member nat_eq numbers i) (nat_eq i n)) ∙ sym (list_any-append (nat_eq i) numbers (n ∷ []))
    ∙ ap (λ ns. is_member nat_eq ns i) (sym pushed) ∙ h)) [
      | inl k ↦ let small : i < low = before i k in omega arith
      | inr k ↦ let same : i ≡ n = eqb-true i n k in omega arith
    ]

module _ {K : Type 0} (eq : K → K → Bool) where
  pub no_edges : (keys : List K) (next : K → List K) (edges : List (Vec ℕ)) → edges ≡ [] → AreEdgesOf eq keys next edges
  no_edges keys next edges none i x below = let empty : length edges ≡ 0 = ap length none in absurd (omega arith)

  pub front_is_member : (xs ys : List K) (q : K) → IsTrue (is_member eq xs q) → IsTrue (is_member eq (xs ++ ys) q)
  front_is_member xs ys q h = list_any-append (eq q) xs ys ∙ or_more _ _ h

  pub bound_step : (first all old added new : List K) → IsUnion eq old added new → ((q : K) → IsTrue (is_member eq added q) → IsTrue (is_member eq all q))
      → ((q : K) → IsTrue (is_member eq old q) → IsTrue (is_member eq (first ++ all) q)) → (q : K) → IsTrue (is_member eq new q)
      → IsTrue (is_member eq (first ++ all) q)
  bound_step first all old added new union more before q h = elim (or_cases (is_member eq old q) (is_member eq added q) (sym (union q) ∙ h)) [
    | inl k ↦ before q k
    | inr k ↦ list_any-append (eq q) first all ∙ or_else (is_member eq first q) _ (more q k)
  ]

module _ {K : Type 0} {eq : K → K → Bool} (laws : IsEquivalence eq) where
  -- the key for which a number stands
  pub stood : (keys : List K) (q : K) (i : ℕ) → IsTrue (stands_for eq keys q i) → (x : K) × (slice_get keys i ≡ Some x) × IsTrue (eq q x)
  stood keys q i h = elim (slice_get keys i) as (λ o. slice_get keys i ≡ o → IsTrue (option_map_or (eq q) o false)
      → (x : K) × (slice_get keys i ≡ Some x) × IsTrue (eq q x)) [
        | None ↦ λ e k. absurd (true≢false (sym k))
        | Some x ↦ λ e k. (x, e, k)
      ] refl h

  pub stands : (keys : List K) (q x : K) (i : ℕ) → slice_get keys i ≡ Some x → IsTrue (eq q x) → IsTrue (stands_for eq keys q i)
  stands keys q x i e h = ap (λ o. option_map_or (eq q) o false) e ∙ h

  pub stands_below : (keys : List K) (q : K) (i : ℕ) → IsTrue (stands_for eq keys q i) → i < length keys
  stands_below keys q i h = let s = stood keys q i h in slice_get_within keys i s.0 s.1

  -- where a number stands for one key it stands for those that are equal to it
  pub stands_alike : (keys : List K) (q x : K) (i : ℕ) → IsTrue (stands_for eq keys x i) → stands_for eq keys q i ≡ eq q x
  stands_alike keys q x i h =
      let s = stood keys x i h in
      ap (λ o. option_map_or (eq q) o false) s.1 ∙ laws.symm q s.0 ∙ sym (laws.congr x s.0 q s.2) ∙ laws.symm x q

  -- one more key, which stands for the next number
  pub keys_step : (keys all after : List K) (x y : K) (ns left rest : List ℕ) (n : ℕ) → after ≡ all ++ y ∷ [] → left ≡ n ∷ rest
      → slice_get keys n ≡ Some x → IsTrue (eq x y)
      → ((q : K) → (is_member eq all q || is_numbered eq keys left q) ≡ is_numbered eq keys ns q)
      → (q : K) → (is_member eq after q || is_numbered eq keys rest q) ≡ is_numbered eq keys ns q
  keys_step keys all after x y ns left rest n pushed first at clone before q =
      ap (λ b. b || is_numbered eq keys rest q) (ap (λ ys. is_member eq ys q) pushed ∙ list_any-append (eq q) all (y ∷ []))
      ∙ or_step (is_member eq all q) (eq q y) (is_numbered eq keys rest q)
      ∙ ap (λ b. is_member eq all q || (b || is_numbered eq keys rest q))
      (laws.symm q y ∙ sym (laws.congr x y q clone) ∙ laws.symm x q ∙ sym (ap (λ o. option_map_or (eq q) o false) at))
      ∙ ap (λ ms. is_member eq all q || is_numbered eq keys ms q) (sym first)
      ∙ before q

  -- more keys change nothing for the numbers of those that were there
  pub numbered_still : (keys more new : List K) (numbers : List ℕ) → new ≡ keys ++ more
      → ((i : ℕ) → IsTrue (is_member nat_eq numbers i) → i < length keys) → (q : K) → is_numbered eq new numbers q ≡ is_numbered eq keys numbers q
  numbered_still keys more new numbers cut below q = list_any_same (stands_for eq new q) (stands_for eq keys q) numbers (λ k i h.
      ap (λ o. option_map_or (eq q) o false) (ap (λ xs. slice_get xs i) cut ∙ slice_get-front keys more i (below i (member_at nat_eq_equiv numbers k i h))))

  -- one more number, which stands for the next key
  pub numbers_step : (keys more new : List K) (numbers after : List ℕ) (n : ℕ) (all left rest : List K) (x : K)
      → new ≡ keys ++ more → after ≡ numbers ++ n ∷ [] → IsTrue (stands_for eq new x n) → left ≡ x ∷ rest
      → ((i : ℕ) → IsTrue (is_member nat_eq numbers i) → i < length keys)
      → ((q : K) → (is_numbered eq keys numbers q || is_member eq left q) ≡ is_member eq all q)
      → (q : K) → (is_numbered eq new after q || is_member eq rest q) ≡ is_member eq all q
  numbers_step keys more new numbers after n all left rest x cut pushed here first below before q =
      ap (λ b. b || is_member eq rest q) (ap (λ ns. is_numbered eq new ns q) pushed ∙ list_any-append (stands_for eq new q) numbers (n ∷ []))
      ∙ or_step (is_numbered eq new numbers q) (stands_for eq new q n) (is_member eq rest q)
      ∙ ap (λ b. b || (stands_for eq new q n || is_member eq rest q)) (numbered_still keys more new numbers cut below q)
      ∙ ap (λ b. is_numbered eq keys numbers q || (b || is_member eq rest q)) (stands_alike new q x n here)
      ∙ ap (λ xs. is_numbered eq keys numbers q || is_member eq xs q) (sym first)
      ∙ before q

  -- the edges from one more number
  pub edges_step : (next : K → List K) → AreAlike laws next → (keys more new : List K) (edges after : List (Vec ℕ)) (row : Vec ℕ) (x at : K)
      → new ≡ keys ++ more → after ≡ edges ++ row ∷ [] → slice_get keys (length edges) ≡ Some x → IsTrue (eq x at)
      → AreNumbersOf eq new row.items (next at) → ((a b : ℕ) → HasTarget edges a b → b < length keys)
      → AreEdgesOf eq keys next edges → AreEdgesOf eq new next after
  edges_step next same keys more new edges after row x at cut pushed here clone numbers below before i y inside found q =
      let long : length after ≡ length edges + 1 = ap length pushed ∙ length_push edges row in
      let seam = slice_get_within keys (length edges) x here in
      let old : (j : ℕ) → j < length keys → slice_get new j ≡ slice_get keys j = λ j h. ap (λ xs. slice_get xs j) cut ∙ slice_get-front keys more j h in
      elim (cases_lt i (length edges)) [
        | inl k ↦
            let kept = row_before edges after row i pushed k in
            ap (λ ns. is_numbered eq new ns q) kept
            ∙ numbered_still keys more new (numbers_at edges i) cut (λ b h. below i b h) q
            ∙ before i y k (sym (old i (omega arith)) ∙ found) q
        | inr k ↦
            let last : i ≡ length edges = omega arith in
            let is = row_last edges after row i pushed last in
            let one : Some y ≡ Some x = sym found ∙ ap (λ j. slice_get new j) last ∙ old (length edges) seam ∙ here in
            let key : y ≡ x = cc in
            ap (λ ns. is_numbered eq new ns q) is ∙ numbers q ∙ ap (λ xs. is_member eq xs q) (sym (ap next key ∙ same x at clone))
      ]

  module _ (next : K → List K) (same : AreAlike laws next) (keys : List K) (edges : List (Vec ℕ))
      (lengths : length edges ≡ length keys) (within : AreWithin edges) (follows : AreEdgesOf eq keys next edges) where
    -- an edge between keys, and the number of its end
    follow : (a q x : K) (i : ℕ) → slice_get keys i ≡ Some x → IsTrue (eq a x) → IsEdge eq next a q
        → (j : ℕ) × HasTarget edges i j × IsTrue (stands_for eq keys q j)
    follow a q x i here alike h =
        let inside = slice_get_within keys i x here in
        let below : i < length edges = omega arith in
        let found = passes_at (stands_for eq keys q) (numbers_at edges i)
        (follows i x below here q ∙ ap (λ xs. is_member eq xs q) (sym (same a x alike)) ∙ h) in
        (found.1, member_at nat_eq_equiv (numbers_at edges i) found.0 found.1 found.2, found.3)

    -- an edge between numbers is one between their keys
    followed : (x q : K) (i j : ℕ) → slice_get keys i ≡ Some x → HasTarget edges i j → IsTrue (stands_for eq keys q j) → IsEdge eq next x q
    followed x q i j here h stood_for =
        let inside = slice_get_within keys i x here in
        let below : i < length edges = omega arith in
        let found = passes_at (nat_eq j) (numbers_at edges i) h in
        let is : j ≡ found.1 = eqb-true j found.1 found.3 in
        sym (follows i x below here q) ∙ list_any-at (stands_for eq keys q) (numbers_at edges i) found.0 found.1 found.2
        (ap (λ k. stands_for eq keys q k) (sym is) ∙ stood_for)

    pub reached_by_numbers : {i j : ℕ} → Reaches (HasTarget edges) i j → (x q : K) → slice_get keys i ≡ Some x → IsTrue (stands_for eq keys q j)
        → Reaches (IsEdge eq next) x q
    reached_by_numbers (edge {a = i} {b = j} h) x q here last = edge (followed x q i j here h last)
    reached_by_numbers (further {a = i} {b = m} h r) x q here last =
        let inside : m < length keys = subst (λ n. m < n) lengths (within i m h) in
        let there = element_at keys m inside in
        further (followed x there.0 i m here h (stands keys there.0 there.0 m there.1 (laws.refl there.0))) (reached_by_numbers r there.0 q there.1 last)

    pub reached_by_keys : {a q : K} → Reaches (IsEdge eq next) a q → (x : K) (i : ℕ) → slice_get keys i ≡ Some x → IsTrue (eq a x)
        → (j : ℕ) × Reaches (HasTarget edges) i j × IsTrue (stands_for eq keys q j)
    reached_by_keys (edge {a} {b = q} h) x i here alike = let f = follow a q x i here alike h in (f.0, edge f.1, f.2)
    reached_by_keys (further {a} {b = m} h r) x i here alike =
        let f = follow a m x i here alike h in
        let s = stood keys m f.0 f.2 in
        let g = reached_by_keys r s.0 f.0 s.1 s.2 in
        (g.0, further f.1 g.1, g.2)

    -- the keys of the numbers that the number of a key reaches are those that the key reaches
    pub row_is : (rows : List (Vec ℕ)) (i : ℕ) → IsReachedAt edges rows i → (x : K) → slice_get keys i ≡ Some x → (found : List K)
        → ((q : K) → is_member eq found q ≡ is_numbered eq keys (numbers_at rows i) q) → (q : K)
        → IsTrue (is_member eq found q) ↔ Reaches (IsEdge eq next) x q
    row_is rows i reached x here found are q = (
      λ h.
          let p = passes_at (stands_for eq keys q) (numbers_at rows i) (sym (are q) ∙ h) in
          reached_by_numbers ((reached p.1).0 (member_at nat_eq_equiv (numbers_at rows i) p.0 p.1 p.2)) x q here p.3,
      λ r.
          let f = reached_by_keys r x i here (laws.refl x) in
          let p = passes_at (nat_eq f.0) (numbers_at rows i) ((reached f.0).1 f.1) in
          let is : f.0 ≡ p.1 = eqb-true f.0 p.1 p.3 in
          are q ∙ list_any-at (stands_for eq keys q) (numbers_at rows i) p.0 p.1 p.2 (ap (λ k. stands_for eq keys q k) (sym is) ∙ f.2),
    )

-- the numbers at a number whose list was written, and at the others
pub row_written : (rows : List (Vec ℕ)) (x : ℕ) (row : Vec ℕ) → x < length rows → numbers_at (slice_set rows x row) x ≡ row.items
row_written rows x row below =
    let long : length (slice_set rows x row) ≡ length rows = length-set rows x row in
    ap (λ o. option_map_or (λ (r : Vec ℕ). r.items) o [])
    (slice_get-get_or (slice_set rows x row) x row (omega arith) ∙ ap (λ r. Some r) (get_or-set_same rows x row row below))

pub row_left : (rows : List (Vec ℕ)) (x a : ℕ) (row : Vec ℕ) → ¬ (a ≡ x) → numbers_at (slice_set rows x row) a ≡ numbers_at rows a
row_left rows x a row other =
    let long : length (slice_set rows x row) ≡ length rows = length-set rows x row in
    ap (λ o. option_map_or (λ (r : Vec ℕ). r.items) o []) (elim (cases_lt a (length rows)) [
      | inl k ↦ slice_get-get_or (slice_set rows x row) a row (omega arith) ∙ ap (λ r. Some r) (get_or-set_other rows x a row row other)
          ∙ sym (slice_get-get_or rows a row k)
      | inr k ↦ slice_get_past (slice_set rows x row) a (omega arith) ∙ sym (slice_get_past rows a k)
    ])

-- what is found at a number may be let go of once it was looked at
pub reached_past : (edges rows : List (Vec ℕ)) (n : ℕ) (row : Vec ℕ) → AreReachedFrom n edges rows → AreReachedFrom (n + 1) edges (slice_set rows n row)
reached_past edges rows n row reached a from below b =
    let long : length (slice_set rows n row) ≡ length rows = length-set rows n row in
    let other : ¬ (a ≡ n) = λ e. absurd (let never : ⊥ = omega arith in never) in
    let same = ap (λ ns. is_member nat_eq ns b) (row_left rows n a row other) in
    let before = reached a (omega arith) (omega arith) b in
    (λ h. before.0 (sym same ∙ h), λ r. same ∙ before.1 r)

-- one more number in one of the lists
pub within_pushed : (rows : List (Vec ℕ)) (x from : ℕ) (row more : Vec ℕ) → x < length rows → from < length rows → row ≡ slice_index_or rows x row
    → more.items ≡ row.items ++ from ∷ []
    → AreWithin rows → AreWithin (slice_set rows x more)
within_pushed rows x from row more below inside is pushed within a b h =
    let long : length (slice_set rows x more) ≡ length rows = length-set rows x more in
    subst (λ n. b < n) (sym long) (elim (eqb_tells a x) [
      | inl t ↦
          let at : numbers_at (slice_set rows x more) a ≡ numbers_at rows x ++ from ∷ [] = ap (λ y. numbers_at (slice_set rows x more) y) t.1
          ∙ row_written rows x more below ∙ pushed ∙ ap (λ ns. ns ++ from ∷ []) (sym (row_at rows x row below is)) in
          elim (or_cases (is_member nat_eq (numbers_at rows x) b) (nat_eq b from || false)
          (sym (ap (λ ns. is_member nat_eq ns b) at ∙ list_any-append (nat_eq b) (numbers_at rows x) (from ∷ [])) ∙ h)) [
            | inl k ↦ within x b k
            | inr k ↦ let same : b ≡ from = eqb-true b from (sym (or_none (nat_eq b from)) ∙ k) in omega arith
          ]
      | inr t ↦ within a b (sym (ap (λ ns. is_member nat_eq ns b) (row_left rows x a more t.1)) ∙ h)
    ])

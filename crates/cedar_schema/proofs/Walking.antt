-- The steps of a walk along the edges of a graph over numbers.
use Rattle.std.proofs.Common.{◌≡◌, ◌≢◌, ◌⊎◌, inl, inr, ℕ, ◌+◌, ◌-◌, ◌<◌, ◌≤◌, Bool, true, false, List, [], ◌∷◌, ◌++◌, length, take, slice_index, slice_index_or, slice_set, IsTrue, refl, sym, ap, ◌∙◌, subst, true≢false, arith}
use Rattle.std.specs.Prelude.{AllPairs}
use Rattle.std.specs.Global.{Vec}
use Rattle.std.proofs.lemmas.Bool.{cases_lt}
use Rattle.std.proofs.lemmas.Bool.Decides.{eqb_tells}
use Rattle.std.proofs.lemmas.List.{get_or_append_left, get_or_past, get_or_push, get_or-set_same, get_or-set_other, get_or_default, get_or_read, length_push, length-set, length-take-le, get_or-take}
use Rattle.std.proofs.lemmas.List.Quantifiers.{all_pairs_push}
use Rattle.std.proofs.lemmas.Option.{slice_get_past, slice_get_read, get_or_from_slice_get}
use Rattle.std.specs.Option.{option_map_or}
use Rattle.cedar_language.specs.Facts.{Reaches, edge, further}
use Rattle.cedar_schema.specs.Orders.{targets_of, StandsBefore, StandsIn, HasTarget, AreWithin, TargetsComeFirst, IsOrder}
use Rattle.cedar_schema.specs.Walks.{IsWalk}
use Rattle.cedar_schema.specs.declared.ordering.Walk.{Walk}

-- ---- one more at the end of a list

pub still_in : (xs : List ℕ) (y q : ℕ) → StandsIn xs q → StandsIn (xs ++ y ∷ []) q
still_in xs y q h =
    let more : length (xs ++ y ∷ []) ≡ length xs + 1 = length_push xs y in
    let low : h.0 < length xs = h.1 in
    (h.0, omega arith, get_or_append_left xs (y ∷ []) 0 h.0 h.1 ∙ h.2)

pub last_in : (xs : List ℕ) (y : ℕ) → StandsIn (xs ++ y ∷ []) y
last_in xs y =
    let more : length (xs ++ y ∷ []) ≡ length xs + 1 = length_push xs y in
    (length xs, omega arith, get_or_push xs y 0 (length xs) refl)

-- what holds of those before and of the last holds of each
pub each_pushed : (P : ℕ → Type 0) (xs : List ℕ) (y : ℕ) → ((k : ℕ) → k < length xs → P (slice_index xs k)) → P y
    → (k : ℕ) → k < length (xs ++ y ∷ []) → P (slice_index (xs ++ y ∷ []) k)
each_pushed P xs y before here k h = elim (cases_lt k (length xs)) [
  | inl low ↦ subst P (sym (get_or_append_left xs (y ∷ []) 0 k low)) (before k low)
  | inr high ↦
      let more : length (xs ++ y ∷ []) ≡ length xs + 1 = length_push xs y in
      let last : k ≡ length xs = omega arith in
      subst P (sym (get_or_push xs y 0 k (sym last))) here
]

-- ---- edges, one after another

pub reaches_on : {K : Type 0} {Leads : K → K → Type 0} {a b c : K} → Reaches Leads a b → Leads b c → Reaches Leads a c
reaches_on (edge e) f = further e (edge f)
reaches_on (further e r) f = further e (reaches_on r f)

module _ (w : Walk) (is : IsWalk w) (n : ℕ) (below : n < length w.edges.now) where
  -- ---- a number behind the path

  pub entered : (seen : Vec Bool) (path : Vec ℕ) → ((k : ℕ) → k < length w.path.items → Reaches (HasTarget w.edges.now) (slice_index w.path.items k) n)
      → seen.items ≡ slice_set w.is_seen.items n true → path.items ≡ w.path.items ++ n ∷ [] → IsWalk (record w { is_seen = seen; path = path })
  entered seen path leads s p = record {
    left_count = is.left_count;
    seen_count = ap length s ∙ length-set w.is_seen.items n true ∙ is.seen_count;
    done_count = is.done_count;
    left_below = is.left_below;
    path_below = subst (λ xs. (k : ℕ) → k < length xs → slice_index xs k < length w.edges.now) (sym p)
        (each_pushed (λ x. x < length w.edges.now) w.path.items n is.path_below below);
    order_below = is.order_below;
    on_path = λ q h d. subst (λ xs. StandsIn xs q) (sym p) (opened q (sym (ap (λ bs. slice_index_or bs q false) s) ∙ h) d);
    leads = subst (AllPairs (Reaches (HasTarget w.edges.now))) (sym p) (all_pairs_push (Reaches (HasTarget w.edges.now)) w.path.items n is.leads (λ k d h. moved k d h));
    followed = is.followed;
    ordered = is.ordered;
    first = is.first;
  }
    where
      opened : (q : ℕ) → slice_index_or (slice_set w.is_seen.items n true) q false ≡ true → slice_index_or w.is_done.items q false ≡ false → StandsIn (w.path.items ++ n ∷ []) q
      opened q h d = elim (eqb_tells q n) [
        | inl t ↦ subst (λ x. StandsIn (w.path.items ++ n ∷ []) x) (sym t.1) (last_in w.path.items n)
        | inr t ↦ still_in w.path.items n q (is.on_path q (sym (get_or-set_other w.is_seen.items n q true false t.1) ∙ h) d)
      ]

      moved : (k d : ℕ) → k < length w.path.items → Reaches (HasTarget w.edges.now) (slice_index_or w.path.items k d) n
      moved k d h = subst (λ x. Reaches (HasTarget w.edges.now) x n) (get_or_default w.path.items k 0 d h) (leads k h)

  -- ---- the last number off the path

  module _ (m : ℕ) (count : m + 1 ≡ length w.path.items) (last : slice_index w.path.items m ≡ n) (zero_left : slice_index w.left.items n ≡ 0) where
    pub left_behind : (done : Vec Bool) (path order : Vec ℕ) → done.items ≡ slice_set w.is_done.items n true → path.items ≡ take m w.path.items
        → order.items ≡ w.order.items ++ n ∷ [] → IsWalk (record w { is_done = done; path = path; order = order })
    left_behind done path order d p o = record {
      left_count = is.left_count;
      seen_count = is.seen_count;
      done_count = ap length d ∙ length-set w.is_done.items n true ∙ is.done_count;
      left_below = is.left_below;
      path_below = subst (λ xs. (k : ℕ) → k < length xs → slice_index xs k < length w.edges.now) (sym p) (λ k h. low k h);
      order_below = subst (λ xs. (k : ℕ) → k < length xs → slice_index xs k < length w.edges.now) (sym o)
          (each_pushed (λ x. x < length w.edges.now) w.order.items n is.order_below below);
      on_path = λ q h f. subst (λ xs. StandsIn xs q) (sym p) (opened q h (sym (ap (λ bs. slice_index_or bs q false) d) ∙ f));
      leads = subst (AllPairs (Reaches (HasTarget w.edges.now))) (sym p) (λ i j e h k. paired i j e h k);
      followed = λ v k h f. subst (λ bs. IsTrue (slice_index_or bs (slice_index (targets_of w.edges.now v) k) false)) (sym d) (kept (slice_index (targets_of w.edges.now v) k) (is.followed v k h f));
      ordered = λ q h. subst (λ xs. StandsIn xs q) (sym o) (placed q (sym (ap (λ bs. slice_index_or bs q false) d) ∙ h));
      first = subst (TargetsComeFirst w.edges.now) (sym o) (λ k t h e. come_first k t h e);
    }
      where
        cut : length (take m w.path.items) ≡ m
        cut = let fits : m ≤ length w.path.items = omega arith in length-take-le m w.path.items fits

        low : (k : ℕ) → k < length (take m w.path.items) → slice_index (take m w.path.items) k < length w.edges.now
        low k h =
            let e : length (take m w.path.items) ≡ m = cut in
            subst (λ x. x < length w.edges.now) (sym (get_or-take m w.path.items k 0 (omega arith))) (is.path_below k (omega arith))

        paired : (i j e : ℕ) → i < j → j < length (take m w.path.items) → Reaches (HasTarget w.edges.now) (slice_index_or (take m w.path.items) i e) (slice_index_or (take m w.path.items) j e)
        paired i j e h k =
            let f : length (take m w.path.items) ≡ m = cut in
            subst (λ x. Reaches (HasTarget w.edges.now) x (slice_index_or (take m w.path.items) j e)) (sym (get_or-take m w.path.items i e (omega arith)))
            (subst (Reaches (HasTarget w.edges.now) (slice_index_or w.path.items i e)) (sym (get_or-take m w.path.items j e (omega arith))) (is.leads i j e h (omega arith)))

        kept : (q : ℕ) → slice_index_or w.is_done.items q false ≡ true → slice_index_or (slice_set w.is_done.items n true) q false ≡ true
        kept q h = elim (eqb_tells q n) [
          | inl t ↦
              let here : n < length w.is_done.items = subst (λ x. n < x) (sym is.done_count) below in
              subst (λ x. slice_index_or (slice_set w.is_done.items n true) x false ≡ true) (sym t.1) (get_or-set_same w.is_done.items n true false here)
          | inr t ↦ get_or-set_other w.is_done.items n q true false t.1 ∙ h
        ]

        opened : (q : ℕ) → slice_index_or w.is_seen.items q false ≡ true → slice_index_or (slice_set w.is_done.items n true) q false ≡ false → StandsIn (take m w.path.items) q
        opened q h f = elim (eqb_tells q n) [
          | inl t ↦
              let here : n < length w.is_done.items = subst (λ x. n < x) (sym is.done_count) below in
              absurd (true≢false (sym (get_or-set_same w.is_done.items n true false here) ∙ subst (λ x. slice_index_or (slice_set w.is_done.items n true) x false ≡ false) t.1 f))
          | inr t ↦
              let r = is.on_path q h (sym (get_or-set_other w.is_done.items n q true false t.1) ∙ f) in
              elim (cases_lt r.0 m) [
                | inl k ↦
                    let e : length (take m w.path.items) ≡ m = cut in
                    let j : r.0 < m = k in
                    (r.0, subst (λ x. r.0 < x) (sym e) j, get_or-take m w.path.items r.0 0 j ∙ r.2)
                | inr k ↦
                    let j : r.0 < length w.path.items = r.1 in
                    let g : m ≤ r.0 = k in
                    let same : r.0 ≡ m = omega arith in
                    absurd (t.1 (sym r.2 ∙ ap (slice_index w.path.items) same ∙ last))
              ]
        ]

        placed : (q : ℕ) → slice_index_or (slice_set w.is_done.items n true) q false ≡ true → StandsIn (w.order.items ++ n ∷ []) q
        placed q h = elim (eqb_tells q n) [
          | inl t ↦ subst (λ x. StandsIn (w.order.items ++ n ∷ []) x) (sym t.1) (last_in w.order.items n)
          | inr t ↦ still_in w.order.items n q (is.ordered q (sym (get_or-set_other w.is_done.items n q true false t.1) ∙ h))
        ]

        come_first : (k t : ℕ) → k < length (w.order.items ++ n ∷ []) → HasTarget w.edges.now (slice_index (w.order.items ++ n ∷ []) k) t → StandsBefore k (w.order.items ++ n ∷ []) t
        come_first k t h e = elim (cases_lt k (length w.order.items)) [
          | inl lower ↦
              let r = is.first k t lower (subst (λ x. HasTarget w.edges.now x t) (get_or_append_left w.order.items (n ∷ []) 0 k lower) e) in
              let i : r.0 < k = r.1 in
              let j : k < length w.order.items = lower in
              (r.0, r.1, get_or_append_left w.order.items (n ∷ []) 0 r.0 (omega arith) ∙ r.2)
          | inr high ↦
              let more : length (w.order.items ++ n ∷ []) ≡ length w.order.items + 1 = length_push w.order.items n in
              let here : k ≡ length w.order.items = omega arith in
              let f = subst (λ x. HasTarget w.edges.now x t) (get_or_push w.order.items n 0 k (sym here)) e in
              let done : slice_index_or w.is_done.items t false ≡ true = subst (λ x. slice_index_or w.is_done.items x false ≡ true) f.2 (is.followed n f.0 (omega (arith, zero_left)) f.1) in
              let r = is.ordered t done in
              (r.0, subst (λ x. r.0 < x) (sym here) r.1, get_or_append_left w.order.items (n ∷ []) 0 r.0 r.1 ∙ r.2)
        ]

  -- ---- one edge followed, to what is done

  pub followed_on : (left : Vec ℕ) (x : ℕ) → slice_index w.left.items n ≡ x + 1 → slice_index_or w.is_done.items (slice_index (targets_of w.edges.now n) x) false ≡ true
      → left.items ≡ slice_set w.left.items n x → IsWalk (record w { left = left })
  followed_on left x more done e = record {
    left_count = ap length e ∙ length-set w.left.items n x ∙ is.left_count;
    seen_count = is.seen_count;
    done_count = is.done_count;
    left_below = λ v. subst (λ xs. slice_index xs v ≤ length (targets_of w.edges.now v)) (sym e) (lower v);
    path_below = is.path_below;
    order_below = is.order_below;
    on_path = is.on_path;
    leads = is.leads;
    followed = λ v k h f. known v k (subst (λ xs. slice_index xs v ≤ k) e h) f;
    ordered = is.ordered;
    first = is.first;
  }
    where
      here : n < length w.left.items
      here = subst (λ m. n < m) (sym is.left_count) below

      lower : (v : ℕ) → slice_index (slice_set w.left.items n x) v ≤ length (targets_of w.edges.now v)
      lower v = elim (eqb_tells v n) [
        | inl t ↦
            let was : slice_index w.left.items v ≤ length (targets_of w.edges.now v) = is.left_below v in
            let one : slice_index w.left.items v ≡ x + 1 = ap (slice_index w.left.items) t.1 ∙ more in
            let now : slice_index (slice_set w.left.items n x) v ≡ x = ap (slice_index (slice_set w.left.items n x)) t.1 ∙ get_or-set_same w.left.items n x 0 here in
            omega arith
        | inr t ↦ subst (λ y. y ≤ length (targets_of w.edges.now v)) (sym (get_or-set_other w.left.items n v x 0 t.1)) (is.left_below v)
      ]

      known : (v k : ℕ) → slice_index (slice_set w.left.items n x) v ≤ k → k < length (targets_of w.edges.now v) → slice_index_or w.is_done.items (slice_index (targets_of w.edges.now v) k) false ≡ true
      known v k h f = elim (eqb_tells v n) [
        | inr t ↦ is.followed v k (subst (λ y. y ≤ k) (get_or-set_other w.left.items n v x 0 t.1) h) f
        | inl t ↦ elim (cases_lt x k) [
          | inl above ↦
              let one : slice_index w.left.items v ≡ x + 1 = ap (slice_index w.left.items) t.1 ∙ more in
              let high : x < k = above in
              is.followed v k (omega arith) f
          | inr under ↦
              let now : slice_index (slice_set w.left.items n x) v ≡ x = ap (slice_index (slice_set w.left.items n x)) t.1 ∙ get_or-set_same w.left.items n x 0 here in
              let low : k ≤ x = under in
              let from : slice_index (slice_set w.left.items n x) v ≤ k = h in
              let same : k ≡ x = omega arith in
              subst (λ y. slice_index_or w.is_done.items (slice_index (targets_of w.edges.now y) k) false ≡ true) (sym t.1)
              (subst (λ y. slice_index_or w.is_done.items (slice_index (targets_of w.edges.now n) y) false ≡ true) (sym same) done)
        ]
      ]

-- ---- rows that are read

pub no_targets : (edges : List (Vec ℕ)) (v : ℕ) → length edges ≤ v → length (targets_of edges v) ≡ 0
no_targets edges v h = ap (λ o. length (option_map_or (λ (row : Vec ℕ). row.items) o [])) (slice_get_past edges v h)

pub row_read : (edges : List (Vec ℕ)) (v : ℕ) (row : Vec ℕ) → v < length edges → row ≡ slice_index_or edges v row → targets_of edges v ≡ row.items
row_read edges v row h e = ap (λ o. option_map_or (λ (r : Vec ℕ). r.items) o []) (slice_get_read edges (length edges) v row refl h e)

-- as many counts as numbers, each of its edges
pub counted : (counts : List ℕ) (edges : List (Vec ℕ)) → length counts ≡ length edges → ((v : ℕ) → v < length edges → slice_index counts v ≡ length (targets_of edges v))
    → (v : ℕ) → slice_index counts v ≡ length (targets_of edges v)
counted counts edges e h v = elim (cases_lt v (length edges)) [
  | inl low ↦ h v low
  | inr high ↦ get_or_past counts v 0 (subst (λ n. n ≤ v) (sym e) high) ∙ sym (no_targets edges v high)
]

-- a mark that was read
pub mark_read : (marks : List Bool) (n : ℕ) (b : Bool) → n < length marks → b ≡ slice_index_or marks n b → slice_index_or marks n false ≡ b
mark_read marks n b below is = get_or_from_slice_get marks n b false (slice_get_read marks (length marks) n b refl below is)

-- the next edge to be followed leads to one of the numbers
module _ (w : Walk) (is : IsWalk w) (n t : ℕ) (some : 0 < slice_index w.left.items n) (e : slice_index (targets_of w.edges.now n) (slice_index w.left.items n - 1) ≡ t) where
  pub is_target : HasTarget w.edges.now n t
  is_target =
      let most : slice_index w.left.items n ≤ length (targets_of w.edges.now n) = is.left_below n in
      let one : 0 < slice_index w.left.items n = some in
      (slice_index w.left.items n - 1, omega arith, e)

  pub target_below : AreWithin w.edges.now → t < length w.is_done.items
  target_below within = subst (λ m. t < m) (sym is.done_count) (within n t is_target)

-- and is read so
pub place_read : (w : Walk) → IsWalk w → (n i x : ℕ) (row : Vec ℕ) → n < length w.edges.now → 0 < slice_index w.left.items n
    → row ≡ slice_index_or w.edges.now n row → i ≡ slice_index_or w.left.items n i → x ≡ slice_index_or (slice_index_or w.edges.now n row).items (i - 1) x
    → slice_index (targets_of w.edges.now n) (slice_index w.left.items n - 1) ≡ x
place_read w is n i x row below some r e f =
    let here : n < length w.left.items = subst (λ m. n < m) (sym is.left_count) below in
    let count : i ≡ slice_index w.left.items n = get_or_read w.left.items n i here e 0 in
    let targets : targets_of w.edges.now n ≡ row.items = row_read w.edges.now n row below r in
    let most : slice_index w.left.items n ≤ length row.items = subst (λ xs. slice_index w.left.items n ≤ length xs) targets (is.left_below n) in
    let one : 0 < slice_index w.left.items n = some in
    let read : x ≡ slice_index_or row.items (i - 1) x = f ∙ ap (λ (v : Vec ℕ). slice_index_or v.items (i - 1) x) (sym r) in
    ap (λ xs. slice_index xs (slice_index w.left.items n - 1)) targets ∙ ap (λ k. slice_index row.items (k - 1)) (sym count)
    ∙ sym (get_or_read row.items (i - 1) x (omega arith) read 0)

-- ---- the last number of the path

module _ (w : Walk) (is : IsWalk w) (n : ℕ) (some : 0 < length w.path.items) (last : slice_index w.path.items (length w.path.items - 1) ≡ n) where
  -- all of the path lead where it leads
  pub path_leads : (t : ℕ) → HasTarget w.edges.now n t → (k : ℕ) → k < length w.path.items → Reaches (HasTarget w.edges.now) (slice_index w.path.items k) t
  path_leads t e k h = elim (cases_lt k (length w.path.items - 1)) [
    | inl low ↦
        let one : 0 < length w.path.items = some in
        reaches_on (subst (Reaches (HasTarget w.edges.now) (slice_index w.path.items k)) last (is.leads k (length w.path.items - 1) 0 low (omega arith))) e
    | inr high ↦
        let under : k < length w.path.items = h in
        let same : k ≡ length w.path.items - 1 = omega arith in
        subst (λ x. Reaches (HasTarget w.edges.now) x t) (sym last ∙ ap (slice_index w.path.items) (sym same)) (edge e)
  ]

  -- an edge back to the path closes a cycle
  pub closes : (t : ℕ) → HasTarget w.edges.now n t → IsTrue (slice_index_or w.is_seen.items t false) → slice_index_or w.is_done.items t false ≡ false
      → Reaches (HasTarget w.edges.now) t t
  closes t e seen open_ =
      let r = is.on_path t seen open_ in
      subst (λ x. Reaches (HasTarget w.edges.now) x t) r.2 (path_leads t e r.0 r.1)

  pub top_below : n < length w.edges.now
  top_below =
      let one : 0 < length w.path.items = some in
      subst (λ x. x < length w.edges.now) last (is.path_below (length w.path.items - 1) (omega arith))

-- ---- the end

module _ (w : Walk) (is : IsWalk w) (empty : w.path.items ≡ []) (seen : (q : ℕ) → q < length w.edges.now → IsTrue (slice_index_or w.is_seen.items q false)) where
  nowhere : (q : ℕ) → StandsIn w.path.items q → ⊥
  nowhere q r =
      let low : r.0 < 0 = subst (λ n. r.0 < n) (ap length empty) r.1 in
      omega arith

  -- where nothing is on the path all that is seen is done
  all_done : (q : ℕ) → q < length w.edges.now → slice_index_or w.is_done.items q false ≡ true
  all_done q h =
      elim (slice_index_or w.is_done.items q false) as (λ b. slice_index_or w.is_done.items q false ≡ b → b ≡ true) [
        | true ↦ λ e. refl
        | false ↦ λ e. absurd (nowhere q (is.on_path q (seen q h) e))
      ] refl

  pub finished : IsOrder w.edges.now w.order.items
  finished = record {
    whole = λ q h. is.ordered q (all_done q h);
    below = is.order_below;
    first = is.first;
  }

-- Edges between the numbers of actions lead as groups do.
use Rattle.std.proofs.Common.{◌≡◌, ◌⊎◌, inl, inr, ℕ, zero, suc, ◌+◌, ◌<◌, ◌≤◌, Bool, true, false, ◌&&◌, ◌||◌, List, [], ◌∷◌, ◌++◌, length, get_or, slice_index, Option, Some, None, append_assoc, refl, sym, ap, ◌∙◌, subst, zero-add, arith}
use Rattle.std.specs.Prelude.{map, option_map, option_to_list}
use Rattle.std.specs.Global.{Vec}
use Rattle.std.specs.List.{slice_get, list_any, cons_option}
use Rattle.std.specs.Option.{option_map_or}
use Rattle.std.proofs.lemmas.List.{length-map, map-append}
use Rattle.std.proofs.lemmas.Option.{slice_get_cases, slice_get_within, slice_get-map}
use Rattle.cedar_language.specs.Uid.{Text, Name, Uid}
use Rattle.cedar_language.specs.Facts.{Reaches, edge, further}
use Rattle.cedar_language.specs.Order.{same_name, same_text, same_uid}
use Rattle.cedar_language.proofs.Booleans.{or_cases}
use Rattle.cedar_typing.proofs.Sameness.{uid_is, name_same, text_same}
use Rattle.cedar_schema_grammar.specs.Syntax.{ActionRef}
use Rattle.cedar_schema_grammar.specs.Declared.{Library, Action, Declared, or_else, first_of, places, action_uid, action_at, action_named, type_of_ref}
use Rattle.cedar_schema_grammar.specs.Faults.{found_groups, groups_of, is_in_group, action_reaches}
use Rattle.cedar_schema_grammar.specs.Reaching.{IsAmong, Edge}
use Rattle.cedar_schema_grammar.specs.Laws.{GroupsAreTransitive}
use Rattle.cedar_schema.specs.Orders.{targets_of, StandsBefore, StandsIn, HasTarget, AreWithin, IsOrder}
use Rattle.cedar_schema_faults.specs.Actions.{number_at, number_from, HaveNumbers, number_by_path, number_for, group_numbers, groups_in}
use Rattle.cedar_schema_faults.specs.declared.actions.ActionNumbers.{ActionNumbers}
use Rattle.cedar_schema_faults.proofs.Numbering.{IsNumbered, MayBeNumbered, numbered}

-- ---- lists of numbers and of uids

-- what is among the groups has its number among the targets
target_of : (f : Uid → Option ℕ) (ts : List ℕ) (us : List Uid) → map Some ts ≡ map f us → (u : Uid) → IsAmong u us
    → (q : ℕ) × StandsIn ts q × (f u ≡ Some q)
target_of f ts [] e u a = absurd a
target_of f [] (k ∷ us) e u a = absurd (cc e)
target_of f (t ∷ ts) (k ∷ us) e u (inl a) =
    let head : Some t ≡ f k = cc e in
    (t, (0, omega arith, refl), ap f a ∙ sym head)
target_of f (t ∷ ts) (k ∷ us) e u (inr a) =
    let rest : map Some ts ≡ map f us = cc e in
    let r = target_of f ts us rest u a in
    let low : r.1.0 < length ts = r.1.1 in
    (r.0, (suc r.1.0, omega arith, r.1.2), r.2)

-- and a target is the number of something among them
source_of_number : (f : Uid → Option ℕ) (ts : List ℕ) (us : List Uid) → map Some ts ≡ map f us → (q j : ℕ) → j < length ts → slice_index ts j ≡ q
    → (u : Uid) × IsAmong u us × (f u ≡ Some q)
source_of_number f [] us e q j low at = absurd (omega arith)
source_of_number f (t ∷ ts) [] e q j low at = absurd (cc e)
source_of_number f (t ∷ ts) (k ∷ us) e q zero low at =
    let head : Some t ≡ f k = cc e in
    (k, inl refl, sym head ∙ ap Some at)
source_of_number f (t ∷ ts) (k ∷ us) e q (suc j) low at =
    let rest : map Some ts ≡ map f us = cc e in
    let r = source_of_number f ts us rest q j (omega arith) at in
    (r.0, inr r.1, r.2)

uid_same : (u : Uid) → same_uid u u ≡ true
uid_same u = ap (λ b. b && same_text u.id u.id) (name_same u.type_name) ∙ text_same u.id

any_is : (u : Uid) (ks : List Uid) → list_any (same_uid u) ks ≡ true → IsAmong u ks
any_is u [] e = absurd (cc e)
any_is u (k ∷ ks) e = by (or_cases (same_uid u k) (list_any (same_uid u) ks) e) (any_is u ks)
  where
    by : (same_uid u k ≡ true) ⊎ (list_any (same_uid u) ks ≡ true) → (list_any (same_uid u) ks ≡ true → IsAmong u ks) → IsAmong u (k ∷ ks)
    by (inl f) ih = inl (uid_is u k f)
    by (inr f) ih = inr (ih f)

is_any : (u : Uid) (ks : List Uid) → IsAmong u ks → list_any (same_uid u) ks ≡ true
is_any u [] a = absurd a
is_any u (k ∷ ks) (inl e) = ap (λ b. b || list_any (same_uid u) ks) (ap (same_uid u) (sym e) ∙ uid_same u)
is_any u (k ∷ ks) (inr a) = ap (λ b. same_uid u k || b) (is_any u ks a) ∙ by (same_uid u k)
  where
    by : (b : Bool) → (b || true) ≡ true
    by true = refl
    by false = refl

wider : (order : List ℕ) (j k q : ℕ) → j < k → StandsBefore j order q → StandsBefore k order q
wider order j k q low s = let lower : s.0 < j = s.1 in (s.0, omega arith, s.2)

-- ---- numbers of groups

module _ (d : Declared) (c : ActionNumbers) (numbers : HaveNumbers d.actions c) where
  abbrev pub number_of : Uid → Option ℕ
  number_of u = number_from 0 d.actions u

  -- an action that is found by its uid, with its number
  record IsAction (u : Uid) (a : Action) (j : ℕ) : Type 0 where
    pub found : action_at d u ≡ Some a
    pub number : number_of u ≡ Some j
    pub at : slice_get d.actions j ≡ Some a
    pub is : action_uid a ≡ u

  of_numbered : (u : Uid) (a : Action) (j : ℕ) → IsNumbered 0 d.actions u a j → IsAction u a j
  of_numbered u a j r = record { found = r.found; number = r.number ∙ ap Some (zero-add j); at = r.at; is = r.is }

  common_at : (u : Uid) (a : Action) → action_at d u ≡ Some a → (j : ℕ) × IsAction u a j
  common_at u a e = by (numbered 0 d.actions u)
    where
      by : MayBeNumbered 0 d.actions u → (j : ℕ) × IsAction u a j
      by (inl r) = absurd (cc (sym e ∙ r.0))
      by (inr r) = let same : r.0 ≡ a = cc (sym r.2.found ∙ e) in (r.1, subst (λ b. IsAction u b r.1) same (of_numbered u r.0 r.1 r.2))

  common_of : (u : Uid) (j : ℕ) → number_of u ≡ Some j → (a : Action) × IsAction u a j
  common_of u j e = by (numbered 0 d.actions u)
    where
      by : MayBeNumbered 0 d.actions u → (a : Action) × IsAction u a j
      by (inl r) = absurd (cc (sym e ∙ r.1))
      by (inr r) =
          let q = of_numbered u r.0 r.1 r.2 in
          let same : r.1 ≡ j = cc (sym q.number ∙ e) in (r.0, subst (λ k. IsAction u r.0 k) same q)

  one_group : (u : Uid) → MayBeNumbered 0 d.actions u
      → map Some (option_to_list (number_of u)) ≡ map number_of (option_to_list (option_map action_uid (action_at d u)))
  one_group u (inl r) = ap (λ o. map Some (option_to_list o)) r.1 ∙ sym (ap (λ o. map number_of (option_to_list (option_map action_uid o))) r.0)
  one_group u (inr r) =
      ap (λ o. map Some (option_to_list o)) r.2.number ∙ ap (λ o. o ∷ []) (sym r.2.number ∙ ap number_of (sym r.2.is))
      ∙ sym (ap (λ o. map number_of (option_to_list (option_map action_uid o))) r.2.found)

  first_group : (at : Name → Uid) (ms : List Name)
      → map Some (option_to_list (first_of (λ m. number_at c (at m)) ms))
      ≡ map number_of (option_to_list (first_of (λ m. option_map action_uid (action_at d (at m))) ms))
  first_group at [] = refl
  first_group at (m ∷ ms) =
      ap (λ o. map Some (option_to_list (or_else o (first_of (λ k. number_at c (at k)) ms)))) (numbers (at m))
      ∙ by (numbered 0 d.actions (at m)) (first_group at ms)
    where
      by : MayBeNumbered 0 d.actions (at m)
          → map Some (option_to_list (first_of (λ k. number_at c (at k)) ms))
          ≡ map number_of (option_to_list (first_of (λ k. option_map action_uid (action_at d (at k))) ms))
          → map Some (option_to_list (or_else (number_of (at m)) (first_of (λ k. number_at c (at k)) ms)))
          ≡ map number_of (option_to_list (or_else (option_map action_uid (action_at d (at m))) (first_of (λ k. option_map action_uid (action_at d (at k)))
          ms)))
      by (inl r) ih =
          ap (λ o. map Some (option_to_list (or_else o (first_of (λ k. number_at c (at k)) ms)))) r.1 ∙ ih
          ∙ sym (ap (λ o. map number_of (option_to_list (or_else (option_map action_uid o) (first_of (λ k. option_map action_uid (action_at d (at k)))
          ms)))) r.0)
      by (inr r) ih =
          ap (λ o. map Some (option_to_list (or_else o (first_of (λ k. number_at c (at k)) ms)))) r.2.number
          ∙ ap (λ o. o ∷ []) (sym r.2.number ∙ ap number_of (sym r.2.is))
          ∙ sym (ap (λ o. map number_of (option_to_list (or_else (option_map action_uid o) (first_of (λ k. option_map action_uid (action_at d (at k)))
          ms)))) r.2.found)

  listed : (o : Option Uid) (us : List Uid) → cons_option o us ≡ option_to_list o ++ us
  listed (Some u) us = refl
  listed None us = refl

  groups_numbered : (namespace : Name) (rs : List ActionRef) → map Some (group_numbers c namespace rs) ≡ map number_of (found_groups d namespace rs)
  groups_numbered namespace [] = refl
  groups_numbered namespace (r ∷ rs) =
      map-append Some (option_to_list (number_for c namespace r)) (group_numbers c namespace rs)
      ∙ ap (λ xs. xs ++ map Some (group_numbers c namespace rs)) (first_group (λ m. record { type_name = m; id = r.name }) (places namespace (type_of_ref r)))
      ∙ ap (λ xs. map number_of (option_to_list (action_named d namespace r)) ++ xs) (groups_numbered namespace rs)
      ∙ sym (map-append number_of (option_to_list (action_named d namespace r)) (found_groups d namespace rs))
      ∙ ap (map number_of) (sym (listed (action_named d namespace r) (found_groups d namespace rs)))

  -- ---- edges

  module _ (edges : List (Vec ℕ)) (are : map (λ (row : Vec ℕ). row.items) edges ≡ map (groups_in c) d.actions) where
    as_many : length edges ≡ length d.actions
    as_many = sym (length-map edges (λ (row : Vec ℕ). row.items)) ∙ ap length are ∙ length-map d.actions (groups_in c)

    row_is : (o : Option (Vec ℕ)) (xs : List ℕ) → option_map (λ (row : Vec ℕ). row.items) o ≡ Some xs → option_map_or (λ (row : Vec ℕ). row.items) o [] ≡ xs
    row_is (Some row) xs e = cc e
    row_is None xs e = absurd (cc e)

    targets_are : (i : ℕ) (a : Action) → slice_get d.actions i ≡ Some a → targets_of edges i ≡ groups_in c a
    targets_are i a e = row_is (slice_get edges i) (groups_in c a)
        (sym (slice_get-map (λ (row : Vec ℕ). row.items) edges i) ∙ ap (λ rs. slice_get rs i) are ∙ slice_get-map (groups_in c) d.actions i
        ∙ ap (option_map (groups_in c)) e)

    found_are : (i : ℕ) (a : Action) → slice_get d.actions i ≡ Some a
        → map Some (targets_of edges i) ≡ map number_of (found_groups d a.namespace a.written.groups)
    found_are i a e = ap (map Some) (targets_are i a e) ∙ groups_numbered a.namespace a.written.groups

    source_of : (i j : ℕ) → HasTarget edges i j → (a : Action) × (slice_get d.actions i ≡ Some a)
    source_of i j h = by (slice_get_cases edges i).1 (slice_get_cases d.actions i).1
      where
        by : ((x : Vec ℕ) × (i < length edges) × (slice_get edges i ≡ Some x) × (get_or edges i x ≡ x)) ⊎ ((length edges ≤ i) × (slice_get edges i ≡ None))
            → ((x : Action) × (i < length d.actions) × (slice_get d.actions i ≡ Some x) × (get_or d.actions i x ≡ x)) ⊎ ((length d.actions ≤ i) × (slice_get
            d.actions i ≡ None))
            → (a : Action) × (slice_get d.actions i ≡ Some a)
        by r (inl s) = (s.0, s.2)
        by (inl r) (inr s) =
            let many : length edges ≡ length d.actions = as_many in
            let low : i < length edges = r.1 in
            let high : length d.actions ≤ i = s.0 in
            absurd (omega arith)
        by (inr r) (inr s) =
            let none : StandsIn [] j = subst (λ o. StandsIn (option_map_or (λ (x : Vec ℕ). x.items) o []) j) r.1 h in
            let low : none.0 < 0 = none.1 in
            absurd (omega arith)

    -- the first of its uid
    abbrev IsFirst : ℕ → Action → Type 0
    IsFirst i a = IsAction (action_uid a) a i

    leads_to : (i j : ℕ) (a : Action) → slice_get d.actions i ≡ Some a → HasTarget edges i j
        → (u : Uid) × IsAmong u (found_groups d a.namespace a.written.groups) × (number_of u ≡ Some j)
    leads_to i j a e h = source_of_number number_of (targets_of edges i) (found_groups d a.namespace a.written.groups) (found_are i a e) j h.0 h.1 h.2

    first_of_number : (u : Uid) (j : ℕ) → number_of u ≡ Some j → (a : Action) × IsFirst j a × (action_uid a ≡ u)
    first_of_number u j e = let r = common_of u j e in (r.0, subst (λ v. IsAction v r.0 j) (sym r.1.is) r.1, r.1.is)

    ends : (i j : ℕ) → Reaches (HasTarget edges) i j → (a : Action) × IsFirst j a
    ends i j (edge h) =
        let a = source_of i j h in
        let u = leads_to i j a.0 a.1 h in
        let b = first_of_number u.0 j u.2 in
        (b.0, b.1)
    ends i z (further {b} h r) = ends b z r

    pub within : AreWithin edges
    within i j h =
        let a = ends i j (edge h) in
        let low : j < length d.actions = slice_get_within d.actions j a.0 a.1.at in
        let many : length edges ≡ length d.actions = as_many in
        omega arith

    pub below : (i : ℕ) → Reaches (HasTarget edges) i i → i < length d.actions
    below i r = let a = ends i i r in slice_get_within d.actions i a.0 a.1.at

    one_edge : (i j : ℕ) → HasTarget edges i j → (a : Action) → IsFirst i a
        → (b : Action) × IsFirst j b × (is_in_group d (action_uid a) (action_uid b) ≡ true)
    one_edge i j h a f =
        let u = leads_to i j a f.at h in
        let b = first_of_number u.0 j u.2 in (
          b.0,
          b.1,
          ap (λ o. list_any (same_uid (action_uid b.0)) (groups_of d o)) f.found
              ∙ is_any (action_uid b.0) (found_groups d a.namespace a.written.groups) (subst (λ v. IsAmong v (found_groups d a.namespace a.written.groups))
              (sym b.2) u.1),
        )

    chain : (i j : ℕ) → Reaches (HasTarget edges) i j → (a : Action) → IsFirst i a
        → (b : Action) × IsFirst j b × Reaches (Edge (is_in_group d)) (action_uid a) (action_uid b)
    chain i j (edge h) a f = let b = one_edge i j h a f in (b.0, b.1, edge b.2)
    chain i z (further {b} h r) a f =
        let x = one_edge i b h a f in
        let y = chain b z r x.0 x.1 in
        (y.0, y.1, further x.2 y.2)

    some_library : Library
    some_library = record { type = λ s. None; signature = λ n. None }

    pub told : GroupsAreTransitive → (i : ℕ) (a : Action) → slice_get d.actions i ≡ Some a → Reaches (HasTarget edges) i i
        → action_reaches d (action_uid a) (action_uid a) ≡ true
    told found i a e r =
        let x = ends i i r in
        let one : x.0 ≡ a = cc (sym x.1.at ∙ e) in
        let y = chain i i r a (subst (IsFirst i) one x.1) in
        let two : y.0 ≡ a = cc (sym y.1.at ∙ e) in
        (found some_library d (action_uid a) (action_uid a)).1 (subst (λ b. Reaches (Edge (is_in_group d)) (action_uid a) (action_uid b)) two y.2)

    -- ---- along an order

    module _ (order : List ℕ) (is : IsOrder edges order) where
      comes_before : (q r k : ℕ) → Reaches (HasTarget edges) q r → k < length order → slice_index order k ≡ q → StandsBefore k order r
      comes_before q r k (edge h) low e = is.first k r low (subst (λ a. HasTarget edges a r) (sym e) h)
      comes_before q r k (further {b} h more) low e =
          let s = is.first k b low (subst (λ a. HasTarget edges a b) (sym e) h) in
          let lower : s.0 < k = s.1 in
          wider order s.0 k r lower (comes_before b r s.0 more (omega arith) s.2)

      never : (n q k : ℕ) → k < n → k < length order → slice_index order k ≡ q → Reaches (HasTarget edges) q q → ⊥
      never zero q k fuel low e r = absurd (omega arith)
      never (suc n) q k fuel low e r =
          let s = comes_before q q k r low e in
          let lower : s.0 < k = s.1 in
          never n q s.0 (omega arith) (omega arith) s.2 r

      one_step : (u v : Uid) (i : ℕ) → number_of u ≡ Some i → is_in_group d u v ≡ true → (j : ℕ) × (number_of v ≡ Some j) × HasTarget edges i j
      one_step u v i e f =
          let a = common_of u i e in
          let among = any_is v (found_groups d a.0.namespace a.0.written.groups) (subst (λ o. list_any (same_uid v) (groups_of d o) ≡ true) a.1.found f) in
          let q = target_of number_of (targets_of edges i) (found_groups d a.0.namespace a.0.written.groups) (found_are i a.0 a.1.at) v among in
          (q.0, q.2, q.1)

      steps : (u v : Uid) (i : ℕ) → number_of u ≡ Some i → Reaches (Edge (is_in_group d)) u v
          → (j : ℕ) × (number_of v ≡ Some j) × Reaches (HasTarget edges) i j
      steps u v i e (edge h) =
          let q = one_step u v i e h in
          (q.0, q.1, edge q.2)
      steps u v i e (further {b} h r) =
          let q = one_step u b i e h in
          let s = steps b v q.0 q.1 r in
          (s.0, s.1, further q.2 s.2)

      found_where : (v : Uid) (o : Option Action) → list_any (same_uid v) (groups_of d o) ≡ true → (a : Action) × (o ≡ Some a)
      found_where v None e = absurd (cc e)
      found_where v (Some a) e = (a, refl)

      begins : (u v : Uid) → Reaches (Edge (is_in_group d)) u v → (a : Action) × (action_at d u ≡ Some a)
      begins u v (edge h) = found_where v (action_at d u) h
      begins u v (further {b} h r) = found_where b (action_at d u) h

      no_cycle : (u : Uid) → Reaches (Edge (is_in_group d)) u u → ⊥
      no_cycle u r =
          let a = begins u u r in
          let j = common_at u a.0 a.1 in
          let s = steps u u j.0 j.1.number r in
          let same : s.0 ≡ j.0 = cc (sym s.1 ∙ j.1.number) in
          let low : j.0 < length d.actions = slice_get_within d.actions j.0 a.0 j.1.at in
          let many : length edges ≡ length d.actions = as_many in
          let k = is.whole j.0 (omega arith) in
          never (suc k.0) j.0 k.0 (omega arith) k.1 k.2 (subst (λ b. Reaches (HasTarget edges) j.0 b) same s.2)

      pub apart : GroupsAreTransitive → (u : Uid) → action_reaches d u u ≡ false
      apart found u = by (action_reaches d u u) refl
        where
          by : (b : Bool) → action_reaches d u u ≡ b → b ≡ false
          by true e = absurd (no_cycle u ((found some_library d u u).0 e))
          by false e = refl

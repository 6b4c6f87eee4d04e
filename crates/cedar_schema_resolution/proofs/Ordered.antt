-- In an order in which what is mentioned comes first each common type gets the type that it stands for.
use Rattle.std.proofs.Common.{◌≡◌, ◌⊎◌, inl, inr, ℕ, zero, suc, ◌+◌, ◌<◌, ◌≤◌, Bool, true, false, cond, List, [], ◌∷◌, length, take, get_or, slice_index, Option, Some, None, refl, sym, ap, ◌∙◌, subst, add-one, arith}
use Rattle.std.specs.Prelude.{map, option_map}
use Rattle.std.specs.Global.{Vec}
use Rattle.std.specs.List.{slice_get, list_any}
use Rattle.std.specs.Option.{option_map_or}
use Rattle.std.proofs.lemmas.Bool.{cases_lt}
use Rattle.std.proofs.lemmas.Bool.Decides.{eqb_tells}
use Rattle.std.proofs.lemmas.List.{length-map, take_more, take_all}
use Rattle.std.proofs.lemmas.Option.{slice_get_cases, slice_get_within, slice_get-map}
use Rattle.cedar_language.specs.Uid.{Name}
use Rattle.cedar_language.specs.Facts.{Reaches, edge, further}
use Rattle.cedar_language.specs.Order.{same_name}
use Rattle.cedar_language.proofs.Booleans.{or_cases}
use Rattle.cedar_typing.specs.Types.{CedarType}
use Rattle.cedar_typing.proofs.Sameness.{name_is}
use Rattle.cedar_schema_grammar.specs.Declared.{Library, CommonType, Declared, type_name, type_at}
use Rattle.cedar_schema_grammar.specs.Written.{written, unfolded, mentions, mentioned, refers, type_reaches}
use Rattle.cedar_schema_grammar.specs.Reaching.{IsAmong, Edge}
use Rattle.cedar_schema_grammar.specs.Laws.{CyclesAreFound, CommonTypesSettle}
use Rattle.cedar_schema_grammar.proofs.Unfolding.{map_is, refers_if, written_alike}
use Rattle.cedar_schema.specs.Orders.{targets_of, StandsBefore, StandsIn, HasTarget, AreWithin, IsOrder}
use Rattle.cedar_schema_resolution.specs.Numbers.{number_of}
use Rattle.cedar_schema_resolution.specs.Mentions.{mentioned_numbers, AreMentionsOf}
use Rattle.cedar_schema_resolution.specs.Resolved.{with_type, with_types}
use Rattle.cedar_schema_resolution.proofs.Resolving.{IsCommon, common_at, common_of, its_number, not_number, types_last}

-- ---- lists of numbers and of names

-- what is mentioned has its number among the targets
pub target_of : (f : Name → Option ℕ) (ts : List ℕ) (ms : List Name) → map Some ts ≡ map f ms → (m : Name) → IsAmong m ms
    → (q : ℕ) × StandsIn ts q × (f m ≡ Some q)
target_of f ts [] e m a = absurd a
target_of f [] (k ∷ ms) e m a = absurd (cc e)
target_of f (t ∷ ts) (k ∷ ms) e m (inl a) =
    let head : Some t ≡ f k = cc e in
    (t, (0, omega arith, refl), ap f a ∙ sym head)
target_of f (t ∷ ts) (k ∷ ms) e m (inr a) =
    let rest : map Some ts ≡ map f ms = cc e in
    let r = target_of f ts ms rest m a in
    let low : r.1.0 < length ts = r.1.1 in
    (r.0, (suc r.1.0, omega arith, r.1.2), r.2)

-- and a target is the number of something that is mentioned
pub mention_of : (f : Name → Option ℕ) (ts : List ℕ) (ms : List Name) → map Some ts ≡ map f ms → (q j : ℕ) → j < length ts → slice_index ts j ≡ q
    → (m : Name) × IsAmong m ms × (f m ≡ Some q)
mention_of f [] ms e q j low at = absurd (omega arith)
mention_of f (t ∷ ts) [] e q j low at = absurd (cc e)
mention_of f (t ∷ ts) (k ∷ ms) e q zero low at =
    let head : Some t ≡ f k = cc e in
    (k, inl refl, sym head ∙ ap Some at)
mention_of f (t ∷ ts) (k ∷ ms) e q (suc j) low at =
    let rest : map Some ts ≡ map f ms = cc e in
    let r = mention_of f ts ms rest q j (omega arith) at in
    (r.0, inr r.1, r.2)

any_is : (m : Name) (ks : List Name) → list_any (same_name m) ks ≡ true → IsAmong m ks
any_is m [] e = absurd (cc e)
any_is m (k ∷ ks) e = by (or_cases (same_name m k) (list_any (same_name m) ks) e) (any_is m ks)
  where
    by : (same_name m k ≡ true) ⊎ (list_any (same_name m) ks ≡ true) → (list_any (same_name m) ks ≡ true → IsAmong m ks) → IsAmong m (k ∷ ks)
    by (inl f) ih = inl (name_is m k f)
    by (inr f) ih = inr (ih f)

wider : (order : List ℕ) (j k q : ℕ) → j < k → StandsBefore j order q → StandsBefore k order q
wider order j k q low s = let lower : s.0 < j = s.1 in (s.0, omega arith, s.2)

module _ (d : Declared) (l : Library) (edges : List (Vec ℕ)) (are : AreMentionsOf d l d.types edges) where
  pub as_many : length edges ≡ length d.types
  as_many = sym (length-map edges (λ (row : Vec ℕ). map Some row.items)) ∙ ap length are ∙ length-map d.types (mentioned_numbers d l)

  targets_are : (i : ℕ) (t : CommonType) → slice_get d.types i ≡ Some t → map Some (targets_of edges i) ≡ mentioned_numbers d l t
  targets_are i t e =
      let row = map_is (λ (r : Vec ℕ). map Some r.items) (slice_get edges i) (mentioned_numbers d l t)
      (sym (slice_get-map (λ (r : Vec ℕ). map Some r.items) edges i) ∙ ap (λ rs. slice_get rs i) are ∙ slice_get-map (mentioned_numbers d l) d.types i
      ∙ ap (option_map (mentioned_numbers d l)) e) in
      ap (λ o. map Some (option_map_or (λ (r : Vec ℕ). r.items) o [])) row.1 ∙ row.2

  -- where an edge leads from there is a common type
  source_of : (a b : ℕ) → HasTarget edges a b → (t : CommonType) × (slice_get d.types a ≡ Some t)
  source_of a b h = by (slice_get_cases edges a).1 (slice_get_cases d.types a).1
    where
      by : ((x : Vec ℕ) × (a < length edges) × (slice_get edges a ≡ Some x) × (get_or edges a x ≡ x)) ⊎ ((length edges ≤ a) × (slice_get edges a ≡ None))
          → ((x : CommonType) × (a < length d.types) × (slice_get d.types a ≡ Some x) × (get_or d.types a x ≡ x)) ⊎ ((length d.types ≤ a) × (slice_get
          d.types a ≡ None))
          → (t : CommonType) × (slice_get d.types a ≡ Some t)
      by r (inl s) = (s.0, s.2)
      by (inl r) (inr s) =
          let many : length edges ≡ length d.types = as_many in
          let low : a < length edges = r.1 in
          let high : length d.types ≤ a = s.0 in
          absurd (omega arith)
      by (inr r) (inr s) =
          let none : StandsIn [] b = subst (λ o. StandsIn (option_map_or (λ (x : Vec ℕ). x.items) o []) b) r.1 h in
          let low : none.0 < 0 = none.1 in
          absurd (omega arith)

  -- the first of its name
  abbrev pub IsFirst : ℕ → CommonType → Type 0
  IsFirst i t = IsCommon d (type_name t) t i

  leads_to : (a b : ℕ) (t : CommonType) → slice_get d.types a ≡ Some t → HasTarget edges a b
      → (m : Name) × IsAmong m (mentions d l t.namespace t.type) × (number_of d m ≡ Some b)
  leads_to a b t e h = mention_of (number_of d) (targets_of edges a) (mentions d l t.namespace t.type) (targets_are a t e) b h.0 h.1 h.2

  first_of_number : (m : Name) (b : ℕ) → number_of d m ≡ Some b → (u : CommonType) × IsFirst b u × (type_name u ≡ m)
  first_of_number m b e = let r = common_of d m b e in (r.0, subst (λ n. IsCommon d n r.0 b) (sym r.1.is) r.1, r.1.is)

  ends : (a b : ℕ) → Reaches (HasTarget edges) a b → (u : CommonType) × IsFirst b u
  ends a b (edge h) =
      let t = source_of a b h in
      let m = leads_to a b t.0 t.1 h in
      let u = first_of_number m.0 b m.2 in
      (u.0, u.1)
  ends a z (further {b} h r) = ends b z r

  pub within : AreWithin edges
  within a b h =
      let u = ends a b (edge h) in
      let low : b < length d.types = slice_get_within d.types b u.0 u.1.at in
      let many : length edges ≡ length d.types = as_many in
      omega arith

  pub below : (i : ℕ) → Reaches (HasTarget edges) i i → i < length d.types
  below i r = let u = ends i i r in slice_get_within d.types i u.0 u.1.at

  -- an edge from the first of its name is to what it mentions
  one_edge : (a b : ℕ) → HasTarget edges a b → (t : CommonType) → IsFirst a t
      → (u : CommonType) × IsFirst b u × (refers d l (type_name t) (type_name u) ≡ true)
  one_edge a b h t f =
      let m = leads_to a b t f.at h in
      let u = first_of_number m.0 b m.2 in
      (u.0, u.1, refers_if d l (type_name t) (type_name u.0) t f.found (subst (λ n. IsAmong n (mentions d l t.namespace t.type)) (sym u.2) m.1))

  chain : (a b : ℕ) → Reaches (HasTarget edges) a b → (t : CommonType) → IsFirst a t
      → (u : CommonType) × IsFirst b u × Reaches (Edge (refers d l)) (type_name t) (type_name u)
  chain a b (edge h) t f = let u = one_edge a b h t f in (u.0, u.1, edge u.2)
  chain a z (further {b} h r) t f =
      let u = one_edge a b h t f in
      let v = chain b z r u.0 u.1 in
      (v.0, v.1, further u.2 v.2)

  pub told : CyclesAreFound → (i : ℕ) (t : CommonType) → slice_get d.types i ≡ Some t → Reaches (HasTarget edges) i i
      → type_reaches d l (type_name t) (type_name t) ≡ true
  told found i t e r =
      let u = ends i i r in
      let one : u.0 ≡ t = cc (sym u.1.at ∙ e) in
      let v = chain i i r t (subst (IsFirst i) one u.1) in
      let two : v.0 ≡ t = cc (sym v.1.at ∙ e) in
      (found l d (type_name t) (type_name t)).1 (subst (λ w. Reaches (Edge (refers d l)) (type_name t) (type_name w)) two v.2)

  -- ---- along an order

  module _ (order : List ℕ) (is : IsOrder edges order) where
    comes_before : (q r k : ℕ) → Reaches (HasTarget edges) q r → k < length order → slice_index order k ≡ q → StandsBefore k order r
    comes_before q r k (edge h) low e = is.first k r low (subst (λ a. HasTarget edges a r) (sym e) h)
    comes_before q r k (further {b} h more) low e =
        let s = is.first k b low (subst (λ a. HasTarget edges a b) (sym e) h) in
        let lower : s.0 < k = s.1 in
        wider order s.0 k r lower (comes_before b r s.0 more (omega arith) s.2)

    never : (n q k : ℕ) → k < n → k < length order → slice_index order k ≡ q → Reaches (HasTarget edges) q q → ⊥
    never zero q k fuel low e r = absurd (omega arith)
    never (suc n) q k fuel low e r =
        let s = comes_before q q k r low e in
        let lower : s.0 < k = s.1 in
        never n q s.0 (omega arith) (omega arith) s.2 r

    one_step : (n m : Name) (i : ℕ) → number_of d n ≡ Some i → refers d l n m ≡ true → (j : ℕ) × (number_of d m ≡ Some j) × HasTarget edges i j
    one_step n m i e f =
        let t = common_of d n i e in
        let among = any_is m (mentions d l t.0.namespace t.0.type) (subst (λ o. list_any (same_name m) (mentioned d l o) ≡ true) t.1.found f) in
        let q = target_of (number_of d) (targets_of edges i) (mentions d l t.0.namespace t.0.type) (targets_are i t.0 t.1.at) m among in
        (q.0, q.2, q.1)

    steps : (n m : Name) (i : ℕ) → number_of d n ≡ Some i → Reaches (Edge (refers d l)) n m
        → (j : ℕ) × (number_of d m ≡ Some j) × Reaches (HasTarget edges) i j
    steps n m i e (edge h) =
        let q = one_step n m i e h in
        (q.0, q.1, edge q.2)
    steps n m i e (further {b} h r) =
        let q = one_step n b i e h in
        let s = steps b m q.0 q.1 r in
        (s.0, s.1, further q.2 s.2)

    found_where : (m : Name) (o : Option CommonType) → list_any (same_name m) (mentioned d l o) ≡ true → (t : CommonType) × (o ≡ Some t)
    found_where m None e = absurd (cc e)
    found_where m (Some t) e = (t, refl)

    begins : (n m : Name) → Reaches (Edge (refers d l)) n m → (t : CommonType) × (type_at d n ≡ Some t)
    begins n m (edge h) = found_where m (type_at d n) h
    begins n m (further {b} h r) = found_where b (type_at d n) h

    no_cycle : (n : Name) → Reaches (Edge (refers d l)) n n → ⊥
    no_cycle n r =
        let t = begins n n r in
        let j = common_at d n t.0 t.1 in
        let s = steps n n j.0 j.1.number r in
        let same : s.0 ≡ j.0 = cc (sym s.1 ∙ j.1.number) in
        let low : j.0 < length d.types = slice_get_within d.types j.0 t.0 j.1.at in
        let many : length edges ≡ length d.types = as_many in
        let k = is.whole j.0 (omega arith) in
        never (suc k.0) j.0 k.0 (omega arith) k.1 k.2 (subst (λ a. Reaches (HasTarget edges) j.0 a) same s.2)

    pub acyclic : CyclesAreFound → (n : Name) → type_reaches d l n n ≡ false
    acyclic found n = by (type_reaches d l n n) refl
      where
        by : (b : Bool) → type_reaches d l n n ≡ b → b ≡ false
        by true e = absurd (no_cycle n ((found l d n n).0 e))
        by false e = refl

    -- ---- each gets its type

    abbrev so_far : ℕ → CommonType → Option CedarType
    so_far k = with_types d l (λ t. None) (take k order)

    abbrev Settled : ℕ → Type 0
    Settled k = (t : CommonType) (i : ℕ) → IsFirst i t → StandsBefore k order i → so_far k t ≡ unfolded (length d.types) d l t

    next_is : (k : ℕ) → k < length order → (t : CommonType) → so_far (k + 1) t ≡ with_type d l (so_far k) (slice_index order k) t
    next_is k low t =
        ap (λ xs. with_types d l (λ u. None) xs t) (take_more order k 0 low)
        ∙ ap (λ (f : CommonType → Option CedarType). f t) (types_last d l (λ u. None) (take k order) (slice_index order k))

    module _ (found : CyclesAreFound) (settle : CommonTypesSettle) where
      mentioned_is : (k i : ℕ) (t : CommonType) → k < length order → slice_index order k ≡ i → IsFirst i t → Settled k → (u : CommonType)
          → type_at d (type_name u) ≡ Some u
          → IsAmong (type_name u) (mentions d l t.namespace t.type) → so_far k u ≡ unfolded (length d.types) d l u
      mentioned_is k i t low here f before u e m =
          let q = target_of (number_of d) (targets_of edges i) (mentions d l t.namespace t.type) (targets_are i t f.at) (type_name u) m in
          let j = common_at d (type_name u) u e in
          let same : j.0 ≡ q.0 = cc (sym j.1.number ∙ q.2) in
          before u q.0 (subst (λ a. IsFirst a u) same j.1) (is.first k q.0 low (subst (λ a. HasTarget edges a q.0) (sym here) q.1))

      -- the one whose turn it is
      turn : (k i : ℕ) (t : CommonType) → k < length order → slice_index order k ≡ i → IsFirst i t → Settled k
          → with_type d l (so_far k) i t ≡ unfolded (length d.types) d l t
      turn k i t low here f before =
          ap (λ b. cond b (written (so_far k) d l t.namespace t.type) (so_far k t)) (its_number (number_of d (type_name t)) i f.number)
          ∙ written_alike d l (so_far k) (unfolded (length d.types) d l) t.namespace t.type (mentioned_is k i t low here f before)
          ∙ sym (settle l d (acyclic found) t f.found)

      -- and the others
      no_turn : (k j i : ℕ) (t : CommonType) → IsFirst i t → (i ≡ j → ⊥) → with_type d l (so_far k) j t ≡ so_far k t
      no_turn k j i t f apart =
          ap (λ b. cond b (written (so_far k) d l t.namespace t.type) (so_far k t))
          (not_number (number_of d (type_name t)) j (λ g. let same : i ≡ j = cc (sym f.number ∙ g) in apart same))

      earlier : (k i : ℕ) → StandsBefore (suc k) order i → (i ≡ slice_index order k → ⊥) → StandsBefore k order i
      earlier k i s apart = elim (cases_lt s.0 k) [
        | inl lower ↦ (s.0, lower, s.2)
        | inr here ↦
            let high : s.0 < suc k = s.1 in
            let same : s.0 ≡ k = omega arith in
            absurd (apart (sym s.2 ∙ ap (slice_index order) same))
      ]

      one_more : (k : ℕ) → k < length order → Settled k → Settled (suc k)
      one_more k low before t i f s = ap (λ j. so_far j t) (sym (add-one k)) ∙ next_is k low t ∙ elim (eqb_tells i (slice_index order k)) [
        | inl e ↦ ap (λ j. with_type d l (so_far k) j t) (sym e.1) ∙ turn k i t low (sym e.1) f before
        | inr e ↦ no_turn k (slice_index order k) i t f e.1 ∙ before t i f (earlier k i s e.1)
      ]

      settled : (k : ℕ) → k ≤ length order → Settled k
      settled zero low = λ t i f s. let lower : s.0 < 0 = s.1 in absurd (omega arith)
      settled (suc k) low = one_more k (omega arith) (settled k (omega arith))

      pub each_settled : (n : Name) (t : CommonType) → type_at d n ≡ Some t → with_types d l (λ u. None) order t ≡ unfolded (length d.types) d l t
      each_settled n t e =
          let j = common_at d n t e in
          let f : IsFirst j.0 t = subst (λ m. IsCommon d m t j.0) (sym j.1.is) j.1 in
          let low : j.0 < length d.types = slice_get_within d.types j.0 t j.1.at in
          let many : length edges ≡ length d.types = as_many in
          let k = is.whole j.0 (omega arith) in
          ap (λ xs. with_types d l (λ u. None) xs t) (sym (take_all (length order) order (omega arith))) ∙ settled (length order) (omega arith) t j.0 f k

-- What is found from each listed key in turn.
use Rattle.std.proofs.Common.{◌≡◌, Bool, true, false, ◌||◌, ◌&&◌, List, [], ◌∷◌, ◌++◌, IsTrue, refl, sym, ap, ◌∙◌, inl, inr, ℕ, slice_get, Some, ◌↔◌, true≢false}
use Rattle.std.specs.Cmp.{IsEquivalence}
use Rattle.std.specs.Set.{is_member}
use Rattle.std.proofs.lemmas.Bool.{or_cases, and_parts}
use Rattle.std.proofs.lemmas.List.Folds.{list_any-append}
use Rattle.std.proofs.lemmas.Map.Steps.{list_any_congr}
use Rattle.cedar_language.specs.Facts.{Reaches, edge, further}
use Rattle.cedar_closure.specs.Graph.{IsClosedBeside, IsBetween}
use Rattle.cedar_closure.specs.Found.{finds}
use Rattle.cedar_closure.specs.declared.closing.Reached.{Reached}
use Rattle.cedar_closure.proofs.Members.{or_more, or_else, or_none, member_at, member_alike, list_any-at}
use Rattle.cedar_closure.proofs.Search.{IsEdge, AreAlike, Reaches-first}

pub and_both : (a b : Bool) → a ≡ true → b ≡ true → (a && b) ≡ true
and_both a b e f = ap (λ c. c && b) e ∙ f

module _ {K : Type 0} (eq : K → K → Bool) (next : K → List K) where
  -- what was found is reached from a listed key
  abbrev pub FindsNoMore : List K → List (Reached K) → Type 0
  FindsNoMore listed all = (a q : K) → IsTrue (finds eq all a q) → IsTrue (is_member eq listed a) × Reaches (IsEdge eq next) a q

  -- what a listed key reaches was found, but where the key is left
  abbrev pub FindsBut : List K → List (Reached K) → List K → Type 0
  FindsBut listed all rest = (a q : K) → IsTrue (is_member eq listed a) → Reaches (IsEdge eq next) a q → IsTrue (finds eq all a q || is_member eq rest a)

module _ {K : Type 0} {eq : K → K → Bool} (laws : IsEquivalence eq) where
  -- what was found from a key that doesn't reach itself has no part in a cycle
  pub finds_past : (all rest : List (Reached K)) (r : Reached K) → all ≡ r ∷ rest → is_member eq r.keys.items r.from ≡ false → (a : K) → IsTrue (finds eq all a a) → IsTrue (finds eq rest a a)
  finds_past all rest r cut lacks a h =
      elim (or_cases (eq a r.from && is_member eq r.keys.items a) (finds eq rest a a) (sym (ap (λ rs. finds eq rs a a) cut) ∙ h)) [
        | inl k ↦
            let p = and_parts (eq a r.from) (is_member eq r.keys.items a) k in
            let f : true ≡ false = sym p.1 ∙ member_alike laws r.keys.items a r.from p.0 ∙ lacks in cc
        | inr k ↦ k
      ]

  pub finds_here : (all : List (Reached K)) (i : ℕ) (r : Reached K) → slice_get all i ≡ Some r → IsTrue (is_member eq r.keys.items r.from) → IsTrue (finds eq all r.from r.from)
  finds_here all i r here itself = list_any-at (λ (s : Reached K). eq r.from s.from && is_member eq s.keys.items r.from) all i r here (and_both _ _ (laws.refl r.from) itself)

  pub finds_alike : (all : List (Reached K)) (x k : K) → IsTrue (eq x k) → finds eq all x x ≡ finds eq all k k
  finds_alike [] x k e = refl
  finds_alike (r ∷ all) x k e =
      ap (λ b. (b && is_member eq r.keys.items x) || finds eq all x x) (laws.congr x k r.from e)
      ∙ ap (λ b. (eq k r.from && b) || finds eq all x x) (member_alike laws r.keys.items x k e)
      ∙ ap (λ b. (eq k r.from && is_member eq r.keys.items k) || b) (finds_alike all x k e)

module _ {K : Type 0} {eq : K → K → Bool} (laws : IsEquivalence eq) (next : K → List K) (same : AreAlike laws next) where
  pub Reaches-alike : (a b q : K) → IsTrue (eq a b) → Reaches (IsEdge eq next) b q → Reaches (IsEdge eq next) a q
  Reaches-alike a b q e (edge h) = edge (ap (λ xs. is_member eq xs q) (same a b e) ∙ h)
  Reaches-alike a b q e (further {b = m} h r) = further (ap (λ xs. is_member eq xs m) (same a b e) ∙ h) r

  pub Reaches-to : (a q k : K) → IsTrue (eq q k) → Reaches (IsEdge eq next) a q → Reaches (IsEdge eq next) a k
  Reaches-to a q k e (edge h) = edge (sym (member_alike laws (next a) q k e) ∙ h)
  Reaches-to a q k e (further {b = m} h r) = further h (Reaches-to m q k e r)

  finds-push : (all : List (Reached K)) (r : Reached K) (a q : K) → finds eq (all ++ r ∷ []) a q ≡ (finds eq all a q || (eq a r.from && is_member eq r.keys.items q))
  finds-push all r a q = list_any-append (λ (s : Reached K). eq a s.from && is_member eq s.keys.items q) all (r ∷ []) ∙ ap (λ b. finds eq all a q || b) (or_none (eq a r.from && is_member eq r.keys.items q))

  module _ (listed : List K) (all : List (Reached K)) (r : Reached K) (x : K) (clone : IsTrue (eq x r.from)) (is : (q : K) → IsTrue (is_member eq r.keys.items q) ↔ Reaches (IsEdge eq next) x q) where
    pub finds_no_more : (i : ℕ) → slice_get listed i ≡ Some x → FindsNoMore eq next listed all → FindsNoMore eq next listed (all ++ r ∷ [])
    finds_no_more i here before a q h =
        elim (or_cases (finds eq all a q) (eq a r.from && is_member eq r.keys.items q) (sym (finds-push all r a q) ∙ h)) [
          | inl k ↦ before a q k
          | inr k ↦
              let p = and_parts (eq a r.from) (is_member eq r.keys.items q) k in
              let one : IsTrue (eq a x) = laws.congr a r.from x p.0 ∙ laws.symm r.from x ∙ clone in
              (list_any_congr laws a x listed one ∙ member_at laws listed i x here, Reaches-alike a x q one ((is q).0 p.1))
        ]

    pub finds_but : (rest : List K) → FindsBut eq next listed all (x ∷ rest) → FindsBut eq next listed (all ++ r ∷ []) rest
    finds_but rest before a q l reaches =
        let push = finds-push all r a q in
        elim (or_cases (finds eq all a q) (eq a x || is_member eq rest a) (before a q l reaches)) [
          | inl k ↦ or_more _ _ (push ∙ or_more _ _ k)
          | inr k ↦ elim (or_cases (eq a x) (is_member eq rest a) k) [
            | inl e ↦
                let back : IsTrue (eq x a) = laws.symm x a ∙ e in
                let from : IsTrue (eq a r.from) = sym (laws.congr x a r.from back) ∙ clone in
                or_more _ _ (push ∙ or_else (finds eq all a q) _ (and_both _ _ from ((is q).1 (Reaches-alike x a q back reaches))))
            | inr k ↦ or_else (finds eq (all ++ r ∷ []) a q) _ k
          ]
        ]

-- what stays and what comes where a call is refused
module _ {K : Type 0} (eq : K → K → Bool) (E F : K → List K) where
  pub unchanged : ((a : K) → F a ≡ E a) → IsBetween (IsEdge eq E) (Reaches (IsEdge eq E)) (IsEdge eq F)
  unchanged same = record {
    least = λ a b h. ap (λ xs. is_member eq xs b) (same a) ∙ h;
    most = λ a b h. edge (sym (ap (λ xs. is_member eq xs b) (same a)) ∙ h);
  }

  pub only_found : (has_node : K → Bool) (listed : List K) (all : List (Reached K)) → FindsNoMore eq E listed all → IsBetween (IsEdge eq E) (λ a q. IsTrue (is_member eq (E a) q || (has_node a && finds eq all a q))) (IsEdge eq F) → IsBetween (IsEdge eq E) (Reaches (IsEdge eq E)) (IsEdge eq F)
  only_found has_node listed all sound between = record {
    least = between.least;
    most = λ a q h. elim (or_cases (is_member eq (E a) q) (has_node a && finds eq all a q) (between.most a q h)) [
      | inl k ↦ edge k
      | inr k ↦ (sound a q (and_parts (has_node a) (finds eq all a q) k).1).1
    ];
  }

  -- nothing was found from a key that isn't listed
  pub others_stay : (has_node : K → Bool) (listed : List K) (all : List (Reached K)) → FindsNoMore eq E listed all → IsBetween (IsEdge eq E) (λ a q. IsTrue (is_member eq (E a) q || (has_node a && finds eq all a q))) (IsEdge eq F) → (a b : K) → is_member eq listed a ≡ false → IsEdge eq F a b ↔ IsEdge eq E a b
  others_stay has_node listed all sound between a b none = (
    λ h. elim (or_cases (is_member eq (E a) b) (has_node a && finds eq all a b) (between.most a b h)) [
      | inl k ↦ k
      | inr k ↦ let both : true ≡ false = sym (sound a b (and_parts (has_node a) (finds eq all a b) k).1).0 ∙ none in absurd (true≢false both)
    ],
    between.least a b,
  )

-- adding what was found: F has the edges of E, and those that were found at each key with a node
module _ {K : Type 0} (eq : K → K → Bool) (E F : K → List K) (has_node : K → Bool) (listed : List K) (all : List (Reached K))
    (added : (a q : K) → is_member eq (F a) q ≡ (is_member eq (E a) q || (has_node a && finds eq all a q)))
    (begins : (a q : K) → IsEdge eq E a q → IsTrue (has_node a))
    (sound : FindsNoMore eq E listed all)
    (whole : (a q : K) → IsTrue (is_member eq listed a) → Reaches (IsEdge eq E) a q → IsTrue (finds eq all a q)) where
  only_reached : (a b : K) → IsEdge eq F a b → Reaches (IsEdge eq E) a b
  only_reached a b h = elim (or_cases (is_member eq (E a) b) (has_node a && finds eq all a b) (sym (added a b) ∙ h)) [
    | inl k ↦ edge k
    | inr k ↦ (sound a b (and_parts (has_node a) (finds eq all a b) k).1).1
  ]

  all_reached : (a b : K) → IsTrue (is_member eq listed a) → Reaches (IsEdge eq E) a b → IsEdge eq F a b
  all_reached a b l r =
      let first = Reaches-first r in
      added a b ∙ or_else (is_member eq (E a) b) _ (and_both _ _ (begins a first.0 first.1) (whole a b l r))

  -- at the listed keys the edges are what is reached
  pub fixes : (a b : K) → IsTrue (is_member eq listed a) → IsEdge eq F a b ↔ Reaches (IsEdge eq E) a b
  fixes a b l = (only_reached a b, all_reached a b l)

  -- and at the others too, where they were so before
  pub closes : IsClosedBeside eq listed (IsEdge eq E) → (a b : K) → IsEdge eq F a b ↔ Reaches (IsEdge eq E) a b
  closes before a b = (
    only_reached a b,
    λ r. elim (is_member eq listed a) as (λ l. is_member eq listed a ≡ l → IsEdge eq F a b) [
      | true ↦ λ l. all_reached a b l r
      | false ↦ λ l. added a b ∙ or_more _ _ (before a b l r)
    ] refl,
  )

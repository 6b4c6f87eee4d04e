-- Nodes that are left their direct edges in turn, and what is left where that stops.
use Rattle.std.proofs.Common.{◌≡◌, ◌⊎◌, inl, inr, Bool, true, false, ◌||◌, ◌&&◌, List, [], ◌∷◌, Option, None, Some, MatchOption, IsTrue, ◌↔◌, refl, sym, ap, ◌∙◌, true≢false}
use Rattle.std.specs.Option.{option_map_or, IsSomeAnd, is_some}
use Rattle.std.specs.Cmp.{IsEquivalence}
use Rattle.std.specs.Set.{is_member}
use Rattle.cedar_language.specs.Facts.{Reaches, edge}
use Rattle.cedar_closure.specs.Graph.{SameKeys, SameNodes, IsBetween, IsBuiltBeside, edges_at}
use Rattle.std.proofs.lemmas.Bool.{or_cases, and_parts}
use Rattle.cedar_closure.proofs.Finding.{and_both}
use Rattle.cedar_closure.proofs.Members.{member_alike, or_more, or_else}
use Rattle.cedar_closure.proofs.Search.{IsEdge, Reaches-more, Reaches-first}

module _ {V : Type 0} (Same : V → V → Type 0) where
  abbrev pub IsSameIn : Option V → Option V → Type 0
  IsSameIn o p = MatchOption o (p ≡ None) (λ v. IsSomeAnd p (Same v))

  same_through : ((u v w : V) → Same u v → Same v w → Same u w) → (o p r : Option V) → IsSameIn o p → IsSameIn p r → IsSameIn o r
  same_through through None None r h k = k
  same_through through None (Some v) r h k = let never : ◌≡◌ {A = Option V} (Some v) None = h in cc
  same_through through (Some u) None r h k = absurd h
  same_through through (Some u) (Some v) None h k = absurd k
  same_through through (Some u) (Some v) (Some w) h k = through u v w h k

  direct_stays_in : {K : Type 0} (direct : V → List K) → ((u v : V) → Same u v → direct v ≡ direct u) → (o p : Option V) → IsSameIn o p → option_map_or direct p [] ≡ option_map_or direct o []
  direct_stays_in direct stays None p h = ap (λ r. option_map_or direct r []) h
  direct_stays_in direct stays (Some v) None h = absurd h
  direct_stays_in direct stays (Some v) (Some w) h = stays v w h

module _ {K V : Type 0} (Same : V → V → Type 0) where
  pub nodes_through : ((u v w : V) → Same u v → Same v w → Same u w) → (m n k : K → Option V) → SameNodes Same m n → SameNodes Same n k → SameNodes Same m k
  nodes_through through m n k h j q = same_through Same through (m q) (n q) (k q) (h q) (j q)

  pub direct_at : (direct : V → List K) → ((u v : V) → Same u v → direct v ≡ direct u) → (m n : K → Option V) → SameNodes Same m n → (a : K) → edges_at direct n a ≡ edges_at direct m a
  direct_at direct stays m n same a = direct_stays_in Same direct stays (m a) (n a) (same a)

-- D: the direct edges; E: those before
module _ {K : Type 0} (eq : K → K → Bool) (D E : K → List K) where
  -- one node has its direct edges alone, or all that it had
  abbrev pub IsEither : (K → List K) → K → Type 0
  IsEither F a = SameKeys eq (D a) (F a) ⊎ (F a ≡ E a)

  -- one more node: x; M: the edges before, F: those after; D' is D as it now stands
  module _ (laws : IsEquivalence eq) (D' M F : K → List K) (x : K) (stays : (a : K) → D' a ≡ D a)
      (reset : (a : K) → eq x a ≡ true → SameKeys eq (D' a) (F a)) (others : (a : K) → eq x a ≡ false → F a ≡ M a) where
    reset_here : (a : K) → eq x a ≡ true → SameKeys eq (D a) (F a)
    reset_here a e q = reset a e q ∙ ap (λ ys. is_member eq ys q) (stays a)

    pub either_still : ((a : K) → IsEither M a) → (a : K) → IsEither F a
    either_still before a = elim (eq x a) as (λ b. eq x a ≡ b → IsEither F a) [
      | true ↦ λ e. inl (reset_here a e)
      | false ↦ λ e. elim (before a) [
        | inl h ↦ inl (λ q. ap (λ ys. is_member eq ys q) (others a e) ∙ h q)
        | inr h ↦ inr (others a e ∙ h)
      ]
    ] refl

    pub reset_still : (listed left rest : List K) → left ≡ x ∷ rest → ((a : K) → IsTrue (is_member eq listed a) → is_member eq left a ≡ false → SameKeys eq (D a) (M a)) → (a : K) → IsTrue (is_member eq listed a) → is_member eq rest a ≡ false → SameKeys eq (D a) (F a)
    reset_still listed left rest cut before a among none = elim (eq x a) as (λ b. eq x a ≡ b → SameKeys eq (D a) (F a)) [
      | true ↦ λ e. reset_here a e
      | false ↦ λ e q. ap (λ ys. is_member eq ys q) (others a e) ∙ before a among (ap (λ ys. is_member eq ys a) cut ∙ ap (λ b. b || is_member eq rest a) (laws.symm a x ∙ e) ∙ none) q
    ] refl

    -- a key that isn't listed is none of those that are reset
    pub unlisted_still : (listed : List K) → IsTrue (is_member eq listed x) → ((a : K) → is_member eq listed a ≡ false → M a ≡ E a) → (a : K) → is_member eq listed a ≡ false → F a ≡ E a
    unlisted_still listed among before a none = elim (eq x a) as (λ b. eq x a ≡ b → F a ≡ E a) [
      | true ↦ λ e. absurd (true≢false (sym among ∙ member_alike laws listed x a e ∙ none))
      | false ↦ λ e. others a e ∙ before a none
    ] refl

-- where all keys with a node are listed, each node has its direct edges alone
module _ {K V : Type 0} (eq : K → K → Bool) (direct edges : V → List K) (m n : K → Option V) (listed : List K) where
  nowhere : (o : Option V) → is_some o ≡ false → option_map_or edges o [] ≡ option_map_or direct o []
  nowhere None h = refl
  nowhere (Some v) h = absurd (true≢false h)

  pub reset_everywhere : ((q : K) → is_member eq listed q ≡ is_some (m q))
      → ((a : K) → IsTrue (is_member eq listed a) → SameKeys eq (edges_at direct m a) (edges_at edges n a))
      → ((a : K) → is_member eq listed a ≡ false → edges_at edges n a ≡ edges_at edges m a)
      → (a : K) → SameKeys eq (edges_at direct m a) (edges_at edges n a)
  reset_everywhere keys reset others a = elim (is_member eq listed a) as (λ b. is_member eq listed a ≡ b → SameKeys eq (edges_at direct m a) (edges_at edges n a)) [
    | true ↦ λ e. reset a e
    | false ↦ λ e q. ap (λ ys. is_member eq ys q) (others a e ∙ nowhere (m a) (sym (keys a) ∙ e))
  ] refl

module _ {K : Type 0} (eq : K → K → Bool) (D E F : K → List K) where
  -- the direct ones of the edges stay, and what comes is reached along direct ones
  abbrev pub IsPartlyRebuilt : Type 0
  IsPartlyRebuilt = IsBetween (λ a b. IsEdge eq D a b × IsEdge eq E a b) (λ a b. IsEdge eq E a b ⊎ Reaches (IsEdge eq D) a b) (IsEdge eq F)

  pub partly_reset : ((a : K) → IsEither eq D E F a) → IsPartlyRebuilt
  partly_reset either = record {
    least = λ a b h. elim (either a) [ inl s ↦ s b ∙ h.0 | inr s ↦ ap (λ ys. is_member eq ys b) s ∙ h.1 ];
    most = λ a b h. elim (either a) [ inl s ↦ inr (edge (sym (s b) ∙ h)) | inr s ↦ inl (sym (ap (λ ys. is_member eq ys b) s) ∙ h) ];
  }

  pub partly_closed : (M : K → List K) → ((a : K) → SameKeys eq (D a) (M a)) → IsBetween (IsEdge eq M) (Reaches (IsEdge eq M)) (IsEdge eq F) → IsPartlyRebuilt
  partly_closed M reset between = record {
    least = λ a b h. between.least a b (reset a b ∙ h.0);
    most = λ a b h. inr (Reaches-more (λ x y k. sym (reset x y) ∙ k) (between.most a b h));
  }

-- nothing was changed
pub partly_untouched : {K : Type 0} (eq : K → K → Bool) (D E : K → List K) → IsPartlyRebuilt eq D E E
partly_untouched eq D E = record {
  least = λ a b h. h.1;
  most = λ a b h. inl h;
}

-- M: the edges once the listed nodes were reset; the others had just what their direct edges reach
module _ {K : Type 0} (eq : K → K → Bool) (D E M : K → List K) (listed : List K)
    (beside : IsBuiltBeside eq listed (IsEdge eq D) (IsEdge eq E))
    (reset : (a : K) → IsTrue (is_member eq listed a) → SameKeys eq (D a) (M a))
    (others : (a : K) → is_member eq listed a ≡ false → M a ≡ E a) where
  left_edge : (a b : K) → IsEdge eq M a b → Reaches (IsEdge eq D) a b
  left_edge a b h = elim (is_member eq listed a) as (λ l. is_member eq listed a ≡ l → Reaches (IsEdge eq D) a b) [
    | true ↦ λ l. edge (sym (reset a l b) ∙ h)
    | false ↦ λ l. (beside a b l).0 (sym (ap (λ ys. is_member eq ys b) (others a l)) ∙ h)
  ] refl

  direct_left : (a b : K) → IsEdge eq D a b → IsEdge eq M a b
  direct_left a b h = elim (is_member eq listed a) as (λ l. is_member eq listed a ≡ l → IsEdge eq M a b) [
    | true ↦ λ l. reset a l b ∙ h
    | false ↦ λ l. ap (λ ys. is_member eq ys b) (others a l) ∙ (beside a b l).1 (edge h)
  ] refl

  module _ (F : K → List K) (has_node : K → Bool) (found : K → K → Bool)
      (sound : (a q : K) → IsTrue (found a q) → IsTrue (is_member eq listed a) × Reaches (IsEdge eq D) a q) where
    reached_still : (a b : K) → IsTrue (is_member eq (M a) b || (has_node a && found a b)) → Reaches (IsEdge eq D) a b
    reached_still a b h = elim (or_cases (is_member eq (M a) b) (has_node a && found a b) h) [
      | inl k ↦ left_edge a b k
      | inr k ↦ (sound a b (and_parts (has_node a) (found a b) k).1).1
    ]

    -- with what was found from the listed nodes the edges are what direct ones reach
    pub rebuilt : ((a q : K) → IsTrue (is_member eq listed a) → Reaches (IsEdge eq D) a q → IsTrue (found a q))
        → ((a q : K) → IsEdge eq D a q → IsTrue (has_node a))
        → ((a q : K) → is_member eq (F a) q ≡ (is_member eq (M a) q || (has_node a && found a q)))
        → (a b : K) → IsEdge eq F a b ↔ Reaches (IsEdge eq D) a b
    rebuilt whole begins added a b = (
      λ h. reached_still a b (sym (added a b) ∙ h),
      λ r. elim (is_member eq listed a) as (λ l. is_member eq listed a ≡ l → IsEdge eq F a b) [
        | true ↦ λ l. let first = Reaches-first r in added a b ∙ or_else (is_member eq (M a) b) _ (and_both _ _ (begins a first.0 first.1) (whole a b l r))
        | false ↦ λ l. added a b ∙ or_more _ _ (ap (λ ys. is_member eq ys b) (others a l) ∙ (beside a b l).1 r)
      ] refl,
    )

    -- and so with some of it, where the others have what they had
    module _ (between : IsBetween (IsEdge eq M) (λ a q. IsTrue (is_member eq (M a) q || (has_node a && found a q))) (IsEdge eq F)) where
      pub partly_rebuilt : IsPartlyRebuilt eq D E F
      partly_rebuilt = record {
        least = λ a b h. between.least a b (direct_left a b h.0);
        most = λ a b h. inr (reached_still a b (between.most a b h));
      }

      pub others_kept : (a b : K) → is_member eq listed a ≡ false → IsEdge eq F a b ↔ IsEdge eq E a b
      others_kept a b none =
          let same : is_member eq (M a) b ≡ is_member eq (E a) b = ap (λ ys. is_member eq ys b) (others a none) in (
            λ h. elim (or_cases (is_member eq (M a) b) (has_node a && found a b) (between.most a b h)) [
              | inl k ↦ sym same ∙ k
              | inr k ↦ absurd (true≢false (sym (sound a b (and_parts (has_node a) (found a b) k).1).0 ∙ none))
            ],
            λ h. between.least a b (same ∙ h),
          )

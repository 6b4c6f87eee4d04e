-- Looking at the keys that were found one by one finds all that are reached.
use Rattle.std.proofs.Common.{◌≡◌, Bool, ◌||◌, List, [], ◌++◌, IsTrue, sym, ap, ◌∙◌, inl, inr, ℕ, ◌<◌, ◌≤◌, ◌+◌, length, slice_get, Some, arith, below_more, ◌↔◌}
use Rattle.std.specs.Cmp.{IsEquivalence}
use Rattle.std.specs.List.{IsDistinct}
use Rattle.std.specs.Set.{is_member, IsUnion}
use Rattle.std.proofs.lemmas.Bool.{or_cases}
use Rattle.std.proofs.lemmas.Map.Made.{length-le_from_is_member}
use Rattle.std.proofs.lemmas.Option.{slice_get_within}
use Rattle.cedar_language.specs.Facts.{Reaches, edge, further}
use Rattle.cedar_closure.proofs.Members.{or_more, or_else, member_at, member_index, slice_get-front}

module _ {K : Type 0} {E : K → K → Type 0} where
  -- one edge more
  pub Reaches-then : {a b c : K} → Reaches E a b → E b c → Reaches E a c
  Reaches-then (edge h) k = further h (edge k)
  Reaches-then (further h r) k = further h (Reaches-then r k)

  -- and more edges
  pub Reaches-joined : {a b c : K} → Reaches E a b → Reaches E b c → Reaches E a c
  Reaches-joined (edge h) k = further h k
  Reaches-joined (further h r) k = further h (Reaches-joined r k)

  -- the first edge and the last
  pub Reaches-first : {a b : K} → Reaches E a b → (c : K) × E a c
  Reaches-first (edge {b} h) = (b, h)
  Reaches-first (further {b} h r) = (b, h)

  pub Reaches-last : {a b : K} → Reaches E a b → (c : K) × E c b
  Reaches-last (edge {a} h) = (a, h)
  Reaches-last (further h r) = Reaches-last r

module _ {K : Type 0} {E F : K → K → Type 0} (on : (a b : K) → E a b → F a b) where
  -- with more edges no less is reached
  pub Reaches-more : {a b : K} → Reaches E a b → Reaches F a b
  Reaches-more (edge {a} {b} h) = edge (on a b h)
  Reaches-more (further {a} {b} h r) = further (on a b h) (Reaches-more r)

module _ {K : Type 0} (eq : K → K → Bool) (next : K → List K) where
  abbrev pub IsEdge : K → K → Type 0
  IsEdge a b = IsTrue (is_member eq (next a) b)

-- what was found is reached; the edges from `at` lead to what was found, and so do those from the first `visited` of what was found
pub record IsSearching {K : Type 0} (eq : K → K → Bool) (next : K → List K) (at : K) (found : List K) (visited : ℕ) : Type 0 where
  pub sound : (q : K) → IsTrue (is_member eq found q) → Reaches (IsEdge eq next) at q
  pub begun : (q : K) → IsEdge eq next at q → IsTrue (is_member eq found q)
  pub seen : (i : ℕ) → i < visited → (m q : K) → slice_get found i ≡ Some m → IsEdge eq next m q → IsTrue (is_member eq found q)

module _ {K : Type 0} {eq : K → K → Bool} (laws : IsEquivalence eq) (next : K → List K) where
  -- keys that are equal have the same edges
  abbrev pub AreAlike : Type 0
  AreAlike = (a b : K) → IsTrue (eq a b) → next a ≡ next b

  pub search_begins : (at : K) (old found : List K) → old ≡ [] → IsUnion eq old (next at) found → IsSearching eq next at found 0
  search_begins at old found none union =
      let is : (q : K) → is_member eq found q ≡ is_member eq (next at) q = λ q. union q ∙ ap (λ xs. is_member eq xs q || is_member eq (next at) q) none in
      record {
        sound = λ q h. edge (sym (is q) ∙ h);
        begun = λ q h. is q ∙ h;
        seen = λ i h. absurd (omega arith);
      }

  pub search_goes_on : AreAlike → (at x via : K) (old new more : List K) (i : ℕ) → slice_get old i ≡ Some x → IsTrue (eq x via) → IsUnion eq old (next via) new → new ≡ old ++ more → IsSearching eq next at old i → IsSearching eq next at new (i + 1)
  search_goes_on same at x via old new more i here e union behind s =
      let within = slice_get_within old i x here in
      let keeps : (q : K) → IsTrue (is_member eq old q) → IsTrue (is_member eq new q) = λ q h. union q ∙ or_more _ _ h in
      let stands : (j : ℕ) → j < length old → slice_get new j ≡ slice_get old j = λ j h. ap (λ xs. slice_get xs j) behind ∙ slice_get-front old more j h in
      record {
        sound = λ q h. elim (or_cases (is_member eq old q) (is_member eq (next via) q) (sym (union q) ∙ h)) [
          | inl k ↦ s.sound q k
          | inr k ↦ Reaches-then (s.sound x (member_at laws old i x here)) (ap (λ xs. is_member eq xs q) (same x via e) ∙ k)
        ];
        begun = λ q h. keeps q (s.begun q h);
        seen = below_more (λ j. (m q : K) → slice_get new j ≡ Some m → IsEdge eq next m q → IsTrue (is_member eq new q)) i
            (λ j h m q k l. let inside : j < length old = omega arith in keeps q (s.seen j h m q (sym (stands j inside) ∙ k) l))
            (λ m q k l.
            let is : Some m ≡ Some x = sym k ∙ stands i within ∙ here in
            let one : m ≡ x = cc in
            union q ∙ or_else (is_member eq old q) _ (ap (λ xs. is_member eq xs q) (sym (ap next one ∙ same x via e)) ∙ l));
      }

  reached_is_found : (found : List K) → ((m q : K) → IsTrue (is_member eq found m) → IsEdge eq next m q → IsTrue (is_member eq found q)) → {a q : K} → Reaches (IsEdge eq next) a q → IsTrue (is_member eq found a) → IsTrue (is_member eq found q)
  reached_is_found found on (edge {a} {b} h) k = on a b k h
  reached_is_found found on (further {a} {b} h r) k = reached_is_found found on r (on a b k h)

  begun_is_found : (found : List K) → ((m q : K) → IsTrue (is_member eq found m) → IsEdge eq next m q → IsTrue (is_member eq found q)) → {a q : K} → ((q : K) → IsEdge eq next a q → IsTrue (is_member eq found q)) → Reaches (IsEdge eq next) a q → IsTrue (is_member eq found q)
  begun_is_found found on begun (edge {b} h) = begun b h
  begun_is_found found on begun (further {b} h r) = reached_is_found found on r (begun b h)

  pub search_ends : AreAlike → (at : K) (found : List K) (visited : ℕ) → length found ≤ visited → IsSearching eq next at found visited → (q : K) → IsTrue (is_member eq found q) ↔ Reaches (IsEdge eq next) at q
  search_ends same at found visited end s q =
      let on : (m q : K) → IsTrue (is_member eq found m) → IsEdge eq next m q → IsTrue (is_member eq found q) = λ m q h k.
      let p = member_index laws found m h in
      let within : p.0 < length found = slice_get_within found p.0 p.1 p.2 in
      let before : p.0 < visited = omega arith in
      s.seen p.0 before p.1 q p.2 (ap (λ xs. is_member eq xs q) (sym (same m p.1 p.3)) ∙ k) in
      (s.sound q, begun_is_found found on s.begun)

  -- no more is found than edges lead to
  pub search_is_bounded : (at : K) (found all : List K) (visited : ℕ) → IsDistinct eq found → ((a q : K) → IsEdge eq next a q → IsTrue (is_member eq all q)) → IsSearching eq next at found visited → length found ≤ length all
  search_is_bounded at found all visited unique bound s = length-le_from_is_member laws found all unique (λ q h. let last = Reaches-last (s.sound q h) in bound last.0 q last.1)

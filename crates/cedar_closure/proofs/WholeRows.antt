-- Searches that take known rows whole find all that is reached.
use Rattle.std.proofs.Common.{◌≡◌, Bool, true, false, ◌||◌, List, [], ◌∷◌, ◌++◌, IsTrue, refl, sym, ap, ◌∙◌, ◌⊎◌, inl, inr, ℕ, suc, ◌<◌, ◌≤◌, ◌+◌, length, nat_eq, ◌↔◌, true≢false, not, arith, subst, slice_index_or}
use Rattle.std.specs.Global.{Vec}
use Rattle.std.specs.Set.{is_member, IsUnion}
use Rattle.std.proofs.lemmas.Bool.{or_cases, eqb-true}
use Rattle.std.proofs.lemmas.Cmp.{nat_eq_equiv}
use Rattle.std.proofs.lemmas.List.{length_push, length-append}
use Rattle.std.proofs.lemmas.List.Folds.{list_any-append}
use Rattle.cedar_language.specs.Facts.{Reaches, edge, further}
use Rattle.cedar_closure.specs.Numbers.{numbers_at, HasTarget}
use Rattle.cedar_closure.specs.Searching.{GoesOn}
use Rattle.cedar_closure.specs.declared.reaching.Search.{Search}
use Rattle.cedar_closure.proofs.Members.{or_more, or_else, or_none, member_at}
use Rattle.cedar_closure.proofs.Numbered.{longer}
use Rattle.cedar_closure.proofs.Search.{Reaches-then, Reaches-joined, search_ends}

-- whether it holds or not
decided : (b : Bool) → (b ≡ true) ⊎ (b ≡ false)
decided true = inl refl
decided false = inr refl

pub not_true : (b is_new : Bool) → is_new ≡ not b → is_new ≡ true → b ≡ false
not_true true is_new e h = absurd (true≢false (sym h ∙ e))
not_true false is_new e h = refl

-- what is new of a union is what was added
new_is_added : (old added new : List ℕ) → IsUnion nat_eq old added new → (q : ℕ) → IsTrue (is_member nat_eq new q) → is_member nat_eq old q ≡ false → IsTrue (is_member nat_eq added q)
new_is_added old added new union q h none = sym (ap (λ b. b || is_member nat_eq added q) none) ∙ sym (union q) ∙ h

only_one : (t q : ℕ) → IsTrue (is_member nat_eq (t ∷ []) q) → q ≡ t
only_one t q h = eqb-true q t (sym (or_none (nat_eq q t)) ∙ h)

one_is : (t q : ℕ) → q ≡ t → IsTrue (is_member nat_eq (t ∷ []) q)
one_is t q e = ap (λ x. is_member nat_eq (t ∷ []) x) e ∙ member_at nat_eq_equiv (t ∷ []) 0 t refl

-- with one more that is new a list is longer
pub grown : (old more new : List ℕ) (t : ℕ) → new ≡ old ++ more → IsTrue (is_member nat_eq new t) → is_member nat_eq old t ≡ false → length old < length new
grown old more new t cut inside none =
    let long : length new ≡ length old + length more = ap length cut ∙ length-append old more in
    elim more as (λ ms. more ≡ ms → length old < length new) [
      | [] ↦ λ e.
          let here : IsTrue (is_member nat_eq old t || false) = ap (λ ms. is_member nat_eq old t || is_member nat_eq ms t) (sym e) ∙ sym (list_any-append (nat_eq t) old more) ∙ sym (ap (λ xs. is_member nat_eq xs t) cut) ∙ inside in
          absurd (true≢false (sym here ∙ or_none (is_member nat_eq old t) ∙ none))
      | x ∷ xs ↦ λ e. let most : length more ≡ suc (length xs) = ap length e in omega arith
    ] refl

module _ (edges : List (Vec ℕ)) where
  pub goes_on_same : (P : ℕ → Type 0) (s : Search) → GoesOn edges P s s
  goes_on_same P s = record {
    kept = λ q h. h;
    sound = λ a q f h none. absurd (true≢false (sym h ∙ none));
    closed = λ m q h none. absurd (true≢false (sym h ∙ none));
    waiting = λ m h. h;
    waits = λ m h. or_more _ _ h;
    fewer = omega arith;
  }

  pub goes_on_then : (P Q : ℕ → Type 0) (old mid new : Search) → ((a : ℕ) → P a → Q a) → GoesOn edges P old mid → GoesOn edges Q mid new → GoesOn edges P old new
  goes_on_then P Q old mid new weaker f s =
      let few = f.fewer in
      let less = s.fewer in
      record {
        kept = λ q h. s.kept q (f.kept q h);
        sound = λ a q p h none. elim (decided (is_member nat_eq mid.found.members.items q)) [
          | inl k ↦ f.sound a q p k none
          | inr k ↦ s.sound a q (weaker a p) h k
        ];
        closed = λ m q h none t. elim (decided (is_member nat_eq mid.found.members.items m)) [
          | inl k ↦ elim (or_cases (is_member nat_eq mid.pending.items m) (is_member nat_eq mid.found.members.items q) (f.closed m q k none t)) [
            | inl w ↦ or_more _ _ (s.waiting m w)
            | inr w ↦ or_else (is_member nat_eq new.pending.items m) _ (s.kept q w)
          ]
          | inr k ↦ s.closed m q h k t
        ];
        waiting = λ m h. s.waiting m (f.waiting m h);
        waits = λ m h. elim (or_cases (is_member nat_eq mid.pending.items m) (is_member nat_eq new.found.members.items m) (s.waits m h)) [
          | inl w ↦ elim (or_cases (is_member nat_eq old.pending.items m) (is_member nat_eq mid.found.members.items m) (f.waits m w)) [
            | inl v ↦ or_more _ _ v
            | inr v ↦ or_else (is_member nat_eq old.pending.items m) _ (s.kept m v)
          ]
          | inr w ↦ or_else (is_member nat_eq old.pending.items m) _ w
        ];
        fewer = omega arith;
      }

  -- a number is found together with all that it reaches
  pub goes_on_whole : (old new : Search) (mid row first second : List ℕ) (t : ℕ) → IsUnion nat_eq old.found.members.items (t ∷ []) mid → IsUnion nat_eq mid row new.found.members.items
      → mid ≡ old.found.members.items ++ first → new.found.members.items ≡ mid ++ second → new.pending.items ≡ old.pending.items
      → ((q : ℕ) → IsTrue (is_member nat_eq row q) ↔ Reaches (HasTarget edges) t q) → GoesOn edges (λ a. HasTarget edges a t) old new
  goes_on_whole old new mid row first second t one all before after same reached =
      let added : (q : ℕ) → IsTrue (is_member nat_eq new.found.members.items q) → is_member nat_eq old.found.members.items q ≡ false → (q ≡ t) ⊎ Reaches (HasTarget edges) t q = λ q h none.
      elim (or_cases (is_member nat_eq mid q) (is_member nat_eq row q) (sym (all q) ∙ h)) [
        | inl k ↦ inl (only_one t q (new_is_added old.found.members.items (t ∷ []) mid one q k none))
        | inr k ↦ inr ((reached q).0 k)
      ] in
      let follows : (q : ℕ) → Reaches (HasTarget edges) t q → IsTrue (is_member nat_eq new.found.members.items q) = λ q r. all q ∙ or_else (is_member nat_eq mid q) _ ((reached q).1 r) in
      let pends : (m : ℕ) → is_member nat_eq new.pending.items m ≡ is_member nat_eq old.pending.items m = λ m. ap (λ ns. is_member nat_eq ns m) same in
      let low : length old.found.members.items ≤ length mid = longer old.found.members.items first mid before in
      let high : length mid ≤ length new.found.members.items = longer mid second new.found.members.items after in
      let as_many : length new.pending.items ≡ length old.pending.items = ap length same in
      record {
        kept = λ q h. all q ∙ or_more _ _ (one q ∙ or_more _ _ h);
        sound = λ a q f h none. elim (added q h none) [
          | inl e ↦ edge (subst (λ x. HasTarget edges a x) (sym e) f)
          | inr r ↦ further f r
        ];
        closed = λ m q h none k. or_else (is_member nat_eq new.pending.items m) _ (elim (added m h none) [
          | inl e ↦ follows q (edge (subst (λ x. HasTarget edges x q) e k))
          | inr r ↦ follows q (Reaches-then r k)
        ]);
        waiting = λ m h. pends m ∙ h;
        waits = λ m h. or_more _ _ (sym (pends m) ∙ h);
        fewer = omega arith;
      }

  -- a number is found, and its edges are pending
  pub goes_on_pending : (old new : Search) (more : List ℕ) (t : ℕ) → IsUnion nat_eq old.found.members.items (t ∷ []) new.found.members.items
      → new.found.members.items ≡ old.found.members.items ++ more → new.pending.items ≡ old.pending.items ++ t ∷ [] → is_member nat_eq old.found.members.items t ≡ false
      → GoesOn edges (λ a. HasTarget edges a t) old new
  goes_on_pending old new more t one behind pushed fresh =
      let added : (q : ℕ) → IsTrue (is_member nat_eq new.found.members.items q) → is_member nat_eq old.found.members.items q ≡ false → q ≡ t = λ q h none.
      only_one t q (new_is_added old.found.members.items (t ∷ []) new.found.members.items one q h none) in
      let pends : (m : ℕ) → is_member nat_eq new.pending.items m ≡ (is_member nat_eq old.pending.items m || is_member nat_eq (t ∷ []) m) = λ m.
      ap (λ ns. is_member nat_eq ns m) pushed ∙ list_any-append (nat_eq m) old.pending.items (t ∷ []) in
      let inside : IsTrue (is_member nat_eq new.found.members.items t) = one t ∙ or_else (is_member nat_eq old.found.members.items t) _ (one_is t t refl) in
      let high : length old.found.members.items < length new.found.members.items = grown old.found.members.items more new.found.members.items t behind inside fresh in
      let as_many : length new.pending.items ≡ length old.pending.items + 1 = ap length pushed ∙ length_push old.pending.items t in
      record {
        kept = λ q h. one q ∙ or_more _ _ h;
        sound = λ a q f h none. edge (subst (λ x. HasTarget edges a x) (sym (added q h none)) f);
        closed = λ m q h none k. or_more _ _ (pends m ∙ or_else (is_member nat_eq old.pending.items m) _ (one_is t m (added m h none)));
        waiting = λ m h. pends m ∙ or_more _ _ h;
        waits = λ m h. elim (or_cases (is_member nat_eq old.pending.items m) (is_member nat_eq (t ∷ []) m) (sym (pends m) ∙ h)) [
          | inl k ↦ or_more _ _ k
          | inr k ↦ or_else (is_member nat_eq old.pending.items m) _ (ap (λ x. is_member nat_eq new.found.members.items x) (only_one t m k) ∙ inside)
        ];
        fewer = omega arith;
      }

-- what is found is reached; what is pending was found, or is the start; and each edge from these leads to what is found, unless it is pending
pub record IsOnTheWay (edges : List (Vec ℕ)) (from : ℕ) (s : Search) : Type 0 where
  pub sound : (q : ℕ) → IsTrue (is_member nat_eq s.found.members.items q) → Reaches (HasTarget edges) from q
  pub waits : (m : ℕ) → IsTrue (is_member nat_eq s.pending.items m) → IsTrue (is_member nat_eq (from ∷ s.found.members.items) m)
  pub closed : (m q : ℕ) → IsTrue (is_member nat_eq (from ∷ s.found.members.items) m) → HasTarget edges m q → IsTrue (is_member nat_eq s.pending.items m || is_member nat_eq s.found.members.items q)

module _ (edges : List (Vec ℕ)) (from : ℕ) where
  pub way_begins : (s : Search) → s.found.members.items ≡ [] → s.pending.items ≡ from ∷ [] → IsOnTheWay edges from s
  way_begins s none start =
      let empty : (q : ℕ) → is_member nat_eq s.found.members.items q ≡ false = λ q. ap (λ ns. is_member nat_eq ns q) none in
      let begun : (m : ℕ) → is_member nat_eq s.pending.items m ≡ is_member nat_eq (from ∷ s.found.members.items) m = λ m.
      ap (λ ns. is_member nat_eq ns m) start ∙ ap (λ ns. nat_eq m from || is_member nat_eq ns m) (sym none) in
      record {
        sound = λ q h. absurd (true≢false (sym h ∙ empty q));
        waits = λ m h. sym (begun m) ∙ h;
        closed = λ m q h k. or_more _ _ (begun m ∙ h);
      }

  pub way_goes_on : (old mid new : Search) (via : ℕ) → mid.found ≡ old.found → old.pending.items ≡ mid.pending.items ++ via ∷ []
      → GoesOn edges (λ a. a ≡ via) mid new → ((q : ℕ) → HasTarget edges via q → IsTrue (is_member nat_eq new.found.members.items q)) → IsOnTheWay edges from old → IsOnTheWay edges from new
  way_goes_on old mid new via same popped on targets way =
      let pends : (m : ℕ) → is_member nat_eq old.pending.items m ≡ (is_member nat_eq mid.pending.items m || is_member nat_eq (via ∷ []) m) = λ m.
      ap (λ ns. is_member nat_eq ns m) popped ∙ list_any-append (nat_eq m) mid.pending.items (via ∷ []) in
      let finds : (q : ℕ) → is_member nat_eq mid.found.members.items q ≡ is_member nat_eq old.found.members.items q = λ q. ap (λ f. is_member nat_eq f.members.items q) same in
      let keeps : (q : ℕ) → IsTrue (is_member nat_eq old.found.members.items q) → IsTrue (is_member nat_eq new.found.members.items q) = λ q h. on.kept q (finds q ∙ h) in
      let starts : (m : ℕ) → IsTrue (is_member nat_eq (from ∷ old.found.members.items) m) → IsTrue (is_member nat_eq (from ∷ new.found.members.items) m) = λ m h.
      elim (or_cases (nat_eq m from) (is_member nat_eq old.found.members.items m) h) [
        | inl k ↦ or_more _ _ k
        | inr k ↦ or_else (nat_eq m from) _ (keeps m k)
      ] in
      let here : IsTrue (is_member nat_eq (from ∷ old.found.members.items) via) = way.waits via (pends via ∙ or_else (is_member nat_eq mid.pending.items via) _ (one_is via via refl)) in
      record {
        sound = λ q h. elim (decided (is_member nat_eq old.found.members.items q)) [
          | inl k ↦ way.sound q k
          | inr k ↦
              let r = on.sound via q refl h (finds q ∙ k) in
              elim (or_cases (nat_eq via from) (is_member nat_eq old.found.members.items via) here) [
                | inl e ↦ subst (λ x. Reaches (HasTarget edges) x q) (eqb-true via from e) r
                | inr f ↦ Reaches-joined (way.sound via f) r
              ]
        ];
        waits = λ m h. elim (or_cases (is_member nat_eq mid.pending.items m) (is_member nat_eq new.found.members.items m) (on.waits m h)) [
          | inl k ↦ starts m (way.waits m (pends m ∙ or_more _ _ k))
          | inr k ↦ or_else (nat_eq m from) _ k
        ];
        closed = λ m q h k. elim (decided (is_member nat_eq (from ∷ old.found.members.items) m)) [
          | inl s ↦ elim (or_cases (is_member nat_eq old.pending.items m) (is_member nat_eq old.found.members.items q) (way.closed m q s k)) [
            | inl w ↦ elim (or_cases (is_member nat_eq mid.pending.items m) (is_member nat_eq (via ∷ []) m) (sym (pends m) ∙ w)) [
              | inl v ↦ or_more _ _ (on.waiting m v)
              | inr v ↦ or_else (is_member nat_eq new.pending.items m) _ (targets q (subst (λ x. HasTarget edges x q) (only_one via m v) k))
            ]
            | inr w ↦ or_else (is_member nat_eq new.pending.items m) _ (keeps q w)
          ]
          | inr s ↦
              let found : IsTrue (is_member nat_eq new.found.members.items m) = elim (or_cases (nat_eq m from) (is_member nat_eq new.found.members.items m) h) [
                | inl e ↦ absurd (true≢false (sym (or_more (nat_eq m from) (is_member nat_eq old.found.members.items m) e) ∙ s))
                | inr f ↦ f
              ] in
              let fresh : is_member nat_eq old.found.members.items m ≡ false = elim (decided (is_member nat_eq old.found.members.items m)) [
                | inl f ↦ absurd (true≢false (sym (or_else (nat_eq m from) (is_member nat_eq old.found.members.items m) f) ∙ s))
                | inr f ↦ f
              ] in
              on.closed m q found (finds m ∙ fresh) k
        ];
      }

  -- where nothing is pending, all is found
  pub way_ends : (s : Search) → s.pending.items ≡ [] → IsOnTheWay edges from s → (q : ℕ) → IsTrue (is_member nat_eq s.found.members.items q) ↔ Reaches (HasTarget edges) from q
  way_ends s none way =
      let found = s.found.members.items in
      let follows : (m q : ℕ) → IsTrue (is_member nat_eq (from ∷ found) m) → HasTarget edges m q → IsTrue (is_member nat_eq found q) = λ m q h k.
      ap (λ ns. is_member nat_eq ns m || is_member nat_eq found q) (sym none) ∙ way.closed m q h k in
      search_ends nat_eq_equiv (numbers_at edges) (λ a b e. ap (numbers_at edges) (eqb-true a b e)) from found (length found) (omega arith) (record {
        sound = way.sound;
        begun = λ q k. follows from q (or_more _ _ (nat_eq_equiv.refl from)) k;
        seen = λ i h m q here k. follows m q (or_else (nat_eq m from) _ (member_at nat_eq_equiv found i m here)) k;
      })

-- one more of those still to come is found
pub taken_step : (old new left rest : List ℕ) (x : ℕ) → left ≡ x ∷ rest → ((q : ℕ) → IsTrue (is_member nat_eq old q) → IsTrue (is_member nat_eq new q)) → IsTrue (is_member nat_eq new x)
    → (q : ℕ) → IsTrue (is_member nat_eq old q || is_member nat_eq left q) → IsTrue (is_member nat_eq new q || is_member nat_eq rest q)
taken_step old new left rest x cut keeps inside q h = elim (or_cases (is_member nat_eq old q) (is_member nat_eq left q) h) [
  | inl k ↦ or_more _ _ (keeps q k)
  | inr k ↦ elim (or_cases (nat_eq q x) (is_member nat_eq rest q) (sym (ap (λ ns. is_member nat_eq ns q) cut) ∙ k)) [
    | inl e ↦ or_more _ _ (ap (λ y. is_member nat_eq new y) (eqb-true q x e) ∙ inside)
    | inr r ↦ or_else (is_member nat_eq new q) _ r
  ]
]

pub pending_below : (edges : List (Vec ℕ)) (from via n : ℕ) (s : Search) (rest : List ℕ) → IsOnTheWay edges from s → s.pending.items ≡ rest ++ via ∷ [] → from < n
    → ((q : ℕ) → IsTrue (is_member nat_eq s.found.members.items q) → q < n) → via < n
pending_below edges from via n s rest way popped first below =
    elim (or_cases (nat_eq via from) (is_member nat_eq s.found.members.items via) (way.waits via (ap (λ ns. is_member nat_eq ns via) popped ∙ list_any-append (nat_eq via) rest (via ∷ []) ∙ or_else (is_member nat_eq rest via) _ (one_is via via refl)))) [
      | inl e ↦ let same : via ≡ from = eqb-true via from e in omega arith
      | inr h ↦ below via h
    ]

pub nothing_left : (xs : List ℕ) → length xs ≡ 0 → xs ≡ []
nothing_left [] e = refl
nothing_left (x ∷ xs) e = absurd (omega arith)

-- of those still to come the first is known, or isn't asked for
pub known_step : (old new : List Bool) (left rest : List ℕ) (x a : ℕ) → left ≡ x ∷ rest → ((q : ℕ) → IsTrue (slice_index_or old q false) → IsTrue (slice_index_or new q false))
    → (a ≡ x → IsTrue (slice_index_or new a false)) → IsTrue (slice_index_or old a false || is_member nat_eq left a) → IsTrue (slice_index_or new a false || is_member nat_eq rest a)
known_step old new left rest x a cut keeps here h = elim (or_cases (slice_index_or old a false) (is_member nat_eq left a) h) [
  | inl k ↦ or_more _ _ (keeps a k)
  | inr k ↦ elim (or_cases (nat_eq a x) (is_member nat_eq rest a) (sym (ap (λ ns. is_member nat_eq ns a) cut) ∙ k)) [
    | inl e ↦ or_more _ _ (here (eqb-true a x e))
    | inr r ↦ or_else (slice_index_or new a false) _ r
  ]
]

pub known_end : (marks : List Bool) (left : List ℕ) (a : ℕ) → left ≡ [] → IsTrue (slice_index_or marks a false || is_member nat_eq left a) → IsTrue (slice_index_or marks a false)
known_end marks left a none h = sym (or_none (slice_index_or marks a false)) ∙ ap (λ ns. slice_index_or marks a false || is_member nat_eq ns a) (sym none) ∙ h

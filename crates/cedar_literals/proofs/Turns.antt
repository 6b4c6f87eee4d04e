-- What each turn of a search makes of it.
use Rattle.std.proofs.Common.{◌≡◌, ◌↔◌, ℕ, ◌+◌, ◌*◌, ◌<◌, ◌≤◌, suc, List, [], ◌∷◌, ◌++◌, map, length, Option, Some, None, inl, inr, refl, sym, ap, ◌∙◌, arith, append_assoc, length-append}
use Rattle.std.proofs.lemmas.List.{length-map}
use Rattle.std.proofs.lemmas.Nat.{mul-le}
use Rattle.std.proofs.Math.Nat.{mul-suc, suc-mul}
use Rattle.cedar_language.specs.Tree.{PatternElem, Char, Wildcard}
use Rattle.cedar_language.specs.Pattern.{Matches, at_end, a_char, a_run}
use Rattle.std.specs.Prelude.{IsTrue}
use Rattle.std.specs.List.{list_all}
use Rattle.cedar_literals.specs.Patterns.{elem_of}
use Rattle.cedar_literals.specs.declared.patterns.PatternElem as code
use Rattle.cedar_literals.specs.declared.patterns.PatternElem.TheVariants as kind
use Rattle.cedar_literals.specs.Matching.{is_wildcard, elems_at, chars_at, MatchesAt, CanMatch, HasCome, begun, turns_left, TurnsTo}
use Rattle.cedar_literals.specs.declared.matching.Place.{Place}
use Rattle.cedar_literals.specs.declared.matching.Search.{Search}
use Rattle.cedar_literals.proofs.Greedy.{made_of, covered, none_later, none_or_more, one_more}

-- a search that begins at a place
abbrev pub from : Place → Search
from p = record { at = p; start = Some p }

-- what such a search can find: a match behind a wildcard
found : (p : Place) → Matches (Wildcard ∷ elems_at p) (chars_at p) → CanMatch (from p)
found p m = none_or_more (elems_at p) (chars_at p) m

behind : (p : Place) → CanMatch (from p) → Matches (Wildcard ∷ elems_at p) (chars_at p)
behind p (inl m) = a_run [] (chars_at p) refl m
behind p (inr (c, cs, e, m)) = rw e (one_more (elems_at p) c cs m)

-- no matter where a search began, what is left is no longer
abbrev Longer : Place → Place → Type 0
Longer q p = (length (chars_at p) ≤ length (chars_at q)) × (length (elems_at p) ≤ length (elems_at q))

longer : (start : Option Place) (p : Place) → HasCome start p → Longer (begun start p) p
longer None p h = (omega arith, omega arith)
longer (Some q) p (run, e, f) =
    let chars : length (chars_at q) ≡ length run + length (chars_at p) = ap length f ∙ length-append run (chars_at p) in
    let elems : length (elems_at q) ≡ length (map Char run) + length (elems_at p) = ap length e ∙ length-append (map Char run) (elems_at p) in
    (omega (arith, chars), omega (arith, elems))

same_tail : (c d : ℕ) (cs ds : List ℕ) → c ∷ cs ≡ d ∷ ds → cs ≡ ds
same_tail c d cs ds e = cc

wildcard_forward : (start : Option Place) (p t : Place) → elems_at p ≡ Wildcard ∷ elems_at t → chars_at t ≡ chars_at p → HasCome start p → CanMatch (record { at = p; start = start }) → Matches (Wildcard ∷ elems_at t) (chars_at t)
wildcard_forward start p t e f h (inl m) = rw (f, ← e) m
wildcard_forward None p t e f h (inr l) = absurd l
wildcard_forward (Some q) p t e f h (inr (c, cs, j, m)) =
    let k : Matches (Wildcard ∷ (map Char h.0 ++ (Wildcard ∷ elems_at t))) cs = rw (← e, ← h.1) m in
    rw f (covered c cs h.0 (chars_at p) (elems_at t) (sym j ∙ h.2) k)

wildcard_backward : (start : Option Place) (p t : Place) → elems_at p ≡ Wildcard ∷ elems_at t → chars_at t ≡ chars_at p → Matches (Wildcard ∷ elems_at t) (chars_at t) → CanMatch (record { at = p; start = start })
wildcard_backward start p t e f m = inl (rw (e, ← f) m)

wildcard_fewer : (n m k j : ℕ) → n ≤ m → suc j ≤ k → 0 < n → n * j + n < m * k + n
wildcard_fewer n m k j a b c =
    let most : n * suc j ≤ m * k = mul-le n (suc j) m k a b in
    omega (arith, most, mul-suc n j, c)

pub at_wildcard : (start : Option Place) (p t : Place) (c : ℕ) (cs : List ℕ) → elems_at p ≡ Wildcard ∷ elems_at t → chars_at t ≡ chars_at p → chars_at p ≡ c ∷ cs → HasCome start p → TurnsTo (record { at = p; start = start }) (Some (from t))
at_wildcard start p t c cs e f some h =
    let long = longer start p h in
    let elems : length (elems_at p) ≡ suc (length (elems_at t)) = ap length e in
    let chars : length (chars_at t) ≡ length (chars_at p) = ap length f in
    let more : length (chars_at p) ≡ suc (length cs) = ap length some in (
      (λ m. found t (wildcard_forward start p t e f h m), λ m. wildcard_backward start p t e f (behind t m)),
      ([], refl, refl),
      rw chars (wildcard_fewer (length (chars_at p)) (length (chars_at (begun start p))) (length (elems_at (begun start p))) (length (elems_at t)) long.0 (omega (arith, long.1, elems)) (omega (arith, more))),
    )

char_forward : (start : Option Place) (p t : Place) (c : ℕ) → elems_at p ≡ Char c ∷ elems_at t → chars_at p ≡ c ∷ chars_at t → CanMatch (record { at = p; start = start }) → CanMatch (record { at = t; start = start })
char_forward start p t c e f (inl m) =
    let k : Matches (Char c ∷ elems_at t) (c ∷ chars_at t) = rw (← e, ← f) m in
    let (rest, g, j) = made_of k in
    inl (rw (same_tail c c (chars_at t) rest g) j)
char_forward start p t c e f (inr l) = inr l

char_backward : (start : Option Place) (p t : Place) (c : ℕ) → elems_at p ≡ Char c ∷ elems_at t → chars_at p ≡ c ∷ chars_at t → CanMatch (record { at = t; start = start }) → CanMatch (record { at = p; start = start })
char_backward start p t c e f (inl m) = inl (rw (e, f) (a_char m))
char_backward start p t c e f (inr l) = inr l

come_on : (start : Option Place) (p t : Place) (c : ℕ) → elems_at p ≡ Char c ∷ elems_at t → chars_at p ≡ c ∷ chars_at t → HasCome start p → HasCome start t
come_on None p t c e f h = tt
come_on (Some q) p t c e f (run, g, i) = (
  run ++ c ∷ [],
  g ∙ ap (λ x. map Char run ++ x) e ∙ one_longer run,
  i ∙ ap (λ x. run ++ x) f ∙ sym (append_assoc run (c ∷ []) (chars_at t)),
)
  where
    one_longer : (run : List ℕ) → map Char run ++ (Char c ∷ elems_at t) ≡ map Char (run ++ c ∷ []) ++ elems_at t
    one_longer [] = refl
    one_longer (d ∷ run) = ap (λ x. Char d ∷ x) (one_longer run)

char_fewer : (n m : ℕ) → n * m + n < suc n * suc m + suc n
char_fewer n m =
    let most : n * m ≤ suc n * suc m = mul-le n m (suc n) (suc m) (omega arith) (omega arith) in
    omega (arith, most)

fewer_left : (start : Option Place) (p t : Place) (c : ℕ) → elems_at p ≡ Char c ∷ elems_at t → chars_at p ≡ c ∷ chars_at t → turns_left (record { at = t; start = start }) < turns_left (record { at = p; start = start })
fewer_left None p t c e f = rw (e, f) (char_fewer (length (chars_at t)) (length (elems_at t)))
fewer_left (Some q) p t c e f = let more : length (chars_at p) ≡ suc (length (chars_at t)) = ap length f in omega (arith, more)

pub at_char : (start : Option Place) (p t : Place) (c : ℕ) → elems_at p ≡ Char c ∷ elems_at t → chars_at p ≡ c ∷ chars_at t → HasCome start p → TurnsTo (record { at = p; start = start }) (Some (record { at = t; start = start }))
at_char start p t c e f h = ((char_forward start p t c e f, char_backward start p t c e f), come_on start p t c e f h, fewer_left start p t c e f)

later_forward : (p q t : Place) (c : ℕ) → chars_at q ≡ c ∷ chars_at t → elems_at t ≡ elems_at q → ¬ (MatchesAt p) → CanMatch (record { at = p; start = Some q }) → CanMatch (from t)
later_forward p q t c e f n (inl m) = absurd (n m)
later_forward p q t c e f n (inr (d, cs, g, m)) =
    let tail : chars_at t ≡ cs = same_tail c d (chars_at t) cs (sym e ∙ g) in
    found t (rw (f, tail) m)

later_backward : (p q t : Place) (c : ℕ) → chars_at q ≡ c ∷ chars_at t → elems_at t ≡ elems_at q → CanMatch (from t) → CanMatch (record { at = p; start = Some q })
later_backward p q t c e f m = inr (c, chars_at t, e, rw (← f) (behind t m))

later_fewer : (l m k : ℕ) → l < m + k → l * m + l < suc l * m + k
later_fewer l m k h = omega (arith, suc-mul l m, h)

pub from_later : (p q t : Place) (c : ℕ) → chars_at q ≡ c ∷ chars_at t → elems_at t ≡ elems_at q → HasCome (Some q) p → ¬ (MatchesAt p) → TurnsTo (record { at = p; start = Some q }) (Some (from t))
from_later p q t c e f (run, g, i) n =
    let chars : suc (length (chars_at t)) ≡ length run + length (chars_at p) = sym (ap length e) ∙ ap length i ∙ length-append run (chars_at p) in
    let elems : length (elems_at q) ≡ length (map Char run) + length (elems_at p) = ap length g ∙ length-append (map Char run) (elems_at p) in
    let same = length-map run Char in (
      (later_forward p q t c e f n, later_backward p q t c e f),
      ([], refl, refl),
      rw (e, f) (later_fewer (length (chars_at t)) (length (elems_at q)) (length (chars_at p)) (omega (arith, chars, elems, same))),
    )

-- nothing matches behind a search's place where the text goes on and the pattern doesn't, or otherwise
pub no_elems : (p : Place) (c : ℕ) (cs : List ℕ) → elems_at p ≡ [] → chars_at p ≡ c ∷ cs → ¬ (MatchesAt p)
no_elems p c cs e f m = let k : chars_at p ≡ [] = no_more (chars_at p) (rw (← e) m) in absurd (cc)
  where
    no_more : (cs : List ℕ) → Matches [] cs → cs ≡ []
    no_more cs k = made_of k

pub other_char : (p : Place) (c d : ℕ) (cs : List ℕ) (ps : List PatternElem) → elems_at p ≡ Char d ∷ ps → chars_at p ≡ c ∷ cs → (d ≡ c → ⊥) → ¬ (MatchesAt p)
other_char p c d cs ps e f n m =
    let k : Matches (Char d ∷ ps) (chars_at p) = rw (← e) m in
    let (rest, g, j) = made_of k in
    n (cc)

pub later_turn : (start : Option Place) (p q t : Place) (c : ℕ) → start ≡ Some q → chars_at q ≡ c ∷ chars_at t → elems_at t ≡ elems_at q → HasCome start p → ¬ (MatchesAt p) → TurnsTo (record { at = p; start = start }) (Some (from t))
later_turn start p q t c e f g h n = rw e (from_later p q t c f g (rw e at h) n)

-- where the text is at its end, a match is one of what is left of the pattern
end_forward : (start : Option Place) (p : Place) → chars_at p ≡ [] → HasCome start p → CanMatch (record { at = p; start = start }) → Matches (elems_at p) []
end_forward start p e h (inl m) = rw (← e) m
end_forward None p e h (inr l) = absurd l
end_forward (Some q) p e h (inr (c, cs, j, m)) =
    let k : Matches (Wildcard ∷ (map Char h.0 ++ elems_at p)) cs = rw (← h.1) m in
    absurd (none_later c cs h.0 (elems_at p) (sym j ∙ h.2 ∙ ap (λ x. h.0 ++ x) e) k)

pub at_text_end : (start : Option Place) (p : Place) → chars_at p ≡ [] → HasCome start p → CanMatch (record { at = p; start = start }) ↔ Matches (elems_at p) []
at_text_end start p e h = (end_forward start p e h, λ m. inl (rw e m))

-- nothing but wildcards matches the empty text
pub wildcards_left : (xs : List code.PatternElem) → IsTrue (list_all (λ p. is_wildcard (elem_of p)) xs) ↔ Matches (map elem_of xs) []
wildcards_left [] = (λ _. at_end, λ _. refl)
wildcards_left (kind.Char c ∷ xs) = (λ h. absurd (cc), λ m. no_char c (map elem_of xs) m)
  where
    no_char : {P : Type 0} (c : ℕ) (ps : List PatternElem) → Matches (Char c ∷ ps) [] → P
    no_char c ps m = let (rest, e, k) = made_of m in absurd (cc)
wildcards_left (kind.Wildcard ∷ xs) = (λ h. a_run [] [] refl ((wildcards_left xs).0 h), λ m. (wildcards_left xs).1 (no_run (map elem_of xs) m))
  where
    no_run : (ps : List PatternElem) → Matches (Wildcard ∷ ps) [] → Matches ps []
    no_run ps m = elim (none_or_more ps [] m) [ inl k ↦ k | inr (c, rest, e, k) ↦ absurd (cc) ]

pub first_wildcard : (xs : List code.PatternElem) (x : code.PatternElem) (ys : List code.PatternElem) → xs ≡ x ∷ ys → x ≡ kind.Wildcard → map elem_of xs ≡ Wildcard ∷ map elem_of ys
first_wildcard xs x ys e f = rw (e, f) refl

pub first_char : (xs : List code.PatternElem) (x : code.PatternElem) (ys : List code.PatternElem) (c : ℕ) → xs ≡ x ∷ ys → x ≡ kind.Char c → map elem_of xs ≡ Char c ∷ map elem_of ys
first_char xs x ys c e f = rw (e, f) refl

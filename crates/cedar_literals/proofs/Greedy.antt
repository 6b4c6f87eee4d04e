-- Why a search may forget all wildcards but the last.
use Rattle.std.proofs.Common.{◌≡◌, ℕ, ◌+◌, ◌<◌, ◌≤◌, suc, List, [], ◌∷◌, ◌++◌, map, length, drop, ◌⊎◌, inl, inr, refl, sym, ap, ◌∙◌, arith, append_assoc, length-append, length-drop}
use Rattle.std.proofs.Math.Seq.{drop-append_seam}
use Rattle.std.proofs.lemmas.List.{drop-append-le}
use Rattle.cedar_language.specs.Tree.{PatternElem, Char, Wildcard}
use Rattle.cedar_language.specs.Pattern.{Matches, at_end, a_char, a_run}

-- what a match is made of, by the first element
abbrev pub MadeOf : List PatternElem → List ℕ → Type 0
MadeOf [] cs = cs ≡ []
MadeOf (Char c ∷ ps) cs = (rest : List ℕ) × (cs ≡ c ∷ rest) × Matches ps rest
MadeOf (Wildcard ∷ ps) cs = (run : List ℕ) × (rest : List ℕ) × (cs ≡ run ++ rest) × Matches ps rest

pub made_of : {ps : List PatternElem} {cs : List ℕ} → Matches ps cs → MadeOf ps cs
made_of at_end = refl
made_of (a_char {c} {ps} {cs} m) = (cs, refl, m)
made_of (a_run {ps} {cs} run rest e m) = (run, rest, e, m)

-- past characters that stand for themselves
pub past_run : (run : List ℕ) (ps : List PatternElem) (cs : List ℕ) → Matches (map Char run ++ ps) cs → (rest : List ℕ) × (cs ≡ run ++ rest) × Matches ps rest
past_run [] ps cs m = (cs, refl, m)
past_run (c ∷ run) ps cs m =
    let (after, e, k) = made_of m in
    let (rest, f, j) = past_run run ps after k in
    (rest, e ∙ ap (λ x. c ∷ x) f, j)

-- a match from a later start leaves an end of what the search has left
pub ends_later : (c : ℕ) (cs run left : List ℕ) (ps : List PatternElem) → c ∷ cs ≡ run ++ left → Matches (Wildcard ∷ (map Char run ++ ps)) cs
    → (front : List ℕ) × (rest : List ℕ) × (left ≡ front ++ rest) × (0 < length front) × Matches ps rest
ends_later c cs run left ps e m =
    let (skipped, after, f, k) = made_of m in
    let (rest, g, j) = past_run run ps after k in
    let all : run ++ left ≡ (c ∷ (skipped ++ run)) ++ rest = sym e ∙ ap (λ x. c ∷ x) (f ∙ ap (λ x. skipped ++ x) g ∙ sym (append_assoc skipped run rest)) in
    let long : length (c ∷ (skipped ++ run)) ≡ suc (length skipped + length run) = ap suc (length-append skipped run) in
    let short : length run ≤ length (c ∷ (skipped ++ run)) = omega (arith, long) in
    let cut : left ≡ drop (length run) (c ∷ (skipped ++ run)) ++ rest = sym (drop-append_seam run left) ∙ ap (drop (length run)) all ∙ drop-append-le (length run) (c ∷ (skipped ++ run)) rest short in
    let front = drop (length run) (c ∷ (skipped ++ run)) in
    (front, rest, cut, omega (arith, long, length-drop (length run) (c ∷ (skipped ++ run))), j)

-- where the text is at its end, no later start matches
pub none_later : (c : ℕ) (cs run : List ℕ) (ps : List PatternElem) → c ∷ cs ≡ run ++ [] → ¬ (Matches (Wildcard ∷ (map Char run ++ ps)) cs)
none_later c cs run ps e m =
    let (front, rest, f, some, j) = ends_later c cs run [] ps e m in
    let nothing : 0 ≡ length front + length rest = ap length f ∙ length-append front rest in
    absurd (omega (arith, some, nothing))

-- a match from a later start is one behind the wildcard that the search has come to
pub covered : (c : ℕ) (cs run left : List ℕ) (ps : List PatternElem) → c ∷ cs ≡ run ++ left → Matches (Wildcard ∷ (map Char run ++ (Wildcard ∷ ps))) cs → Matches (Wildcard ∷ ps) left
covered c cs run left ps e m =
    let (front, rest, f, some, j) = ends_later c cs run left (Wildcard ∷ ps) e m in
    let (skipped, after, g, k) = made_of j in
    a_run (front ++ skipped) after (f ∙ ap (λ x. front ++ x) g ∙ sym (append_assoc front skipped after)) k

-- a wildcard takes no character, or one more
pub none_or_more : (ps : List PatternElem) (cs : List ℕ) → Matches (Wildcard ∷ ps) cs → Matches ps cs ⊎ ((c : ℕ) × (rest : List ℕ) × (cs ≡ c ∷ rest) × Matches (Wildcard ∷ ps) rest)
none_or_more ps cs m = let (run, rest, e, k) = made_of m in taken run rest e k
  where
    taken : (run rest : List ℕ) → cs ≡ run ++ rest → Matches ps rest → Matches ps cs ⊎ ((c : ℕ) × (rest : List ℕ) × (cs ≡ c ∷ rest) × Matches (Wildcard ∷ ps) rest)
    taken [] rest e k = inl (rw e k)
    taken (c ∷ run) rest e k = inr (c, run ++ rest, e, a_run run rest refl k)

-- and whatever it takes, it may take one more
pub one_more : (ps : List PatternElem) (c : ℕ) (cs : List ℕ) → Matches (Wildcard ∷ ps) cs → Matches (Wildcard ∷ ps) (c ∷ cs)
one_more ps c cs m = let (run, rest, e, k) = made_of m in a_run (c ∷ run) rest (ap (λ x. c ∷ x) e) k

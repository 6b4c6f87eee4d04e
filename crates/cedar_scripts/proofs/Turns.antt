-- Values in turn, of which the last changes or one more stands behind.
use Rattle.std.proofs.Common.{◌≡◌, ℕ, ◌+◌, List, [], ◌∷◌, ◌++◌, length, refl, sym, ap, subst, ◌∙◌, append_assoc, length-append, arith}
use Rattle.std.proofs.lemmas.List.{append-nil}
use Rattle.cedar_scripts.specs.ScriptLines.{Said}
use Rattle.cedar_scripts.specs.ScriptTexts.{AreInTurn}

-- a list that isn't empty has a last value
pub last_split : {A : Type 0} (x : A) (xs : List A) → (front : List A) × (last : A) × (x ∷ xs ≡ front ++ last ∷ [])
last_split x [] = ([], x, refl)
last_split x (y ∷ ys) = let r = last_split y ys in (x ∷ r.0, r.1, ap (λ l. x ∷ l) r.2)

module _ {A : Type 0} (Is : ℕ → List Said → A → Type 0) where
  in_turn-append : (n : ℕ) (a b : List Said) (xs ys : List A) → AreInTurn Is n a xs → AreInTurn Is (n + length a) b ys → AreInTurn Is n (a ++ b) (xs ++ ys)
  in_turn-append n a b [] ys p q =
      let none : n + length a ≡ n = omega (arith, ap length p) in
      subst (λ l. AreInTurn Is n (l ++ b) ys) (sym p) (subst (λ k. AreInTurn Is k b ys) none q)
  in_turn-append n a b (x ∷ xs) ys p q =
      let far : n + length a ≡ (n + length p.0) + length p.1 = omega (arith, ap length p.2, length-append p.0 p.1) in
      let rest = in_turn-append (n + length p.0) p.1 b xs ys p.4 (subst (λ k. AreInTurn Is k b ys) far q) in
      (p.0, p.1 ++ b, ap (λ l. l ++ b) p.2 ∙ append_assoc p.0 p.1 b, p.3, rest)

  in_turn-one : (n : ℕ) (lines : List Said) (x : A) → Is n lines x → AreInTurn Is n lines (x ∷ [])
  in_turn-one n lines x h = (lines, [], sym (append-nil lines), h, refl)

  in_turn-last : (n : ℕ) (lines : List Said) (xs : List A) (x : A) → AreInTurn Is n lines (xs ++ x ∷ [])
      → (own last : List Said) × (lines ≡ own ++ last) × AreInTurn Is n own xs × Is (n + length own) last x
  in_turn-last n lines [] x p =
      let same : n ≡ n + 0 = omega arith in
      ([], p.0, p.2 ∙ ap (λ l. p.0 ++ l) p.4 ∙ append-nil p.0, refl, subst (λ k. Is k p.0 x) same p.3)
  in_turn-last n lines (y ∷ ys) x p =
      let r = in_turn-last (n + length p.0) p.1 ys x p.4 in
      let far : (n + length p.0) + length r.0 ≡ n + length (p.0 ++ r.0) = omega (arith, length-append p.0 r.0) in
      (p.0 ++ r.0, r.1, p.2 ∙ ap (λ l. p.0 ++ l) r.2 ∙ sym (append_assoc p.0 r.0 r.1), (p.0, r.0, refl, p.3, r.3), subst (λ k. Is k r.1 x) far r.4)

  -- one value more
  pub in_turn-more : (n : ℕ) (lines more : List Said) (xs : List A) (x : A) → AreInTurn Is n lines xs → Is (n + length lines) more x
      → AreInTurn Is n (lines ++ more) (xs ++ x ∷ [])
  in_turn-more n lines more xs x p h = in_turn-append n lines more xs (x ∷ []) p (in_turn-one (n + length lines) more x h)

  -- further lines, which change the last value
  pub in_turn-change : (n : ℕ) (lines more : List Said) (xs : List A) (x y : A) (number : ℕ) → number ≡ n + length lines
      → ((k : ℕ) (own : List Said) → number ≡ k + length own → Is k own x → Is k (own ++ more) y)
      → AreInTurn Is n lines (xs ++ x ∷ []) → AreInTurn Is n (lines ++ more) (xs ++ y ∷ [])
  in_turn-change n lines more xs x y number e change p =
      let r = in_turn-last n lines xs x p in
      let far : number ≡ (n + length r.0) + length r.1 = omega (arith, e, ap length r.2, length-append r.0 r.1) in
      let changed = change (n + length r.0) r.1 far r.4 in
      let whole = in_turn-append n r.0 (r.1 ++ more) xs (y ∷ []) r.3 (in_turn-one (n + length r.0) (r.1 ++ more) y changed) in
      subst (λ l. AreInTurn Is n l (xs ++ y ∷ [])) (sym (ap (λ l. l ++ more) r.2 ∙ append_assoc r.0 r.1 more)) whole

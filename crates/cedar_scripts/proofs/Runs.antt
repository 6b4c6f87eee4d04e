-- Lines taken one behind the other: what each makes of what stands before it, or nothing where it can't stand there.
use Rattle.std.proofs.Common.{◌≡◌, ℕ, zero, suc, ◌+◌, List, [], ◌∷◌, ◌++◌, length, Option, Some, None, option_map, refl, sym, ap, ◌∙◌, append_assoc, arith}
use Rattle.std.proofs.lemmas.List.{append-nil}
use Rattle.std.specs.Option.{option_and_then}
use Rattle.cedar_scripts.specs.ScriptLines.{Said, Nothing}
use Rattle.cedar_scripts.specs.ScriptTexts.{idle, AreInTurn}

module _ {S : Type 0} (taken : ℕ → Said → S → Option S) where
  abbrev pub run : ℕ → List Said → S → Option S
  run n [] s = Some s
  run n (x ∷ xs) s = option_and_then (λ t. run (n + 1) xs t) (taken n x s)

module _ {S : Type 0} (taken : ℕ → Said → S → Option S) where
  pub run-cons : (n : ℕ) (x : Said) (xs : List Said) (s t : S) → taken n x s ≡ Some t → run taken n (x ∷ xs) s ≡ run taken (n + 1) xs t
  run-cons n x xs s t e = ap (option_and_then (λ u. run taken (n + 1) xs u)) e

  run-through : (n : ℕ) (x : Said) (xs ys : List Said)
      → ((t : S) → run taken (n + 1) (xs ++ ys) t ≡ option_and_then (λ u. run taken (n + length (x ∷ xs)) ys u) (run taken (n + 1) xs t)) → (o : Option S)
      → option_and_then (λ t. run taken (n + 1) (xs ++ ys) t) o ≡ option_and_then (λ t. run taken (n + length (x ∷ xs)) ys t) (option_and_then (λ t. run taken (n + 1) xs t) o)
  run-through n x xs ys rest None = refl
  run-through n x xs ys rest (Some t) = rest t

  run-append : (n : ℕ) (xs ys : List Said) (s : S) → run taken n (xs ++ ys) s ≡ option_and_then (λ t. run taken (n + length xs) ys t) (run taken n xs s)
  run-append n [] ys s =
      let same : n ≡ n + 0 = omega arith in ap (λ k. run taken k ys s) same
  run-append n (x ∷ xs) ys s =
      let far : (n + 1) + length xs ≡ n + length (x ∷ xs) = omega arith in
      run-through n x xs ys (λ t. run-append (n + 1) xs ys t ∙ ap (λ k. option_and_then (λ u. run taken k ys u) (run taken (n + 1) xs t)) far) (taken n x s)

  -- two runs, one behind the other
  pub run-both : (n k : ℕ) (xs ys : List Said) (s t : S) → k ≡ n + length xs → run taken n xs s ≡ Some t → run taken n (xs ++ ys) s ≡ run taken k ys t
  run-both n k xs ys s t e first = run-append n xs ys s ∙ ap (option_and_then (λ u. run taken (n + length xs) ys u)) first ∙ ap (λ j. run taken j ys t) (sym e)

  pub run-idle : ((n : ℕ) (s : S) → taken n Nothing s ≡ Some s) → (n count : ℕ) (s : S) → run taken n (idle count) s ≡ Some s
  run-idle keeps n zero s = refl
  run-idle keeps n (suc count) s = run-cons n Nothing (idle count) s s (keeps n s) ∙ run-idle keeps (n + 1) count s

  -- values that stand one behind the other are gathered
  pub run-in_turn : {A : Type 0} (Is : ℕ → List Said → A → Type 0) (holding : List A → S)
      → ((n : ℕ) (own : List Said) (xs : List A) (x : A) → Is n own x → run taken n own (holding xs) ≡ Some (holding (xs ++ x ∷ [])))
      → (n : ℕ) (lines : List Said) (before xs : List A) → AreInTurn Is n lines xs → run taken n lines (holding before) ≡ Some (holding (before ++ xs))
  run-in_turn Is holding one n lines before [] h =
      ap (λ l. run taken n l (holding before)) h ∙ ap (λ l. Some (holding l)) (sym (append-nil before))
  run-in_turn Is holding one n lines before (x ∷ xs) h =
      ap (λ l. run taken n l (holding before)) h.2 ∙ run-both n (n + length h.0) h.0 h.1 (holding before) (holding (before ++ x ∷ [])) refl (one n h.0 before x h.3)
      ∙ run-in_turn Is holding one (n + length h.0) h.1 (before ++ x ∷ []) xs h.4 ∙ ap (λ l. Some (holding l)) (append_assoc before (x ∷ []) xs)

-- what is taken inside of another value
module _ {S T : Type 0} (inner : ℕ → Said → S → Option S) (outer : ℕ → Said → T → Option T) (holding : S → T)
    (lift : (n : ℕ) (x : Said) (s t : S) → inner n x s ≡ Some t → outer n x (holding s) ≡ Some (holding t)) where
  lift-through : (n : ℕ) (x : Said) (xs : List Said) (s t : S) → ((u : S) → run inner (n + 1) xs u ≡ Some t → run outer (n + 1) xs (holding u) ≡ Some (holding t))
      → (o : Option S) → inner n x s ≡ o → option_and_then (λ u. run inner (n + 1) xs u) o ≡ Some t → run outer n (x ∷ xs) (holding s) ≡ Some (holding t)
  lift-through n x xs s t rest None e none = cc
  lift-through n x xs s t rest (Some u) e some = run-cons outer n x xs (holding s) (holding u) (lift n x s u e) ∙ rest u some

  pub run-lift : (n : ℕ) (xs : List Said) (s t : S) → run inner n xs s ≡ Some t → run outer n xs (holding s) ≡ Some (holding t)
  run-lift n [] s t e = ap (option_map holding) e
  run-lift n (x ∷ xs) s t e = lift-through n x xs s t (λ u h. run-lift (n + 1) xs u t h) (inner n x s) refl e

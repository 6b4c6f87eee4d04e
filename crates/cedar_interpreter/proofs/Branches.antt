-- How deep what is evaluated behind a test, or behind an operand, nests.
use Rattle.std.proofs.Common.{◌≡◌, ◌∙◌, ◌≤◌, ℕ, suc, max, refl, ap, sym, subst, arith, true, false}
use Rattle.either.specs.declared.Either.{Either}
use Rattle.either.specs.declared.Either.TheVariants.{Left, Right}
use Rattle.cedar_language.specs.Tree.{Boolean, Tree}
use Rattle.cedar_language.specs.Value.{Value, Plain}
use Rattle.cedar_partial_evaluation.specs.Partial.{Answer, Evaluated, ResidualTree, Failed}
use Rattle.cedar_interpreter.specs.Depths.{branch_depth, depth_behind}
use Rattle.cedar_interpreter.specs.Meeting.{part_answer, tested_answer}
use Rattle.cedar_interpreter.specs.Naming.{as_read}

pub branch_low : (b : Answer) (met unmet : ℕ) → branch_depth b met unmet ≤ max met unmet
branch_low (Evaluated (Plain (Boolean true))) met unmet = omega arith
branch_low (Evaluated (Plain (Boolean false))) met unmet = omega arith
branch_low (Evaluated _) met unmet = omega arith
branch_low (ResidualTree r) met unmet = omega arith
branch_low (Failed k) met unmet = omega arith

pub behind_low : (b : Answer) (depth : ℕ) → depth_behind b depth ≤ depth
behind_low (Evaluated v) depth = omega arith
behind_low (ResidualTree r) depth = omega arith
behind_low (Failed k) depth = omega arith

branch_tests : (b : Answer) (met unmet : ℕ) → branch_depth b met unmet ≡ branch_depth (tested_answer b) met unmet
branch_tests (Evaluated (Plain (Boolean true))) met unmet = refl
branch_tests (Evaluated (Plain (Boolean false))) met unmet = refl
branch_tests (Evaluated _) met unmet = refl
branch_tests (ResidualTree r) met unmet = refl
branch_tests (Failed k) met unmet = refl

module _ (b : Answer) (met unmet : ℕ) where
  branch_as : (c : Answer) → tested_answer b ≡ c → branch_depth b met unmet ≡ branch_depth c met unmet
  branch_as c h = branch_tests b met unmet ∙ ap (λ x. branch_depth x met unmet) h

  pub branch_taken : tested_answer b ≡ Evaluated (Plain (Boolean true)) → met ≤ branch_depth b met unmet
  branch_taken h = subst (λ n. met ≤ n) (sym (branch_as (Evaluated (Plain (Boolean true))) h)) (omega arith)

  pub branch_else : tested_answer b ≡ Evaluated (Plain (Boolean false)) → unmet ≤ branch_depth b met unmet
  branch_else h = subst (λ n. unmet ≤ n) (sym (branch_as (Evaluated (Plain (Boolean false))) h)) (omega arith)

  module _ (r : Tree) (h : tested_answer b ≡ ResidualTree r) where
    pub branch_first : met ≤ branch_depth b met unmet
    branch_first = subst (λ n. met ≤ n) (sym (branch_as (ResidualTree r) h)) (omega arith)

    pub branch_second : unmet ≤ branch_depth b met unmet
    branch_second = subst (λ n. unmet ≤ n) (sym (branch_as (ResidualTree r) h)) (omega arith)

pub behind_part : (p : Either Value Tree) (b : Answer) (depth : ℕ) → b ≡ part_answer p → depth ≤ depth_behind b depth
behind_part (Left v) b depth h = subst (λ (x : Answer). depth ≤ depth_behind x depth) (sym h) (omega arith)
behind_part (Right r) b depth h = subst (λ (x : Answer). depth ≤ depth_behind x depth) (sym h) (omega arith)

-- ---- of what is read

pub branch_read : (b : Answer) (met unmet more other : ℕ) → met ≤ suc more → unmet ≤ suc other → branch_depth b met unmet ≤ suc (branch_depth (as_read b) more other)
branch_read (Evaluated (Plain (Boolean true))) met unmet more other h k = h
branch_read (Evaluated (Plain (Boolean false))) met unmet more other h k = k
branch_read (Evaluated _) met unmet more other h k = omega arith
branch_read (ResidualTree r) met unmet more other h k = omega (arith, h, k)
branch_read (Failed k) met unmet more other h l = omega arith

pub behind_read : (b : Answer) (depth more : ℕ) → depth ≤ suc more → depth_behind b depth ≤ suc (depth_behind (as_read b) more)
behind_read (Evaluated v) depth more h = h
behind_read (ResidualTree r) depth more h = h
behind_read (Failed k) depth more h = omega arith

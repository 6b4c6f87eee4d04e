-- Heights, from the parts of a tree.
use Rattle.std.proofs.Common.{◌≡◌, ◌∙◌, refl, sym, ap, ℕ, suc, List, ◌∷◌, true, false, arith}
use Rattle.std.proofs.Math.Dec.{leb-suc-suc}
use Rattle.std.proofs.lemmas.Bool.{le-leb, leb-true, leb-false, lt-leb}
use Rattle.std.specs.Prelude.{Bool, nat_le}
use Rattle.cedar_language.specs.Tree.{Tree, Lit, Var, Slot, Unknown, If, And, Or, Apply}
use Rattle.cedar_language.specs.Height.{height}
use Rattle.cedar_shapes.specs.Parts.{parts, highest}
use Rattle.cedar_shapes.proofs.Steps.{heights_listed, parts_lower}

height_from : (t : Tree) → height t ≡ suc (highest (parts t))
height_from (Lit l) = omega arith
height_from (Var v) = omega arith
height_from (Slot s) = omega arith
height_from (Unknown n ty) = omega arith
height_from (If t y n) = omega arith
height_from (And l r) = omega arith
height_from (Or l r) = omega arith
height_from (Apply op ts) = ap suc (heights_listed ts)

-- a tree is low where its parts are lower
pub parts_decide : (t : Tree) (below : ℕ) → nat_le (highest (parts t)) below ≡ nat_le (height t) (suc below)
parts_decide t below = sym (ap (λ h. nat_le h (suc below)) (height_from t) ∙ leb-suc-suc (highest (parts t)) below)

-- no tree has no height
pub none_is_flat : (t : Tree) → false ≡ nat_le (height t) 0
none_is_flat t = sym (lt-leb (height t) 0 (omega (arith, parts_lower t)))

module _ (t : Tree) (ts : List Tree) (limit : ℕ) where
  -- one that is higher makes them higher, and another one doesn't count
  pub high_first : nat_le (height t) limit ≡ false → nat_le (highest (t ∷ ts)) limit ≡ false
  high_first h = lt-leb (highest (t ∷ ts)) limit (omega (arith, leb-false (height t) limit h))

  pub low_first : nat_le (height t) limit ≡ true → nat_le (highest (t ∷ ts)) limit ≡ nat_le (highest ts) limit
  low_first h = others (nat_le (highest ts) limit) refl where
    others : (b : Bool) → nat_le (highest ts) limit ≡ b → nat_le (highest (t ∷ ts)) limit ≡ nat_le (highest ts) limit
    others true e = le-leb (highest (t ∷ ts)) limit (omega (arith, leb-true (height t) limit h, leb-true (highest ts) limit e)) ∙ sym e
    others false e = lt-leb (highest (t ∷ ts)) limit (omega (arith, leb-false (highest ts) limit e)) ∙ sym e

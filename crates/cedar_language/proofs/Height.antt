-- Linking keeps heights.
use Rattle.std.proofs.Common.{◌≡◌, Option, Some, None, refl, suc, ap}
use Rattle.cedar_language.specs.Uid.{Uid}
use Rattle.cedar_language.specs.Tree.{SlotId, Tree, Lit, Var, Slot, Unknown, If, And, Or, Apply, Trees, no_trees, a_tree}
use Rattle.cedar_language.specs.Slots.{Slots, bound_slot, bound_tree, bound_trees}
use Rattle.cedar_language.specs.Height.{height, heights, LinkingKeepsHeight}

slot_height : (s : SlotId) (o : Option Uid) → height (bound_slot s o) ≡ 1
slot_height s (Some u) = refl
slot_height s None = refl

module _ (slots : Slots) where
  mutual
    same_height : (t : Tree) → height (bound_tree slots t) ≡ height t
    same_height (Lit l) = refl
    same_height (Var v) = refl
    same_height (Slot s) = slot_height s (slots s)
    same_height (Unknown n ty) = refl
    same_height (If t y n) = rw (same_height t, same_height y, same_height n) refl
    same_height (And l r) = rw (same_height l, same_height r) refl
    same_height (Or l r) = rw (same_height l, same_height r) refl
    same_height (Apply op ts) = ap (λ n. suc n) (same_heights ts)

    same_heights : (ts : Trees) → heights (bound_trees slots ts) ≡ heights ts
    same_heights no_trees = refl
    same_heights (a_tree t ts) = rw (same_height t, same_heights ts) refl

pub linking_keeps_height : LinkingKeepsHeight
linking_keeps_height slots t = same_height slots t

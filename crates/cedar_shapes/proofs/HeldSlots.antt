-- The slots at the positions of a tree are those that the tree holds.
use Rattle.std.proofs.Common.{◌≡◌, Bool, true, false, List, [], ◌∷◌, ◌++◌, None, refl, sym, ap, ◌∙◌, true≢false}
use Rattle.std.specs.Prelude.{◌||◌}
use Rattle.std.specs.List.{list_any}
use Rattle.std.proofs.lemmas.List.Elements.{filter_map-append}
use Rattle.std.proofs.lemmas.List.Folds.{list_any-append}
use Rattle.cedar_language.specs.Tree.{SlotId, Tree, Lit, Var, Slot, Unknown, If, And, Or, Apply, Trees, no_trees, a_tree}
use Rattle.cedar_language.specs.Slots.{tree_slots, trees_slots}
use Rattle.cedar_grammar.specs.Converting.{if_none, without_slots}
use Rattle.cedar_shapes.specs.Leaves.{slot_in, slots_among}
use Rattle.cedar_shapes.specs.Positions.{positions, all_positions}
use Rattle.cedar_lemmas.proofs.Booleans.{or_turned as turned}

all_turned : (a b c : Bool) → ((a || b) || c) ≡ (c || (b || a))
all_turned a b c = turned (a || b) c ∙ ap (λ d. c || d) (turned a b)

module _ (p : SlotId → Bool) where
  abbrev meets : List Tree → Bool
  meets ts = list_any p (slots_among ts)

  abbrev holds : List SlotId → Bool
  holds ss = list_any p ss

  both_meet : (xs ys : List Tree) → meets (xs ++ ys) ≡ (meets xs || meets ys)
  both_meet xs ys = ap (list_any p) (filter_map-append slot_in xs ys) ∙ list_any-append p (slots_among xs) (slots_among ys)

  mutual
    pub slots_met : (t : Tree) → list_any p (slots_among (positions t)) ≡ list_any p (tree_slots t)
    slots_met (Lit l) = refl
    slots_met (Var v) = refl
    slots_met (Slot s) = refl
    slots_met (Unknown n ty) = refl
    slots_met (If t y n) =
        both_meet (positions n ++ positions y) (positions t)
        ∙ ap (λ b. b || meets (positions t)) (both_meet (positions n) (positions y))
        ∙ (λ i. (slots_met n i || slots_met y i) || slots_met t i)
        ∙ all_turned (holds (tree_slots n)) (holds (tree_slots y)) (holds (tree_slots t))
        ∙ sym (list_any-append p (tree_slots t) (tree_slots y ++ tree_slots n) ∙ ap (λ b. holds (tree_slots t) || b) (list_any-append p (tree_slots y) (tree_slots n)))
    slots_met (And l r) =
        both_meet (positions r) (positions l) ∙ (λ i. slots_met r i || slots_met l i) ∙ turned (holds (tree_slots r)) (holds (tree_slots l)) ∙ sym (list_any-append p (tree_slots l) (tree_slots r))
    slots_met (Or l r) =
        both_meet (positions r) (positions l) ∙ (λ i. slots_met r i || slots_met l i) ∙ turned (holds (tree_slots r)) (holds (tree_slots l)) ∙ sym (list_any-append p (tree_slots l) (tree_slots r))
    slots_met (Apply op ts) = all_met ts

    all_met : (ts : Trees) → list_any p (slots_among (all_positions ts)) ≡ list_any p (trees_slots ts)
    all_met no_trees = refl
    all_met (a_tree t ts) =
        both_meet (all_positions ts) (positions t) ∙ (λ i. all_met ts i || slots_met t i) ∙ turned (holds (trees_slots ts)) (holds (tree_slots t)) ∙ sym (list_any-append p (tree_slots t) (trees_slots ts))

abbrev any_slot : SlotId → Bool
any_slot s = true

none_of : (ss : List SlotId) → list_any any_slot ss ≡ false → ss ≡ []
none_of [] e = refl
none_of (s ∷ ss) e = absurd (true≢false e)

-- where a walk meets none, the tree holds none
pub none_met : (t : Tree) → slots_among (positions t) ≡ [] → tree_slots t ≡ []
none_met t e = none_of (tree_slots t) (sym (slots_met any_slot t) ∙ ap (list_any any_slot) e)

-- where it meets one, the tree is none without slots
pub some_met : (t : Tree) (s : SlotId) (ss : List SlotId) → slots_among (positions t) ≡ s ∷ ss → without_slots t ≡ None
some_met t s ss e = by (tree_slots t) (sym (slots_met any_slot t) ∙ ap (list_any any_slot) e)
  where
    by : (held : List SlotId) → list_any any_slot held ≡ true → if_none held t ≡ None
    by [] h = absurd (true≢false (sym h))
    by (x ∷ xs) h = refl

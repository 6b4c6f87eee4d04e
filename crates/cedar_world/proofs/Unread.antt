-- A tree grows with its slots bound as without, and one that reads nothing doesn't grow.
use Rattle.std.proofs.Common.{◌≡◌, ◌≤◌, ◌<◌, inl, inr, ℕ, suc, Bool, cond, true, false, ◌&&◌, Option, Some, None, refl, ap, arith, codes}
use Rattle.std.proofs.Math.Nat.{max-le}
use Rattle.std.proofs.lemmas.Bool.{and_parts}
use Rattle.std.specs.FinMap as map
use Rattle.cedar_language.specs.Uid.{Text, Uid}
use Rattle.cedar_language.specs.Order.{text_cmp}
use Rattle.cedar_language.specs.Constructing.{is_the_constructor}
use Rattle.cedar_language.specs.Height.{height, heights}
use Rattle.cedar_language.specs.Slots.{Slots, bound_slot, bound_tree, bound_trees}
use Rattle.cedar_language.specs.Tree.{SlotId, Principal, Action, Resource, Context, GetTag, GetAttr, Call, Tree, Var, Slot, Unknown, If, And, Or, Apply, Trees, no_trees, a_tree}
use Rattle.cedar_language.specs.Value.{Value}
use Rattle.cedar_grammar.specs.Syntax.{condition}
use Rattle.cedar_world.specs.Asking.{Question, Told}
use Rattle.cedar_world.specs.Heights.{Heights, grown, all_grown, told_height, AreHeights, BoundTreesGrowAlike, AsksTooDeep, TellsTooDeep, reads_nothing, all_read_nothing, EachReadsNothing, TellsUids, UnreadIsNeverTooDeep}
use Rattle.cedar_world.specs.Question.{HasOpenContext}
use Rattle.cedar_world.specs.Setting.{Setting}
use Rattle.cedar_world.specs.World.{World}

-- ---- slots that are bound

slot_grows : (h : Heights) (s : SlotId) (o : Option Uid) → grown h (bound_slot s o) ≡ 1
slot_grows h s (Some u) = refl
slot_grows h s None = refl

mutual
  pub bound_grows : (h : Heights) (slots : Slots) (t : Tree) → grown h (bound_tree slots t) ≡ grown h t
  bound_grows h slots (Slot s) = slot_grows h s (slots s)
  bound_grows h slots (If a b c) = rw (bound_grows h slots a, bound_grows h slots b, bound_grows h slots c) refl
  bound_grows h slots (And a b) = rw (bound_grows h slots a, bound_grows h slots b) refl
  bound_grows h slots (Or a b) = rw (bound_grows h slots a, bound_grows h slots b) refl
  bound_grows h slots (Apply o ts) = rw (all_bound_grow h slots ts) refl
  bound_grows h slots _ = refl

  all_bound_grow : (h : Heights) (slots : Slots) (ts : Trees) → all_grown h (bound_trees slots ts) ≡ all_grown h ts
  all_bound_grow h slots no_trees = refl
  all_bound_grow h slots (a_tree t ts) = rw (bound_grows h slots t, all_bound_grow h slots ts) refl

pub bound_trees_grow_alike : BoundTreesGrowAlike
bound_trees_grow_alike h slots t = bound_grows h slots t

-- ---- trees that read nothing

module _ (h : Heights) (principal : h.named (codes "principal") ≤ 1) (action : h.named (codes "action") ≤ 1) (resource : h.named (codes "resource") ≤ 1) where
  called_low : (b : Bool) (n : ℕ) → b ≡ true → cond b 0 n ≤ 0
  called_low true n e = omega arith
  called_low false n e = cc

  mutual
    unread_low : (t : Tree) → reads_nothing t ≡ true → grown h t ≤ height t
    unread_low (Var Principal) r = principal
    unread_low (Var Action) r = action
    unread_low (Var Resource) r = resource
    unread_low (Var Context) r = cc
    unread_low (Unknown n ty) r = cc
    unread_low (If a b c) r =
        let (x, rest) = and_parts (reads_nothing a) (reads_nothing b && reads_nothing c) r in
        let (y, z) = and_parts (reads_nothing b) (reads_nothing c) rest in
        omega (arith, unread_low a x, unread_low b y, unread_low c z)
    unread_low (And a b) r = let (x, y) = and_parts (reads_nothing a) (reads_nothing b) r in omega (arith, unread_low a x, unread_low b y)
    unread_low (Or a b) r = let (x, y) = and_parts (reads_nothing a) (reads_nothing b) r in omega (arith, unread_low a x, unread_low b y)
    unread_low (Apply GetTag ts) r = cc
    unread_low (Apply (GetAttr a) ts) r = cc
    unread_low (Apply (Call f) ts) r =
        let (x, y) = and_parts (is_the_constructor f) (all_read_nothing ts) r in
        max-le (omega (arith, called_low (is_the_constructor f) h.answered x)) (omega (arith, all_unread_low ts y))
    unread_low (Apply op ts) r = omega (arith, all_unread_low ts r)
    unread_low _ r = omega arith

    all_unread_low : (ts : Trees) → all_read_nothing ts ≡ true → all_grown h ts ≤ heights ts
    all_unread_low no_trees r = omega arith
    all_unread_low (a_tree t ts) r = let (x, y) = and_parts (reads_nothing t) (all_read_nothing ts) r in omega (arith, unread_low t x, all_unread_low ts y)

-- ---- heights that there always are

-- what is beyond the limit bounds nothing
module _ (by : Setting) (world : World) (q : Question) (told : Told) where
  abbrev beyond : Heights
  beyond = record {
    held = λ a. suc by.depth;
    tagged = suc by.depth;
    answered = suc by.depth;
    named = λ n. told_height (map.get told n);
    context = suc by.depth;
  }

  there_are : AreHeights by world q told beyond
  there_are = record {
    attribute = λ u e a v at here low. absurd (omega arith);
    tag = λ u e a v at here low. absurd (omega arith);
    function = λ n f vs v is at here low. absurd (omega arith);
    value_told = λ n. omega arith;
    context = λ low. absurd (omega arith);
  }

  unread : TellsUids told → (t : Tree) → reads_nothing t ≡ true → grown beyond t ≤ height t
  unread uids t r = unread_low beyond (omega (arith, uids.0)) (omega (arith, uids.1)) (omega (arith, uids.2)) t r

nothing_told : (n : Text) → told_height (map.get {X = Value} {R = text_cmp} map.empty n) ≡ 1
nothing_told n = ap told_height (map.get-empty text_cmp n)

none_asks : (by : Setting) (world : World) (q : Question) → EachReadsNothing by.depth world → AsksTooDeep by world q → ⊥
none_asks by world q each deep =
    let (id, s, force, above) = deep.0 (beyond by world q map.empty) (there_are by world q map.empty) in
    let (r, low) = each id s force in
    let grows = unread by world q map.empty (nothing_told (codes "principal"), nothing_told (codes "action"), nothing_told (codes "resource")) (condition s) r in
    absurd (omega arith)

none_tells : (by : Setting) (world : World) (q : Question) (told : Told) (n : ℕ) → n < by.depth → EachReadsNothing n world → TellsUids told → (HasOpenContext q → ⊥)
    → TellsTooDeep by world q told → ⊥
none_tells by world q told n below each uids shut deep = elim (deep (beyond by world q told) (there_are by world q told)) [
  | inl (id, s, force, above) ↦
      let (r, low) = each id s force in
      let grows = unread by world q told uids (condition s) r in
      absurd (omega arith)
  | inr high ↦ shut high.0
]

pub unread_is_never_too_deep : UnreadIsNeverTooDeep
unread_is_never_too_deep = record { asks = none_asks; tells = none_tells }

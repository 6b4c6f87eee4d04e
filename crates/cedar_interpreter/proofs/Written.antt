-- Sets that are written as literals alone: what they mean, and what is asked of them.
use Rattle.std.proofs.Common.{◌≡◌, ◌∙◌, ◌≤◌, ◌+◌, ℕ, refl, sym, ap, Bool, true, false, ◌&&◌, ◌||◌, List, [], ◌∷◌, Option, Some, None, IfSome, not, arith, Ordering}
use Rattle.std.specs.Borrow.{Bor}
use Rattle.std.specs.List.{list_any}
use Rattle.std.specs.Option.{option_copied}
use Rattle.std.specs.declared.cmp.Ordering.TheVariants as ordering
use Rattle.cedar_language.specs.Uid.{Uid}
use Rattle.cedar_language.specs.Tree.{Entity, MakeSet, Trees, Lit, Apply, no_trees, a_tree}
use Rattle.cedar_language.specs.Value.{Value, Plain, SetOf, Values, no_values, a_value}
use Rattle.cedar_language.specs.Facts.{Facts}
use Rattle.cedar_language.specs.Operators.{truth, contains_of, of_two_sets, in_of, has_member, has_all, has_some, uids_in, is_within, within_members}
use Rattle.cedar_language.specs.Order.{value_cmp, same, placed, put, rising, set_of}
use Rattle.cedar_language.specs.OrderLaws.{value_cmp_same, same_is, is_same}
use Rattle.cedar_language.specs.Sets.{SetsAreFinite}
use Rattle.cedar_partial_evaluation.specs.Partial.{Evaluated, AllEvaluated, LeafAnswers, and_next}
use Rattle.cedar_partial_evaluation.proofs.Scopes.{entities, rising_uids}
use Rattle.cedar_entities.specs.Data.{EntityData}
use Rattle.cedar_entities.specs.declared.store.Entities.{Entities}
use Rattle.cedar_value_operators.specs.Operands.{two}
use Rattle.cedar_operators.specs.Hierarchy.{is_within_entity}
use Rattle.cedar_operators.specs.Store.{HasFacts, IsFound}
use Rattle.cedar_operators.proofs.ByStore.{within_is}
use Rattle.cedar_trees.specs.Shapes.{are_entities}
use Rattle.cedar_interpreter.specs.Glancing.{least_depths, Tells}
use Rattle.cedar_interpreter.specs.Holding.{held_by}
use Rattle.cedar_interpreter.specs.Naming.{construct_answer, all_naming_in}
use Rattle.cedar_interpreter.specs.Written.{are_literals, literals_in, entities_in}
use Rattle.cedar_interpreter.specs.declared.evaluator.Evaluator.{Evaluator}

-- ---- what is written

written : (naming : Bool) (facts : Facts) (holds : LeafAnswers) (ts : Trees) → are_literals ts ≡ true →
    all_naming_in naming facts holds ts ≡ AllEvaluated (literals_in ts)
written naming facts holds no_trees h = refl
written naming facts holds (a_tree (Lit l) ts) h = ap (and_next facts (Evaluated (Plain l))) (written naming facts holds ts h)
written naming facts holds (a_tree t ts) h = absurd (cc h)

low : (ts : Trees) → are_literals ts ≡ true → least_depths ts ≤ 1
low no_trees h = omega arith
low (a_tree (Lit l) ts) h = omega (arith, low ts h)
low (a_tree t ts) h = absurd (cc h)

-- the set of these literals, where the limit isn't met
pub set_tells : {F : Type 0} (ev : Evaluator F) (d : ℕ) (ts : Trees) → 1 ≤ d → are_literals ts ≡ true →
    Tells ev (d + 1) (Apply MakeSet ts) (set_of (literals_in ts))
set_tells ev d ts is h = record {
  value = λ naming facts slots has. ap (construct_answer naming facts (held_by ev slots) MakeSet) (written naming facts (held_by ev slots) ts h);
  within = omega (arith, low ts h, is);
}

-- ---- `containsAll` and `containsAny` look at members alone

and_twice : (x y : Bool) → (x && y) ≡ (x && (x && y))
and_twice true y = refl
and_twice false y = refl

and_swap : (x y z : Bool) → (x && (y && z)) ≡ (y && (x && z))
and_swap true y z = refl
and_swap false true z = refl
and_swap false false z = refl

module _ (s : Values) where
  placed_all : (o : Ordering) (w x : Value) (xs vs : Values) → value_cmp w x ≡ o → has_all s vs ≡ (has_member s w && has_all s xs) →
      has_all s (placed o w x xs vs) ≡ (has_member s w && (has_member s x && has_all s xs))
  placed_all ordering.Less w x xs vs e h = refl
  placed_all ordering.Equal w x xs vs e h =
      let is : w ≡ x = value_cmp_same w x e in
      rw is (and_twice (has_member s x) (has_all s xs))
  placed_all ordering.Greater w x xs vs e h = rw h (and_swap (has_member s x) (has_member s w) (has_all s xs))

  put_all : (w : Value) (vs : Values) → has_all s (put w vs) ≡ (has_member s w && has_all s vs)
  put_all w no_values = refl
  put_all w (a_value x xs) = placed_all (value_cmp w x) w x xs (put w xs) refl (put_all w xs)

  pub all_of_rising : (vs : Values) → has_all s (rising vs) ≡ has_all s vs
  all_of_rising no_values = refl
  all_of_rising (a_value w vs) = put_all w (rising vs) ∙ ap (λ b. has_member s w && b) (all_of_rising vs)

pub rising_has_all : SetsAreFinite → (vs ws : Values) → has_all (rising vs) ws ≡ has_all vs ws
rising_has_all law vs no_values = refl
rising_has_all law vs (a_value w ws) = rw (law.members vs w, rising_has_all law vs ws) refl

same_back : (v w : Value) (b : Bool) → same v w ≡ b → same w v ≡ b
same_back v w true h = is_same w v (sym (same_is v w h))
same_back v w false h = elim (same w v) as (λ b. same w v ≡ b → b ≡ false) [
  | true ↦ λ k. sym (is_same v w (sym (same_is w v k))) ∙ h
  | false ↦ λ k. refl
] refl

or_four : (a b c d : Bool) → ((a || b) || (c || d)) ≡ ((a || c) || (b || d))
or_four true b c d = refl
or_four false true true d = refl
or_four false true false d = refl
or_four false false c d = refl

none_has : (ws : Values) → has_some no_values ws ≡ false
none_has no_values = refl
none_has (a_value w ws) = none_has ws

first_or_more : (v : Value) (vs ws : Values) → has_some (a_value v vs) ws ≡ (has_member ws v || has_some vs ws)
first_or_more v vs no_values = refl
first_or_more v vs (a_value w ws) =
    ap (λ b. (same v w || has_member vs w) || b) (first_or_more v vs ws) ∙ or_four (same v w) (has_member vs w) (has_member ws v) (has_some vs ws)
    ∙ ap (λ b. (b || has_member ws v) || (has_member vs w || has_some vs ws)) (sym (same_back v w (same v w) refl))

pub some_swapped : (vs ws : Values) → has_some vs ws ≡ has_some ws vs
some_swapped no_values ws = none_has ws
some_swapped (a_value v vs) ws = first_or_more v vs ws ∙ ap (λ b. has_member ws v || b) (some_swapped vs ws)

rising_has_some : SetsAreFinite → (vs ws : Values) → has_some (rising vs) ws ≡ has_some vs ws
rising_has_some law vs no_values = refl
rising_has_some law vs (a_value w ws) = rw (law.members vs w, rising_has_some law vs ws) refl

-- in either place
pub some_of_rising : SetsAreFinite → (s vs : Values) → has_some s (rising vs) ≡ has_some s vs
some_of_rising law s vs = some_swapped s (rising vs) ∙ rising_has_some law vs s ∙ some_swapped vs s

pub rising_with_some : SetsAreFinite → (vs s : Values) → has_some (rising vs) s ≡ has_some s vs
rising_with_some law vs s = rising_has_some law vs s ∙ some_swapped vs s

-- ---- `in`

listed : (ts : Trees) → are_entities ts ≡ true → literals_in ts ≡ entities (entities_in ts)
listed no_trees h = refl
listed (a_tree (Lit (Entity u)) ts) h = ap (a_value (Plain (Entity u))) (listed ts h)
listed (a_tree t ts) h = absurd (cc h)

module _ (s : Entities) (facts : Facts) (has : HasFacts s facts) (a : Uid) (o : Option (Bor EntityData)) (is : IsFound s a o) where
  within_listed : (us : List Uid) → list_any (is_within facts a) us ≡ list_any (is_within_entity a (option_copied o)) us
  within_listed [] = refl
  within_listed (u ∷ us) = rw (← within_is s facts has a o is u, within_listed us) refl

  within_literals : (ts : Trees) → are_entities ts ≡ true →
      within_members facts a (uids_in (rising (literals_in ts))) ≡ truth (list_any (is_within_entity a (option_copied o)) (entities_in ts))
  within_literals ts h =
      let us = entities_in ts in
      let rises = rising_uids facts us in
      ap (λ vs. within_members facts a (uids_in (rising vs))) (listed ts h) ∙ ap (within_members facts a) rises.uids_are
      ∙ ap truth (rises.found a ∙ within_listed us)

  pub is_within_literals : (ts : Trees) (r : Option Bool) → are_entities ts ≡ true →
      IfSome r (λ b. list_any (is_within_entity a (option_copied o)) (entities_in ts) ≡ b) →
      IfSome r (λ b. within_members facts a (uids_in (rising (literals_in ts))) ≡ truth b)
  is_within_literals ts None h e = tt
  is_within_literals ts (Some b) h e = within_literals ts h ∙ ap truth e

-- ---- what operators give of sets that are written or held

module _ (law : SetsAreFinite) (s : Value) (vs : Values) where
  pub contains_written : (v : Value) (o : Option Bool) → s ≡ set_of vs → IfSome o (λ b. has_member vs v ≡ b) → IfSome o (λ b. contains_of (two s v) ≡ truth b)
  contains_written v None is h = tt
  contains_written v (Some b) is h = ap (λ x. contains_of (two x v)) is ∙ ap truth (law.members vs v ∙ h)

  pub each_written : (t : Value) (ws : Values) (o : Option Bool) → s ≡ set_of vs → t ≡ SetOf ws → IfSome o (λ b. has_all ws vs ≡ b) →
      IfSome o (λ b. of_two_sets has_all (two t s) ≡ truth b)
  each_written t ws None is also h = tt
  each_written t ws (Some b) is also h =
      ap (λ x. of_two_sets has_all (two t x)) is ∙ ap (λ x. of_two_sets has_all (two x (set_of vs))) also ∙ ap truth (all_of_rising ws vs ∙ h)

  pub one_written : (t : Value) (ws : Values) (o : Option Bool) → s ≡ set_of vs → t ≡ SetOf ws → IfSome o (λ b. has_some ws vs ≡ b) →
      IfSome o (λ b. of_two_sets has_some (two t s) ≡ truth b)
  one_written t ws None is also h = tt
  one_written t ws (Some b) is also h =
      ap (λ x. of_two_sets has_some (two t x)) is ∙ ap (λ x. of_two_sets has_some (two x (set_of vs))) also ∙ ap truth (some_of_rising law ws vs ∙ h)

  pub all_among_written : (ws : Values) (o : Option Bool) → s ≡ set_of vs → IfSome o (λ b. has_all vs ws ≡ b) →
      IfSome o (λ b. of_two_sets has_all (two s (SetOf ws)) ≡ truth b)
  all_among_written ws None is h = tt
  all_among_written ws (Some b) is h = ap (λ x. of_two_sets has_all (two x (SetOf ws))) is ∙ ap truth (rising_has_all law vs ws ∙ h)

  pub some_among_written : (ws : Values) (o : Option Bool) → s ≡ set_of vs → IfSome o (λ b. has_some ws vs ≡ b) →
      IfSome o (λ b. of_two_sets has_some (two s (SetOf ws)) ≡ truth b)
  some_among_written ws None is h = tt
  some_among_written ws (Some b) is h = ap (λ x. of_two_sets has_some (two x (SetOf ws))) is ∙ ap truth (rising_with_some law vs ws ∙ h)

pub contains_held : (s : Value) (vs : Values) (v : Value) (o : Option Bool) → s ≡ SetOf vs → IfSome o (λ b. has_member vs v ≡ b) →
    IfSome o (λ b. contains_of (two s v) ≡ truth b)
contains_held s vs v None is h = tt
contains_held s vs v (Some b) is h = ap (λ x. contains_of (two x v)) is ∙ ap truth h

-- the second set is held
pub with_held : (f : Values → Values → Bool) (s t : Value) (ws : Values) (o : Option Bool) → t ≡ SetOf ws →
    IfSome o (λ b. of_two_sets f (two s (SetOf ws)) ≡ truth b) → IfSome o (λ b. of_two_sets f (two s t) ≡ truth b)
with_held f s t ws None is h = tt
with_held f s t ws (Some b) is h = ap (λ x. of_two_sets f (two s x)) is ∙ h

-- both are
pub both_held : (f : Values → Values → Bool) (s : Value) (vs ws : Values) (b : Bool) → s ≡ SetOf vs → b ≡ f vs ws → of_two_sets f (two s (SetOf ws)) ≡ truth b
both_held f s vs ws b is h = ap (λ x. of_two_sets f (two x (SetOf ws))) is ∙ ap truth (sym h)

pub not_apart : (c b : Bool) → c ≡ not b → not c ≡ b
not_apart c true h = ap not h
not_apart c false h = ap not h

-- ---- what `in` gives of a set

pub in_written : (facts : Facts) (v w : Value) (a : Uid) (vs : Values) (o : Option Bool) → v ≡ Plain (Entity a) → w ≡ set_of vs →
    IfSome o (λ b. within_members facts a (uids_in (rising vs)) ≡ truth b) → IfSome o (λ b. in_of facts (two v w) ≡ truth b)
in_written facts v w a vs None is also h = tt
in_written facts v w a vs (Some b) is also h = ap (λ x. in_of facts (two x w)) is ∙ ap (λ x. in_of facts (two (Plain (Entity a)) x)) also ∙ h

pub in_entity : (facts : Facts) (v w : Value) (a c : Uid) (b : Bool) → v ≡ Plain (Entity a) → w ≡ Plain (Entity c) → is_within facts a c ≡ b →
    in_of facts (two v w) ≡ truth b
in_entity facts v w a c b is also h = ap (λ x. in_of facts (two x w)) is ∙ ap (λ x. in_of facts (two (Plain (Entity a)) x)) also ∙ ap truth h

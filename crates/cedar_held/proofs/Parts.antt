-- The trees of bodies are parts of the body's tree: what no part of it passes, none of them does.
use Rattle.std.proofs.Common.{◌≡◌, ◌∙◌, ◌≤◌, ℕ, refl, ap, sym, Bool, true, false, ◌||◌, ◌&&◌, not, cond, Option, Some, None, option_map, List, [], ◌∷◌, codes, suc, arith}
use Rattle.std.specs.Option.{unwrap_or}
use Rattle.std.proofs.lemmas.Bool.{ltb-false, le-ltb}
use Rattle.cedar_language.specs.Uid.{Text, Uid}
use Rattle.cedar_language.specs.Height.{height, heights}
use Rattle.cedar_language.specs.Restricted.{are_restricted}
use Rattle.cedar_language.specs.Tree.{MakeSet, MakeRecord, Tree, Apply, Trees, no_trees, a_tree}
use Rattle.cedar_grammar.specs.UnknownCalls.{holds_call, hold_call}
use Rattle.cedar_world.specs.Bodies.{Fields, EntityBody, zipped, found, and_then, each, read_with, are_among, required, optional, if_there, only_with, entity_of, uids_of, fields_of, entity_with}
use Rattle.cedar_world.specs.Orders.{text_eq}
use Rattle.cedar_world.specs.Values.{some_field, some_entry}
use Rattle.cedar_held.specs.Entities.{written_fields, written_body, written_bodies}
use Rattle.cedar_held.specs.Fields.{unrestricted, deeper}
use Rattle.cedar_held.specs.Making.{some_in}
use Rattle.cedar_held.proofs.Carrying.{or_left, or_right, or_false}
use Rattle.cedar_lemmas.proofs.Booleans.{and_first as and_left, and_second as and_right, not_is_false as not_false}

abbrev some_tree : (Tree → Bool) → Trees → Bool
some_tree test no_trees = false
some_tree test (a_tree t ts) = test t || some_tree test ts

module _ (test : Tree → Bool) where
  -- a list or a record passes where one of its parts does
  pub record Rises : Type 0 where
    pub lists : (ts : Trees) → test (Apply MakeSet ts) ≡ false → some_tree test ts ≡ false
    pub records : (ks : List Text) (ts : Trees) → test (Apply (MakeRecord ks) ts) ≡ false → some_tree test ts ≡ false

  module _ (rises : Rises) where
    zipped_fine : (ks : List Text) (ts : Trees) → some_tree test ts ≡ false → some_field test (zipped ks ts) ≡ false
    zipped_fine [] ts h = refl
    zipped_fine (k ∷ ks) no_trees h = refl
    zipped_fine (k ∷ ks) (a_tree t ts) h = or_false _ _ (or_left _ _ h) (zipped_fine ks ts (or_right _ _ h))

    some_inj : {A : Type 0} (x y : A) → Some x ≡ Some y → x ≡ y
    some_inj x y e = cc

    fields_fine : (t : Tree) (fs : Fields) → test t ≡ false → fields_of t ≡ Some fs → some_field test fs ≡ false
    fields_fine (Apply (MakeRecord ks) ts) fs h e = sym (ap (some_field test) (some_inj (zipped ks ts) fs e)) ∙ zipped_fine ks ts (rises.records ks ts h)
    fields_fine t fs h e = cc

    found_fine : (key : Text) (fs : Fields) (t : Tree) → some_field test fs ≡ false → found key fs ≡ Some t → test t ≡ false
    found_fine key [] t h e = cc
    found_fine key (f ∷ fs) t h e =
        elim (text_eq key f.0) as (λ b. cond b (Some f.1) (found key fs) ≡ Some t → test t ≡ false) [
          | true ↦ λ e. sym (ap test (some_inj f.1 t e)) ∙ or_left _ _ h
          | false ↦ λ e. found_fine key fs t (or_right _ _ h) e
        ] e

    -- the fields of a field that may be left out
    abbrev fine_fields : Option Fields → Type 0
    fine_fields gs = some_field test (unwrap_or gs []) ≡ false

    inner_fine : (t : Tree) (o : Option Fields) (gs : Option Fields) → test t ≡ false → fields_of t ≡ o → option_map (λ a. Some a) o ≡ Some gs → fine_fields gs
    inner_fine t None gs h is e = cc
    inner_fine t (Some fs) gs h is e = sym (ap fine_sum (some_inj (Some fs) gs e)) ∙ fields_fine t fs h is
      where
        fine_sum : Option Fields → Bool
        fine_sum o = some_field test (unwrap_or o [])

    given_fine : (o : Option Tree) (gs : Option Fields) → ((t : Tree) → o ≡ Some t → test t ≡ false) → if_there fields_of o ≡ Some gs → fine_fields gs
    given_fine None gs h e = sym (ap (λ (x : Option Fields). some_field test (unwrap_or x [])) (some_inj None gs e))
    given_fine (Some t) gs h e = inner_fine t (fields_of t) gs (h t refl) refl e

    optional_fine : (key : Text) (fs : Fields) (gs : Option Fields) → some_field test fs ≡ false → optional fields_of key fs ≡ Some gs → fine_fields gs
    optional_fine key fs gs h e = given_fine (found key fs) gs (λ t is. found_fine key fs t h is) e

    with_fine : (x : Option Uid) (y : Option (Option (List Uid))) (z w : Option (Option Fields)) (b : EntityBody)
        → ((gs : Option Fields) → z ≡ Some gs → fine_fields gs) → ((gs : Option Fields) → w ≡ Some gs → fine_fields gs)
        → entity_with x y z w ≡ Some b → some_in test b ≡ false
    with_fine (Some x) (Some y) (Some z) (Some w) b h k e = sym (ap (some_in test) (some_inj _ b e)) ∙ or_false _ _ (h z refl) (k w refl)
    with_fine None y z w b h k e = cc
    with_fine (Some x) None z w b h k e = cc
    with_fine (Some x) (Some y) None w b h k e = cc
    with_fine (Some x) (Some y) (Some z) None b h k e = cc

    written_fine : (fs : Fields) (b : EntityBody) → some_field test fs ≡ false → written_fields fs ≡ Some b → some_in test b ≡ false
    written_fine fs b h e =
        with_fine (required entity_of (codes "uid") fs) (optional uids_of (codes "parents") fs) (optional fields_of (codes "attrs") fs) (optional fields_of (codes "tags") fs) b
        (λ gs is. optional_fine (codes "attrs") fs gs h is) (λ gs is. optional_fine (codes "tags") fs gs h is) e

    abbrev keys_of : List Text
    keys_of = codes "uid" ∷ codes "parents" ∷ codes "attrs" ∷ codes "tags" ∷ []

    only_fine : (b : Bool) (fs : Fields) (w : EntityBody) → some_field test fs ≡ false → cond b (written_fields fs) None ≡ Some w → some_in test w ≡ false
    only_fine true fs w h e = written_fine fs w h e
    only_fine false fs w h e = cc

    then_fine : (t : Tree) (o : Option Fields) (w : EntityBody) → test t ≡ false → fields_of t ≡ o → and_then o (only_with keys_of written_fields) ≡ Some w → some_in test w ≡ false
    then_fine t None w h is e = cc
    then_fine t (Some fs) w h is e = only_fine (are_among keys_of fs) fs w (fields_fine t fs h is) e

    body_fine : (t : Tree) (w : EntityBody) → test t ≡ false → written_body t ≡ Some w → some_in test w ≡ false
    body_fine t w h e = then_fine t (fields_of t) w h refl e

    both_fine : (o : Option EntityBody) (os : Option (List EntityBody)) (ws : List EntityBody) → ((w : EntityBody) → o ≡ Some w → some_in test w ≡ false)
        → ((vs : List EntityBody) → os ≡ Some vs → some_entry test vs ≡ false) → read_with o os ≡ Some ws → some_entry test ws ≡ false
    both_fine None os ws h k e = cc
    both_fine (Some w) None ws h k e = cc
    both_fine (Some w) (Some vs) ws h k e = sym (ap (some_entry test) (some_inj (w ∷ vs) ws e)) ∙ or_false _ _ (h w refl) (k vs refl)

    each_fine : (ts : Trees) (ws : List EntityBody) → some_tree test ts ≡ false → each written_body ts ≡ Some ws → some_entry test ws ≡ false
    each_fine no_trees ws h e = sym (ap (some_entry test) (some_inj [] ws e))
    each_fine (a_tree t ts) ws h e = both_fine (written_body t) (each written_body ts) ws (λ w is. body_fine t w (or_left _ _ h) is) (λ vs is. each_fine ts vs (or_right _ _ h) is) e

    pub bodies_fine : (t : Tree) (ws : List EntityBody) → test t ≡ false → written_bodies t ≡ Some ws → some_entry test ws ≡ false
    bodies_fine (Apply MakeSet ts) ws h e = each_fine ts ws (rises.lists ts h) e
    bodies_fine t ws h e = cc

-- ---- the tests

all_restricted : (ts : Trees) → are_restricted ts ≡ true → some_tree unrestricted ts ≡ false
all_restricted no_trees h = refl
all_restricted (a_tree t ts) h = or_false _ _ (ap not (and_left _ _ h)) (all_restricted ts (and_right _ _ h))

pub restricted_rises : Rises unrestricted
restricted_rises = record { lists = λ ts h. all_restricted ts (not_false _ h); records = λ ks ts h. all_restricted ts (not_false _ h) }

no_call : (ts : Trees) → hold_call ts ≡ false → some_tree holds_call ts ≡ false
no_call no_trees h = refl
no_call (a_tree t ts) h = or_false _ _ (or_left _ _ h) (no_call ts (or_right _ _ h))

pub calls_rise : Rises holds_call
calls_rise = record { lists = no_call; records = λ ks ts h. no_call ts h }

none_higher : (depth : ℕ) (ts : Trees) → heights ts ≤ depth → some_tree (deeper depth) ts ≡ false
none_higher depth no_trees h = refl
none_higher depth (a_tree t ts) h = or_false _ _ (le-ltb depth (height t) (omega arith)) (none_higher depth ts (omega arith))

pub heights_rise : (depth : ℕ) → Rises (deeper depth)
heights_rise depth = record {
  lists = λ ts h. let below : suc (heights ts) ≤ depth = ltb-false depth (suc (heights ts)) h in none_higher depth ts (omega arith);
  records = λ ks ts h. let below : suc (heights ts) ≤ depth = ltb-false depth (suc (heights ts)) h in none_higher depth ts (omega arith);
}

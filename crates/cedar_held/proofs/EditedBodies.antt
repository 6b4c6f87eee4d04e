-- Edits that bodies list, from those of a store.
use Rattle.std.proofs.Common.{◌≡◌, ◌∙◌, ℕ, refl, sym, ap, subst, Some, None, option_map, Result, Ok, Err, OnErr, List}
use Rattle.std.specs.FinMap as finite
use Rattle.std.specs.FinSet as set
use Rattle.std.specs.Global.{Vec}
use Rattle.cedar_language.specs.Tree.{Tree}
use Rattle.cedar_language.specs.Uid.{Uid}
use Rattle.cedar_world.specs.Bodies.{uids_of}
use Rattle.cedar_world.specs.Orders.{UidSet, uid_cmp}
use Rattle.cedar_world.specs.World as world
use Rattle.cedar_world.specs.EntityEdits.{Version, Puts, Adds, Removes}
use Rattle.cedar_world.specs.Setting.{Setting}
use Rattle.cedar_entities.specs.Data.{EntityData}
use Rattle.cedar_entities.specs.Held.{held_of}
use Rattle.cedar_entities.specs.InPlace.{left_by}
use Rattle.cedar_entities.specs.Store.{found_in, held_at}
use Rattle.cedar_entities.specs.declared.store.Entities.{Entities}
use Rattle.cedar_held.specs.Shown.{as_held, as_entities, Shows}
use Rattle.cedar_held.specs.StoreWorlds.{IsTaken}
use Rattle.cedar_replies.specs.declared.refusal.Refusal.{Refusal}
use Rattle.cedar_replies.specs.declared.refusal.Refusal.TheVariants.{Shape, Evaluation, NotAValue, Duplicate, Cycle, Depth, Memory}
use Rattle.cedar_held.specs.Built.{HoldBuilt}
use Rattle.cedar_held.specs.Listing.{AreVersions, AreListed}
use Rattle.cedar_held.specs.EntityEdits.{ListsVersions, PutsBody, AddsBody, RemovesBody}
use Rattle.cedar_held.specs.HoldingEntities.{IsShown, ShowsBuilt, shown_is_one}
use Rattle.cedar_held.specs.Stores.{PutsVersions, AddsVersions, RemovesUids}

-- ---- what stores show

pub nothing_shown : (s : Entities) → ((uid : Uid) → found_in s uid ≡ None) → Shows (held_at s) finite.empty
nothing_shown s none uid = ap (option_map held_of) (none uid) ∙ ap (option_map as_held) (sym (finite.get-empty uid_cmp uid))

pub shows_as : (s : Entities) (is : IsShown s) (old : world.Entities) → is.entities ≡ old → Shows (held_at s) old
shows_as s is old same = subst (Shows (held_at s)) same is.shows

pub left_shown : (Takes : world.Entities → Type 0) (left : world.Entities) (s : Entities) → IsTaken Takes left s → IsShown s
left_shown Takes left s is = record { entities = left; shows = is.shows }

pub left_built : (Takes : world.Entities → Type 0) (left : world.Entities) (s : Entities) → IsTaken Takes left s → HoldBuilt left → ShowsBuilt s
left_built Takes left s is built new shows = subst HoldBuilt (shown_is_one (held_at s) left new is.shows shows) built

-- ---- a store that was edited, or left as it was

-- both hold the same
abbrev pub HoldSame : Entities → Entities → Type 0
HoldSame s t = (uid : Uid) → held_at t uid ≡ held_at s uid

still_shows : (s t : Entities) (old : world.Entities) → Shows (held_at s) old → HoldSame s t → Shows (held_at t) old
still_shows s t old shows same uid = same uid ∙ shows uid

module _ (Takes : world.Entities → Type 0) (left old : world.Entities) (s t : Entities) (Edited : Result Entities Refusal → Type 0) (on : Edited (Ok t) → IsTaken Takes left t) (shows : Shows (held_at s) old) where
  pub either_shown : (r : Result (Unit {0}) Refusal) → Edited (left_by r t) → OnErr r (HoldSame s t) → IsShown t
  either_shown (Ok done) h k = left_shown Takes left t (on h)
  either_shown (Err e) h k = record { entities = old; shows = still_shows s t old shows k }

  pub either_built : HoldBuilt old → HoldBuilt left → (r : Result (Unit {0}) Refusal) → Edited (left_by r t) → OnErr r (HoldSame s t) → ShowsBuilt t
  either_built was is (Ok done) h k = left_built Takes left t (on h) is
  either_built was is (Err e) h k = λ new new_shows. subst HoldBuilt (shown_is_one (held_at t) old new (still_shows s t old shows k) new_shows) was

-- what the store left shows is what is taken
taken : (Takes : world.Entities → Type 0) (left new : world.Entities) (s : Entities) → IsTaken Takes left s → Shows (held_at s) new → Takes new
taken Takes left new s is shows = subst Takes (shown_is_one (held_at s) left new is.shows shows) is.takes

-- ---- bodies

module _ (by : Setting) (depth : ℕ) (tree : Tree) (old : world.Entities) where
  pub put_unread : (r : Refusal) → AreListed by depth tree (Err r) → PutsBody by depth tree old (Err r) old
  put_unread Shape h = (h, refl)
  put_unread Evaluation h = (h, refl)
  put_unread NotAValue h = (h, refl)
  put_unread Depth h = (h, refl)
  put_unread Memory h = refl
  put_unread r h = absurd h

  pub add_unread : (r : Refusal) → AreListed by depth tree (Err r) → AddsBody by depth tree old (Err r) old
  add_unread Shape h = (h, refl)
  add_unread Evaluation h = (h, refl)
  add_unread NotAValue h = (h, refl)
  add_unread Depth h = (h, refl)
  add_unread Memory h = refl
  add_unread r h = absurd h

  module _ (es : Vec EntityData) (listed : AreListed by depth tree (Ok es)) where
    lists : (Holds : List Version → Type 0) → ((vs : List Version) → es.items ≡ as_entities vs → Holds vs) → ListsVersions by tree Holds
    lists Holds holds =
        let are : AreVersions by listed.0 es.items = listed.2 in
        (listed.0, listed.1, (record { fine = are.fine; known = are.known }, (are.given, are.are, holds are.given are.shown)))

    pub put_done : (s : Entities) (new : world.Entities) → Shows (held_at s) new → ((vs : List Version) → es.items ≡ as_entities vs → PutsVersions old vs (Ok s)) → PutsBody by depth tree old (Ok tt) new
    put_done s new shows is = lists (λ vs. Puts old vs new) (λ vs same. taken (Puts old vs) _ new s (is vs same) shows)

    pub put_refused : (r : Refusal) → ((vs : List Version) → es.items ≡ as_entities vs → PutsVersions old vs (Err r)) → PutsBody by depth tree old (Err r) old
    put_refused Cycle is = (lists _ is, refl)
    put_refused Memory is = refl
    put_refused r is = let none = lists (λ vs. ⊥) is in absurd none.2.1.2

    pub put_answered : (s t : Entities) → Shows (held_at s) old → (new : world.Entities) → Shows (held_at t) new → (r : Result (Unit {0}) Refusal) → ((vs : List Version) → es.items ≡ as_entities vs → PutsVersions old vs (left_by r t)) → OnErr r (HoldSame s t) → PutsBody by depth tree old r new
    put_answered s t shows new new_shows (Ok done) is k = put_done t new new_shows is
    put_answered s t shows new new_shows (Err e) is k = subst (PutsBody by depth tree old (Err e)) (shown_is_one (held_at t) old new (still_shows s t old shows k) new_shows) (put_refused e is)

    pub add_done : (s : Entities) (new : world.Entities) → Shows (held_at s) new → ((vs : List Version) → es.items ≡ as_entities vs → AddsVersions old vs (Ok s)) → AddsBody by depth tree old (Ok tt) new
    add_done s new shows is = lists (λ vs. Adds old vs new) (λ vs same. taken (Adds old vs) _ new s (is vs same) shows)

    pub add_refused : (r : Refusal) → ((vs : List Version) → es.items ≡ as_entities vs → AddsVersions old vs (Err r)) → AddsBody by depth tree old (Err r) old
    add_refused Duplicate is = (lists _ is, refl)
    add_refused Cycle is = (lists _ is, refl)
    add_refused Memory is = refl
    add_refused r is = let none = lists (λ vs. ⊥) is in absurd none.2.1.2

    pub add_answered : (s t : Entities) → Shows (held_at s) old → (new : world.Entities) → Shows (held_at t) new → (r : Result (Unit {0}) Refusal) → ((vs : List Version) → es.items ≡ as_entities vs → AddsVersions old vs (left_by r t)) → OnErr r (HoldSame s t) → AddsBody by depth tree old r new
    add_answered s t shows new new_shows (Ok done) is k = add_done t new new_shows is
    add_answered s t shows new new_shows (Err e) is k = subst (AddsBody by depth tree old (Err e)) (shown_is_one (held_at t) old new (still_shows s t old shows k) new_shows) (add_refused e is)

pub remove_done : (tree : Tree) (old : world.Entities) (uids : List Uid) → uids_of tree ≡ Some uids → (gone : UidSet) → gone ≡ set.from_list uids
    → (s : Entities) (new : world.Entities) → Shows (held_at s) new → RemovesUids old gone (Ok s) → RemovesBody tree old (Ok tt) new
remove_done tree old uids read gone same s new shows is = (uids, read, subst (λ x. Removes old x new) same (taken (Removes old gone) _ new s is shows))

pub remove_refused : (tree : Tree) (old : world.Entities) (gone : UidSet) (r : Refusal) → RemovesUids old gone (Err r) → RemovesBody tree old (Err r) old
remove_refused tree old gone Memory h = refl
remove_refused tree old gone r h = absurd h

pub remove_answered : (tree : Tree) (old : world.Entities) (uids : List Uid) → uids_of tree ≡ Some uids → (gone : UidSet) → gone ≡ set.from_list uids
    → (s t : Entities) → Shows (held_at s) old → (new : world.Entities) → Shows (held_at t) new → (r : Result (Unit {0}) Refusal) → RemovesUids old gone (left_by r t) → OnErr r (HoldSame s t) → RemovesBody tree old r new
remove_answered tree old uids read gone same s t shows new new_shows (Ok done) is k = remove_done tree old uids read gone same t new new_shows is
remove_answered tree old uids read gone same s t shows new new_shows (Err e) is k = subst (RemovesBody tree old (Err e)) (shown_is_one (held_at t) old new (still_shows s t old shows k) new_shows) (remove_refused tree old gone e is)

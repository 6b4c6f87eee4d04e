-- What edits of the entities leave at each uid, and that it is built where what was held and what is listed is.
use Rattle.std.proofs.Common.{◌≡◌, ◌∙◌, ◌⊎◌, inl, inr, refl, sym, subst, Bool, true, false, cond, Option, Some, None, option_map, List, [], ◌∷◌}
use Rattle.std.specs.FinMap as finite
use Rattle.std.specs.FinSet as set
use Rattle.cedar_language.specs.Uid.{Uid}
use Rattle.cedar_world.specs.Orders.{UidSet, uid_cmp, uid_eq}
use Rattle.cedar_world.specs.World as world
use Rattle.cedar_world.specs.EditLaws.{last_version, or_first}
use Rattle.cedar_world.specs.EntityEdits.{Version, IsListed, first, later, first_of, put, add, remove, without}
use Rattle.cedar_world.proofs.Edits.{edits, same_uid}
use Rattle.cedar_held.specs.Built.{IsBuiltData, IsBuiltVersion, AreBuiltVersions, HoldBuilt}

-- ---- what is left at a uid

-- the data of a listed version of this uid
abbrev pub IsOfListed : List Version → Uid → world.EntityData → Type 0
IsOfListed vs uid h = (v : Version) × IsListed v vs × (v.uid ≡ uid) × (v.held ≡ h)

some_inj : (h k : world.EntityData) → Some h ≡ Some k → h ≡ k
some_inj h k e = cc

module _ (uid : Uid) (h : world.EntityData) where
  or_listed : (v : Version) (vs : List Version) (o : Option world.EntityData) (b : Bool) → uid_eq uid v.uid ≡ b → cond b (Some v.held) o ≡ Some h → (o ≡ Some h) ⊎ IsOfListed (v ∷ vs) uid h
  or_listed v vs o true tie e = inr (v, first v vs, sym (same_uid uid v.uid tie), some_inj v.held h e)
  or_listed v vs o false tie e = inl e

  further : (v : Version) (vs : List Version) → IsOfListed vs uid h → IsOfListed (v ∷ vs) uid h
  further v vs l = (l.0, later v l.1, l.2, l.3)

  or_further : (v : Version) (vs : List Version) → (first_of vs uid ≡ Some h → IsOfListed vs uid h) → (first_of vs uid ≡ Some h) ⊎ IsOfListed (v ∷ vs) uid h → IsOfListed (v ∷ vs) uid h
  or_further v vs rest (inl below) = further v vs (rest below)
  or_further v vs rest (inr l) = l

  last_listed : (vs : List Version) (o : Option world.EntityData) → last_version vs uid o ≡ Some h → (o ≡ Some h) ⊎ IsOfListed vs uid h
  last_listed [] o e = inl e
  last_listed (v ∷ vs) o e = step (last_listed vs (cond (uid_eq uid v.uid) (Some v.held) o) e)
    where
      step : (cond (uid_eq uid v.uid) (Some v.held) o ≡ Some h) ⊎ IsOfListed vs uid h → (o ≡ Some h) ⊎ IsOfListed (v ∷ vs) uid h
      step (inl here) = or_listed v vs o (uid_eq uid v.uid) refl here
      step (inr l) = inr (further v vs l)

  first_listed : (vs : List Version) → first_of vs uid ≡ Some h → IsOfListed vs uid h
  first_listed [] e = cc
  first_listed (v ∷ vs) e = or_further v vs (first_listed vs) (or_listed v vs (first_of vs uid) (uid_eq uid v.uid) refl e)

  held_or_first : (o : Option world.EntityData) (vs : List Version) → or_first o (first_of vs uid) ≡ Some h → (o ≡ Some h) ⊎ IsOfListed vs uid h
  held_or_first (Some k) vs e = inl e
  held_or_first None vs e = inr (first_listed vs e)

  -- what it was held with, but for the parents that go
  abbrev IsCut : UidSet → Option world.EntityData → Type 0
  IsCut uids o = (k : world.EntityData) × (o ≡ Some k) × (without uids k ≡ h)

  cut_from : (uids : UidSet) (o : Option world.EntityData) → option_map (without uids) o ≡ Some h → IsCut uids o
  cut_from uids (Some k) e = (k, refl, some_inj (without uids k) h e)
  cut_from uids None e = cc

  stays : (uids : UidSet) (o : Option world.EntityData) (b : Bool) → cond b None (option_map (without uids) o) ≡ Some h → IsCut uids o
  stays uids o true e = cc
  stays uids o false e = cut_from uids o e

  -- put and add leave what was held, or a listed version; remove leaves what was held
  pub put_leaves : (old : world.Entities) (vs : List Version) → finite.get (put old vs) uid ≡ Some h → (finite.get old uid ≡ Some h) ⊎ IsOfListed vs uid h
  put_leaves old vs e = last_listed vs (finite.get old uid) (sym (edits.after_put old vs uid) ∙ e)

  pub add_leaves : (old : world.Entities) (vs : List Version) → finite.get (add old vs) uid ≡ Some h → (finite.get old uid ≡ Some h) ⊎ IsOfListed vs uid h
  add_leaves old vs e = held_or_first (finite.get old uid) vs (sym (edits.after_add old vs uid) ∙ e)

  pub remove_leaves : (old : world.Entities) (uids : UidSet) → finite.get (remove old uids) uid ≡ Some h → IsCut uids (finite.get old uid)
  remove_leaves old uids e = stays uids (finite.get old uid) (set.contains uids uid) (sym (edits.after_remove old uids uid) ∙ e)

-- ---- what is left is built

at_each : (entities : world.Entities) → ((u : Uid) (h : world.EntityData) → finite.get entities u ≡ Some h → IsBuiltData h) → HoldBuilt entities
at_each entities each = record { attribute = λ u h a v is. (each u h is).attribute a v; tag = λ u h a v is. (each u h is).tag a v }

at_one : (entities : world.Entities) → HoldBuilt entities → (u : Uid) (h : world.EntityData) → finite.get entities u ≡ Some h → IsBuiltData h
at_one entities built u h is = record { attribute = λ a v. built.attribute u h a v is; tag = λ a v. built.tag u h a v is }

listed_built : (vs : List Version) → AreBuiltVersions vs → (v : Version) → IsListed v vs → IsBuiltVersion v
listed_built [] k v l = elim l [ ]
listed_built (w ∷ ws) k v (first _ _) = k.0
listed_built (w ∷ ws) k v (later _ l) = listed_built ws k.1 v l

module _ (old : world.Entities) (built : HoldBuilt old) where
  module _ (vs : List Version) (are_built : AreBuiltVersions vs) where
    either_built : (u : Uid) (h : world.EntityData) → (finite.get old u ≡ Some h) ⊎ IsOfListed vs u h → IsBuiltData h
    either_built u h (inl is) = at_one old built u h is
    either_built u h (inr l) = subst IsBuiltData l.3 (listed_built vs are_built l.0 l.1)

    pub put_built : HoldBuilt (put old vs)
    put_built = at_each (put old vs) (λ u h is. either_built u h (put_leaves u h old vs is))

    pub add_built : HoldBuilt (add old vs)
    add_built = at_each (add old vs) (λ u h is. either_built u h (add_leaves u h old vs is))

  -- a removal takes parents alone from what stays
  cut_built : (uids : UidSet) (k : world.EntityData) → IsBuiltData k → IsBuiltData (without uids k)
  cut_built uids k is = record { attribute = is.attribute; tag = is.tag }

  pub remove_built : (uids : UidSet) → HoldBuilt (remove old uids)
  remove_built uids = at_each (remove old uids) (λ u h is.
      let left = remove_leaves u h old uids is in
      subst IsBuiltData left.2 (cut_built uids left.0 (at_one old built u left.0 left.1)))

none_held : (u : Uid) (h : world.EntityData) → finite.get (finite.empty {R = uid_cmp}) u ≡ Some h → IsBuiltData h
none_held u h is = let none = sym (finite.get-empty uid_cmp u) ∙ is in absurd (never h none)
  where
    never : (k : world.EntityData) → None ≡ Some k → ⊥
    never k e = cc

pub nothing_built : HoldBuilt finite.empty
nothing_built = at_each finite.empty none_held

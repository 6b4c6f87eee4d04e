-- Which versions may be added.
use Rattle.std.proofs.Common.{◌≡◌, ◌↔◌, inl, inr, Option, None, Some, Result, Ok, Err, List, [], ◌∷◌, option_map, refl, sym, ap, subst, ◌∙◌, MatchOption}
use Rattle.std.specs.FinMap as finite
use Rattle.std.specs.List.{AllByRecursion}
use Rattle.cedar_language.specs.Uid.{Uid}
use Rattle.cedar_world.specs.World as world
use Rattle.cedar_world.specs.EntityEdits as world_edits
use Rattle.cedar_world.specs.EntityEdits.{Version, first, later}
use Rattle.cedar_world.specs.EditLaws.{EditsAtUids}
use Rattle.cedar_entities.specs.Data.{EntityData}
use Rattle.cedar_entities.specs.Held.{Held, held_of}
use Rattle.cedar_entities.specs.Edits.{first_by, add, IsListed, IsAsHeld, FitsIn, IsMisfit}
use Rattle.cedar_entities.specs.Store.{held_at, Adds}
use Rattle.cedar_entities.specs.declared.errors.EntitiesError.{EntitiesError}
use Rattle.cedar_entities.specs.declared.errors.EntitiesError.TheVariants.{Duplicate, TransitiveClosureError, Memory}
use Rattle.cedar_entities.specs.declared.store.Entities.{Entities}
use Rattle.cedar_held.specs.Shown.{as_attributes, as_held, as_entity, as_entities, Shows}
use Rattle.cedar_held.specs.StoreWorlds as law
use Rattle.cedar_held.specs.ShownApart.{attributes_inj, shown_inj}
use Rattle.cedar_held.proofs.Shown.{to_world, to_store}
use Rattle.cedar_held.proofs.EditedWorlds.{first_shown, add_shown, cyclic, acyclic}

module _ (held : Uid → Option Held) (old : world.Entities) (shows : Shows held old) (vs : List Version) where
  new_fits : (v : Version) → (first_by held_of (as_entities vs) v.uid ≡ Some (as_held v.held)) ↔ (world_edits.first_of vs v.uid ≡ Some v.held)
  new_fits v = (
    λ h. shown_inj (world_edits.first_of vs v.uid) (Some v.held) (sym (first_shown vs v.uid) ∙ h),
    λ h. first_shown vs v.uid ∙ ap (option_map as_held) h,
  )

  held_fits : (v : Version) (h : world.EntityData) → IsAsHeld held (as_held h) (as_entity v) ↔ world_edits.IsAsHeld old h v
  held_fits v h = (
    λ k. record {
      attributes = attributes_inj v.held.attributes h.attributes k.attributes;
      tags = attributes_inj v.held.tags h.tags k.tags;
      parents = λ b. (λ p. to_world held old shows v.uid b ((k.parents b).0 p), λ r. (k.parents b).1 (to_store held old shows v.uid b r));
    },
    λ k. record {
      attributes = ap as_attributes k.attributes;
      tags = ap as_attributes k.tags;
      parents = λ b. (λ p. to_store held old shows v.uid b ((k.parents b).0 p), λ r. (k.parents b).1 (to_world held old shows v.uid b r));
    },
  )

  fits_at : (v : Version) (o : Option world.EntityData)
      → MatchOption (option_map as_held o) (first_by held_of (as_entities vs) v.uid ≡ Some (as_held v.held)) (λ h. IsAsHeld held h (as_entity v))
      ↔ MatchOption o (world_edits.first_of vs v.uid ≡ Some v.held) (λ h. world_edits.IsAsHeld old h v)
  fits_at v None = new_fits v
  fits_at v (Some h) = held_fits v h

  -- what may be added to the store is what the world takes
  fits : (v : Version) → FitsIn held (as_entities vs) (as_entity v) ↔ world_edits.FitsIn old vs v
  fits v =
      let Fits : Option Held → Type 0 = λ o. MatchOption o (first_by held_of (as_entities vs) v.uid ≡ Some (as_held v.held)) (λ h. IsAsHeld held h (as_entity v)) in
      let at = fits_at v (finite.get old v.uid) in
      (λ h. at.0 (subst Fits (shows v.uid) h), λ h. subst Fits (sym (shows v.uid)) (at.1 h))

  all_fit : (ws : List Version) → AllByRecursion (FitsIn held (as_entities vs)) (as_entities ws) → (v : Version) → world_edits.IsListed v ws → world_edits.FitsIn old vs v
  all_fit [] h v l = elim l [ ]
  all_fit (w ∷ ws) h v (first _ _) = (fits v).0 h.0
  all_fit (w ∷ ws) h v (later _ l) = all_fit ws h.1 v l

  -- a listed entity is one of the versions
  pub listed : (ws : List Version) (e : EntityData) → IsListed (as_entities ws) e → (v : Version) × world_edits.IsListed v ws × (e ≡ as_entity v)
  listed [] e h = absurd h
  listed (w ∷ ws) e (inl h) = (w, first w ws, h)
  listed (w ∷ ws) e (inr h) = let l = listed ws e h in (l.0, later w l.1, l.2)

  misfit : (uid : Uid) → IsMisfit held (as_entities vs) uid → law.IsMisfit old vs uid
  misfit uid m =
      let l = listed vs m.0 m.1 in
      (l.0, l.1, ap (λ (e : EntityData). e.uid) (sym l.2) ∙ m.2, λ f. m.3 (subst (FitsIn held (as_entities vs)) (sym l.2) ((fits l.0).1 f)))

  pub adds : EditsAtUids → (r : Result Entities EntitiesError) → Adds held (as_entities vs) r → law.IsAdded old vs r
  adds at_uids (Ok s) h =
      let left = world_edits.add old vs in
      let shown : Shows (held_at s) left = λ uid. h.1 uid ∙ add_shown at_uids held old shows vs uid in
      record { shows = shown; takes = (all_fit vs h.0, refl, acyclic s left h.2 shown) }
  adds at_uids (Err (Duplicate e)) h = misfit e.euid h
  adds at_uids (Err (TransitiveClosureError e)) h =
      (all_fit vs h.0, cyclic (add held (as_entities vs)) (world_edits.add old vs) (add_shown at_uids held old shows vs) e h.1)
  adds at_uids (Err (Memory e)) h = h

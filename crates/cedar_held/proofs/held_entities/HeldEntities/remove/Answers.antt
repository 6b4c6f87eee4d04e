-- The uids that the body lists, as a set, go from the store as from the world; what stays was built.
use Rattle.std.proofs.Common.{◌∙◌, rules, sym, ap}
use Rattle.std.specs.FinSet as set
use Rattle.cedar_restricted.specs.Views.{borrowed_tree}
use Rattle.cedar_world.specs.Bodies.{uids_of}
use Rattle.cedar_world.specs.EntityEdits as world
use Rattle.cedar_held.specs.Making.{set_listed}
use Rattle.cedar_held.specs.Stores.{RemovesUids}
use Rattle.cedar_held.proofs.EditedBodies.{shows_as, either_shown, either_built, remove_answered}
use Rattle.cedar_held.proofs.BuiltEdits.{remove_built}
use Rattle.cedar_held.proofs.held_entities.HeldEntities.remove.Goals as goal

pub invariant_of-self-inside : goal.invariant_of-self-inside
invariant_of-self-inside c =
    let old = c.args.self.now in
    let gone = set.from_list c.in_ok-uids-2.uids.keys in
    let shows = shows_as c.self.inside.store c.self.inside.shown old c.self.view_is in (
      either_shown (world.Removes old gone) (world.remove old gone) old c.self.inside.store c.remove_from.new.store (RemovesUids old gone) (λ h. h) shows
          c.remove_from.result (c.remove_from.ensures.edited old shows) c.remove_from.ensures.left,
      tt,
    )

pub invariant_of-self : goal.invariant_of-self
invariant_of-self c =
    let old = c.args.self.now in
    let gone = set.from_list c.in_ok-uids-2.uids.keys in
    let shows = shows_as c.self.inside.store c.self.inside.shown old c.self.view_is in
    let was = c.self.invariant.built old shows in
    record {
      whole = c.remove_from.ensures.whole;
      built = either_built (world.Removes old gone) (world.remove old gone) old c.self.inside.store c.remove_from.new.store (RemovesUids old gone) (λ h. h) shows was (remove_built old was gone)
          c.remove_from.result (c.remove_from.ensures.edited old shows) c.remove_from.ensures.left;
    }

pub returns : goal.returns
returns c =
    let old = c.args.self.now in
    let shows = shows_as c.self.inside.store c.self.inside.shown old c.self.view_is in
    let listed = rw c.in-Some.is at c.in_ok-uids.ensures in
    remove_answered (borrowed_tree c.args.body) old c.in-Some.uids.items (ap uids_of (sym c.as_expr.ensures.tree) ∙ sym listed) (set.from_list c.in_ok-uids-2.uids.keys)
    (c.in_ok-uids-2.ensures ∙ ap set_listed c.deref.ensures.value) c.self.inside.store c.remove_from.new.store shows _ (search rules)
    c.remove_from.result (c.remove_from.ensures.edited old shows) c.remove_from.ensures.left

-- As `put` does, by the world's addition, which may also be refused for a duplicate.
use Rattle.std.proofs.Common.{rules}
use Rattle.std.proofs.lemmas.Result.{err_from_is_err_and}
use Rattle.cedar_restricted.specs.Views.{borrowed_tree}
use Rattle.cedar_world.specs.EntityEdits.{Adds, add}
use Rattle.cedar_held.specs.Stores.{AddsVersions}
use Rattle.cedar_held.proofs.EditedBodies.{shows_as, either_shown, either_built, add_unread, add_answered}
use Rattle.cedar_held.proofs.BuiltEdits.{add_built}
use Rattle.cedar_held.proofs.held_entities.HeldEntities.add.Goals as goal

pub returns-in_err-versions : goal.returns-in_err-versions
returns-in_err-versions g c =
    let p = err_from_is_err_and c.from_residual.result c.from_residual.ensures.1 in
    rw (p.1, p.2) (λ by serves. add_unread by c.args.depth (borrowed_tree c.args.body) c.args.self.now c.in_err-versions.field-0.0 (c.in_err-versions.ensures.listed by serves))

pub invariant_of-self-inside : goal.invariant_of-self-inside
invariant_of-self-inside g c =
    let old = c.args.self.now in
    let versions = c.in_ok-versions.ensures.versions in
    let shows = shows_as c.self.inside.store c.self.inside.shown old c.self.view_is in (
      either_shown (Adds old versions.0) (add old versions.0) old c.self.inside.store c.add_to.new.store (AddsVersions old versions.0) (λ h. h) shows
          c.add_to.result (c.add_to.ensures.edited old versions.0 shows versions.1) c.add_to.ensures.left,
      tt,
    )

pub invariant_of-self : goal.invariant_of-self
invariant_of-self g c =
    let old = c.args.self.now in
    let versions = c.in_ok-versions.ensures.versions in
    let shows = shows_as c.self.inside.store c.self.inside.shown old c.self.view_is in
    let was = c.self.invariant.built old shows in
    record {
      whole = c.add_to.ensures.whole;
      built = either_built (Adds old versions.0) (add old versions.0) old c.self.inside.store c.add_to.new.store (AddsVersions old versions.0) (λ h. h) shows was (add_built old was versions.0 versions.2)
          c.add_to.result (c.add_to.ensures.edited old versions.0 shows versions.1) c.add_to.ensures.left;
    }

pub returns : goal.returns
returns g c =
    let old = c.args.self.now in
    let shows = shows_as c.self.inside.store c.self.inside.shown old c.self.view_is in
    λ by serves.
    add_answered by c.args.depth (borrowed_tree c.args.body) old c.in_ok-versions.versions (c.in_ok-versions.ensures.listed by serves) c.self.inside.store c.add_to.new.store shows _ (search rules)
    c.add_to.result (λ vs same. c.add_to.ensures.edited old vs shows same) c.add_to.ensures.left

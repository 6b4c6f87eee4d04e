-- What errs, is open or is made of all bodies is that of the bodies so far, joined with that of the rest.
use Rattle.std.proofs.Common.{◌≡◌, ◌+◌, ◌++◌, [], ◌∷◌, ap, map, drop, rules}
use Rattle.std.proofs.lemmas.List.{drop_all}
use Rattle.std.proofs.lemmas.Result.{err_from_is_err_and}
use Rattle.cedar_extensions.specs.Table.{as_table}
use Rattle.cedar_held.specs.Entities.{written_of}
use Rattle.cedar_held.proofs.Listed.{left_at, stops, goes_on, waits_on, settled, all_made, some_wait}
use Rattle.cedar_held.proofs.listing.entities_of.Goals as goal
use Rattle.cedar_held.proofs.listing.entities_of.Goals.{in-None, in-Some+in_ok-push-in-Some}

pub returns-in_err-entity_of : goal.returns-in_err-entity_of
returns-in_err-entity_of g c =
    let p = err_from_is_err_and c.from_residual.result c.from_residual.ensures.1 in
    rw (p.1, p.2) (stops (as_table g.F.ExtensionFunctionObject.answers c.args.extensions.now) (map written_of c.args.bodies.now) (map written_of (drop c.loop-body.body-index c.args.bodies.now)) (map written_of (drop (c.loop-body.body-index + 1) c.args.bodies.now)) c.loop-body.entities.items c.loop-body.holds_unknown (written_of c.body-item.result) c.loop-body.invariant (left_at c.args.bodies.now c.loop-body.body-index c.body-item.result c.loop-body-test.true c.body-item.is) c.args.depth c.in_err-entity_of.field-0.0 c.in_err-entity_of.ensures)

pub loop-body-preserved : goal.loop-body-preserved
loop-body-preserved g c =
    elim c.match-branch-2.branch [
      | in-None w ↦
          let none = rw w.in-None.is at c.in_ok-entity_of.ensures in
          rw (w.entities-is, w.holds_unknown-is) (waits_on (as_table g.F.ExtensionFunctionObject.answers c.args.extensions.now) (map written_of c.args.bodies.now) (map written_of (drop c.loop-body.body-index c.args.bodies.now)) (map written_of (drop (c.loop-body.body-index + 1) c.args.bodies.now)) c.loop-body.entities.items c.loop-body.holds_unknown (written_of c.body-item.result) c.loop-body.invariant (left_at c.args.bodies.now c.loop-body.body-index c.body-item.result c.loop-body-test.true c.body-item.is) c.args.depth none)
      | in-Some+in_ok-push-in-Some w ↦
          let made = rw w.in-Some.is at c.in_ok-entity_of.ensures in
          let pushed : w.push.new.self.items ≡ c.loop-body.entities.items ++ w.in-Some.entity ∷ [] = search rules in
          rw (w.entities-is, w.holds_unknown-is) (goes_on (as_table g.F.ExtensionFunctionObject.answers c.args.extensions.now) (map written_of c.args.bodies.now) (map written_of (drop c.loop-body.body-index c.args.bodies.now)) (map written_of (drop (c.loop-body.body-index + 1) c.args.bodies.now)) c.loop-body.entities.items c.loop-body.holds_unknown (written_of c.body-item.result) c.loop-body.invariant (left_at c.args.bodies.now c.loop-body.body-index c.body-item.result c.loop-body-test.true c.body-item.is) c.args.depth w.in-Some.entity w.push.new.self.items made pushed)
    ]

pub returns-then-holds_unknown : goal.returns-then-holds_unknown
returns-then-holds_unknown g c = some_wait (as_table g.F.ExtensionFunctionObject.answers c.args.extensions.now) c.args.depth (map written_of c.args.bodies.now) (map written_of (drop c.loop-body.body-index c.args.bodies.now)) c.loop-body.entities.items (settled (as_table g.F.ExtensionFunctionObject.answers c.args.extensions.now) (map written_of c.args.bodies.now) (map written_of (drop c.loop-body.body-index c.args.bodies.now)) c.loop-body.entities.items c.loop-body.holds_unknown _ c.if-holds_unknown.true c.loop-body.invariant) (ap (map written_of) (drop_all c.loop-body.body-index c.args.bodies.now c.loop-body-test.false))

pub returns-else-holds_unknown : goal.returns-else-holds_unknown
returns-else-holds_unknown g c = all_made (as_table g.F.ExtensionFunctionObject.answers c.args.extensions.now) c.args.depth (map written_of c.args.bodies.now) (map written_of (drop c.loop-body.body-index c.args.bodies.now)) c.loop-body.entities (settled (as_table g.F.ExtensionFunctionObject.answers c.args.extensions.now) (map written_of c.args.bodies.now) (map written_of (drop c.loop-body.body-index c.args.bodies.now)) c.loop-body.entities.items c.loop-body.holds_unknown _ c.if-holds_unknown.false c.loop-body.invariant) (ap (map written_of) (drop_all c.loop-body.body-index c.args.bodies.now c.loop-body-test.false))

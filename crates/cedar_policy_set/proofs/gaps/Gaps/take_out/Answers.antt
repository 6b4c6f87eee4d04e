-- A place that stands at a position is taken out: the others rise, are taken out once, and close up (Closing).
use Rattle.std.proofs.Common.{◌∙◌, ap}
use Rattle.std.specs.List.Sorted.{IsNonDecreasing}
use Rattle.cedar_policy_set.specs.ClosedPlaces.{AreTakenOnce, position_of}
use Rattle.cedar_policy_set.proofs.Closing.{StandsAt, once_more, closes, still_rising, after_insert}
use Rattle.cedar_policy_set.proofs.gaps.Gaps.take_out.Goals as goal

pub invariant_of-self : goal.invariant_of-self
invariant_of-self c =
    let gs = c.args.self.now.taken.items in
    let g = c.place-place.result in
    let i = c.before-before.result in
    let self = c.args.self.now in
    after_insert (λ xs. record { rising : IsNonDecreasing xs; once : AreTakenOnce xs }) c.insert.result gs c.insert.new.self.items i g c.insert.ensures.items
    (record { rising = self.rising; once = self.once })
    (record {
      rising = still_rising gs g i self.rising c.before-before.ensures;
      once = once_more gs self.once g c.args.position (record { here = c.place-place.ensures.here; next = c.place-place.ensures.next }) i;
    })

pub returns-clause-closed : goal.returns-clause-closed
returns-clause-closed c = λ t.
    let gs = c.args.self.now.taken.items in
    let stands : StandsAt gs c.place-place.result c.args.position = record { here = c.place-place.ensures.here; next = c.place-place.ensures.next } in
    ap (λ xs. position_of xs t) c.in_ok-insert.ensures.items ∙ closes gs c.args.self.now.once c.place-place.result c.args.position stands c.before-before.result t

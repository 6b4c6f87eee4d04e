-- Items are put at the keys in their order, and there are as many items as keys.
use Rattle.std.proofs.Common.{◌≡◌, ◌∷◌, ap, length, arith, rules}
use Rattle.cedar_restricted.proofs.Rising.{put_next, texts_next}
use Rattle.cedar_restricted_evaluation.proofs.Keying.{items_next}
use Rattle.cedar_restricted_evaluation.proofs.records.keyed.Goals as goal

pub loop-key-preserved-in_ok-insert : goal.loop-key-preserved-in_ok-insert
loop-key-preserved-in_ok-insert g c =
    let cut : c.loop-key.left.rest.items ≡ c.in-Some-next.item ∷ c.next-in-loop-key.new.self.rest.items = search rules in
    let put = put_next c.loop-key.made.entries c.insert.new.self.entries c.loop-key.key-iterator c.next.new.self c.args.entries.now.entries c.in_ok-clone.field-0 c.in-Some.key.now c.in-Some-next.item c.in-Some._entry.now c.in_ok-insert.ensures.entries c.in_ok-clone.ensures.cases c.loop-key.invariant.2 c.in-Some.ensures.steps c.into_iter-key-iterator.ensures.into_iter_gives.5 in (
      tt,
      tt,
      texts_next c.loop-key.made.entries c.insert.new.self.entries c.loop-key.key-iterator c.next.new.self c.args.entries.now.entries c.in_ok-clone.field-0 c.in-Some.key.now c.in-Some-next.item c.in-Some._entry.now put c.in_ok-clone.ensures.cases c.loop-key.invariant.2 c.in-Some.ensures.steps,
      items_next c.loop-key.made.entries c.insert.new.self.entries c.loop-key.left.rest.items c.next-in-loop-key.new.self.rest.items c.args.items.items c.in_ok-clone.field-0 c.in-Some-next.item put c.loop-key.invariant.3 cut,
      omega (arith, c.loop-key.invariant.4, ap length cut, ap length c.in-Some.ensures.steps),
    )

pub loop-key-preserved-in_ok-insert-2 : goal.loop-key-preserved-in_ok-insert-2
loop-key-preserved-in_ok-insert-2 g c =
    let cut : c.loop-key.left.rest.items ≡ c.in-Some-next.item ∷ c.next-in-loop-key.new.self.rest.items = search rules in
    let put = put_next c.loop-key.made.entries c.insert.new.self.entries c.loop-key.key-iterator c.next.new.self c.args.entries.now.entries c.in_ok-clone.field-0 c.in-Some.key.now c.in-Some-next.item c.in-Some._entry.now c.in_ok-insert.ensures.entries c.in_ok-clone.ensures.cases c.loop-key.invariant.2 c.in-Some.ensures.steps c.into_iter-key-iterator.ensures.into_iter_gives.5 in (
      tt,
      tt,
      texts_next c.loop-key.made.entries c.insert.new.self.entries c.loop-key.key-iterator c.next.new.self c.args.entries.now.entries c.in_ok-clone.field-0 c.in-Some.key.now c.in-Some-next.item c.in-Some._entry.now put c.in_ok-clone.ensures.cases c.loop-key.invariant.2 c.in-Some.ensures.steps,
      items_next c.loop-key.made.entries c.insert.new.self.entries c.loop-key.left.rest.items c.next-in-loop-key.new.self.rest.items c.args.items.items c.in_ok-clone.field-0 c.in-Some-next.item put c.loop-key.invariant.3 cut,
      omega (arith, c.loop-key.invariant.4, ap length cut, ap length c.in-Some.ensures.steps),
    )

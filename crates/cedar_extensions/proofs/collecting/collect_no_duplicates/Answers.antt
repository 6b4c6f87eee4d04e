-- The map has just the pairs that were put, whose keys differ; so a key that it holds stands before, too.
use Rattle.std.proofs.Common.{true, false, ◌++◌, ap, sym, ◌∙◌}
use Rattle.std.specs.Map.{keys_of}
use Rattle.std.specs.Vec.Iter.{into_iter_items}
use Rattle.cedar_extensions.proofs.Gathered.{gathered_more, held_before, keys_split, taken_front}
use Rattle.cedar_extensions.proofs.collecting.collect_no_duplicates.Goals as goal

pub returns-then-contains_key : goal.returns-then-contains_key
returns-then-contains_key g c = record {
  before = keys_of c.loop-key.yielded;
  after = keys_of (into_iter_items c.next.new.self);
  whole =
      ap keys_of (sym c.into_iter-key-iterator.ensures.into_iter_gives.0
      ∙ (taken_front c.into_iter-key-iterator.result c.loop-key.yielded c.loop-key.key-iterator c.loop-key.yielded_by
      ∙ ap (λ es. c.loop-key.yielded ++ es) c.in-Some.ensures.steps.0))
      ∙ keys_split c.loop-key.yielded _;
  distinct = c.loop-key.invariant.distinct;
  repeated = held_before c.loop-key.yielded c.loop-key.map c.in-Some.key true c.loop-key.invariant (sym c.if-contains_key.true ∙ c.contains_key.ensures);
}

pub loop-key-preserved : goal.loop-key-preserved
loop-key-preserved g c =
    gathered_more g.met.K.Eq.laws c.loop-key.yielded c.in-Some.key c.in-Some.value c.loop-key.map c.insert.new.self c.loop-key.invariant
    (held_before c.loop-key.yielded c.loop-key.map c.in-Some.key false c.loop-key.invariant (sym c.if-contains_key.false ∙ c.contains_key.ensures))
    c.in_ok-insert.ensures.updates.0

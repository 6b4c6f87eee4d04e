-- The next id isn't among those before it.
use Rattle.std.proofs.Common.{◌≡◌, ◌++◌, sym, ◌∙◌, ap, rules}
use Rattle.std.specs.Map.{keys_of}
use Rattle.std.specs.Slice.Iter.{iter_rest}
use Rattle.cedar_evaluator.specs.Reasons.{put_id}
use Rattle.cedar_evaluator.proofs.Concrete.{put_next}
use Rattle.cedar_evaluator.proofs.response.key_set.Goals as goal

pub loop-id-preserved : goal.loop-id-preserved
loop-id-preserved g c =
    let done = c.loop-id.ids in
    let rest = keys_of (iter_rest c.next.new.self) in
    let is = ap (λ es. done ++ keys_of es) (sym c.in-Some.ensures.steps) ∙ c.loop-id.invariant in
    let same : c.in_ok-copy.copy ≡ c.in-Some.field-0.now.0 = search rules in
    ap (λ l. l ++ rest) (c.in_ok-insert.ensures.put ∙ ap (put_id done) same)
    ∙ put_next (keys_of c.args.group.now) done rest c.in-Some.field-0.now.0 c.len-count.ensures.distinct is

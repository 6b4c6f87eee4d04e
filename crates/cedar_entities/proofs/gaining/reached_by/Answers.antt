-- Once the parents are walked over, all were listed (GainedEdges).
use Rattle.std.proofs.Common.{sym, subst}
use Rattle.cedar_entities.specs.Data.{IsListOf}
use Rattle.cedar_entities.specs.Kept.{in_map}
use Rattle.cedar_entities.proofs.GainedEdges.{through_all}
use Rattle.cedar_entities.proofs.Passing.{ok_weaker}
use Rattle.cedar_entities.proofs.gaining.reached_by.Goals as goal

pub returns : goal.returns
returns c =
    let parents = c.args.entity.now.parents in
    let all = c.into_iter-parent-iterator.result in
    let lists = subst (λ ps. IsListOf ps parents) (sym c.into_iter-parent-iterator.ensures.into_iter_gives) c.parents-parent-items.ensures.listed in
    ok_weaker c.from_vec.result
    (λ above made. through_all (in_map c.args.map.now) parents above all c.loop-parent.uids.items c.loop-parent.parent-iterator lists made
    c.in-None.ensures.steps.0 c.loop-parent.invariant)
    c.from_vec.ensures

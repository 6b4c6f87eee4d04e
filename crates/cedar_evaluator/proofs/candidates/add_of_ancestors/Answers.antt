-- What is listed under each ancestor comes to the others in turn.
use Rattle.std.proofs.Common.{◌≡◌, ◌++◌, sym, subst, ap, ◌∙◌}
use Rattle.std.specs.FinSet as set
use Rattle.std.specs.Set.{is_member}
use Rattle.cedar_language.specs.Uid.{Uid}
use Rattle.cedar_language.specs.Order.{same_uid}
use Rattle.cedar_entities.specs.Data.{ancestors_of}
use Rattle.cedar_policy_set.specs.ScopeFinding.{positions_at, AreAmong}
use Rattle.cedar_policy_set.proofs.Gathering.{among_first}
use Rattle.cedar_evaluator.proofs.Listed.{AreGathered, gathered_more, all_gathered}
use Rattle.cedar_evaluator.proofs.candidates.add_of_ancestors.Goals as goal

pub loop-ancestor-preserved : goal.loop-ancestor-preserved
loop-ancestor-preserved c =
    let listed = c.args.listed.now in
    let ps = c.loop-ancestor.found.items in
    let all = c.into_iter-ancestor-iterator.result in
    let uid = c.in-Some.ancestor.now in
    let more = c.in_ok-extend_from_slice.ensures.items ∙ ap (λ qs. ps ++ qs) c.at.ensures in
    record {
      kept = λ p h. subst (AreAmong ps) (sym more) (among_first ps (positions_at listed uid)) p (c.loop-ancestor.invariant.kept p h);
      gathered = subst (AreGathered listed all c.next.new.self) (sym more) (gathered_more listed all c.next.new.self uid ps (subst (λ us. AreGathered listed all us ps) c.in-Some.ensures.steps c.loop-ancestor.invariant.gathered));
    }

pub returns-clause-added : goal.returns-clause-added
returns-clause-added c = λ whole.
    let listed = c.args.listed.now in
    let all = c.into_iter-ancestor-iterator.result in
    let ps = c.loop-ancestor.found.items in
    let ancestors = ancestors_of c.args.entity.now in
    let members : (u : Uid) → is_member same_uid all u ≡ set.contains ancestors u = λ u. ap (λ us. is_member same_uid us u) c.into_iter-ancestor-iterator.ensures.into_iter_gives ∙ c.ancestors-ancestor-items.ensures.listed.members u in
    all_gathered listed all ancestors ps members (subst (λ us. AreGathered listed all us ps) c.in-None.ensures.steps.0 c.loop-ancestor.invariant.gathered)

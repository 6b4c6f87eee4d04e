-- The lists under the ids come to what was found in turn (Gathering).
use Rattle.std.proofs.Common.{[], ◌++◌, sym, subst, ap, ◌∙◌}
use Rattle.std.specs.BTreeMap.{is_at}
use Rattle.cedar_language.specs.Order.{text_cmp}
use Rattle.cedar_policy_set.specs.ScopeFinding.{AreAmong}
use Rattle.cedar_policy_set.proofs.Gathering.{AreWalked, among_first, walked_more, all_walked}
use Rattle.cedar_policy_set.proofs.scope_index.positions.Positions.push_all.Goals as goal

pub loop-places-preserved : goal.loop-places-preserved
loop-places-preserved c =
    let all = c.into_iter-places-iterator.result in
    let ps = c.loop-places.found.items in
    let v = c.in-Some.places.now in
    let more = c.in_ok-extend_from_slice.ensures.items ∙ ap (λ qs. ps ++ qs) c.deref.ensures.value in
    record {
      kept = λ p h. subst (AreAmong ps) (sym more) (among_first ps v.items) p (c.loop-places.invariant.kept p h);
      walked = subst (AreWalked all c.next.new.self) (sym more) (walked_more all c.next.new.self v ps (subst (λ vs. AreWalked all vs ps) c.in-Some.ensures.steps c.loop-places.invariant.walked));
    }

pub returns-clause-added : goal.returns-clause-added
returns-clause-added c = λ uid.
    let ps = c.loop-places.found.items in
    let es = c.args.self.now.by_id.entries in
    let all = c.into_iter-places-iterator.result in
    all_walked (is_at (text_cmp uid.id)) es ps (subst (λ vs. AreWalked vs [] ps) (c.into_iter-places-iterator.ensures.into_iter_gives ∙ c.values-places-items.ensures.rest) (subst (λ vs. AreWalked all vs ps) c.in-None.ensures.steps.0 c.loop-places.invariant.walked))

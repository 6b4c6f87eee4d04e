-- The next id isn't among those before it.
use Rattle.std.proofs.Common.{◌++◌, sym, ap, subst, ◌∙◌}
use Rattle.std.specs.List.{IsDistinct}
use Rattle.std.specs.Map.{keys_of}
use Rattle.std.specs.Vec.Iter.{into_iter_items}
use Rattle.cedar_language.specs.Order.{same_text}
use Rattle.cedar_policy_set.proofs.Placed.{next_free}
use Rattle.cedar_policy_set.proofs.policy_map.PolicyMap.append.Goals as goal

pub push-requires : goal.push-requires
push-requires g c =
    let es = c.loop-id.self in
    next_free es c.in-Some.id c.in-Some.value (into_iter_items c.next.new.self)
    (subst (λ fs. IsDistinct same_text (keys_of fs)) (sym c.loop-id.invariant.whole ∙ ap (λ fs. es ++ fs) c.in-Some.ensures.steps.0) c.requires)

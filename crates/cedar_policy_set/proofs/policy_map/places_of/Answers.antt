-- The next id isn't among those so far.
use Rattle.std.proofs.Common.{◌≡◌, ◌++◌, [], ◌∷◌, get_or, take, sym, ap, subst, ◌∙◌}
use Rattle.std.specs.Map.{keys_of}
use Rattle.std.specs.List.{list_any}
use Rattle.cedar_language.specs.Order.{same_text}
use Rattle.cedar_policy_set.specs.Places.{Tells}
use Rattle.cedar_policy_set.proofs.Placed.{keys_more, next_apart}
use Rattle.cedar_policy_set.proofs.policy_map.places_of.Goals as goal

pub loop-id-preserved : goal.loop-id-preserved
loop-id-preserved g c =
    let es = c.args.entries.now in
    let k = c.loop-id.id-index in
    let item = c.loop-id-item.result in
    let is : c.in_ok-copy_of.field-0 ≡ (get_or es k item).0 = c.in_ok-copy_of.ensures ∙ ap (λ e. e.0) c.loop-id-item.is in
    let apart = next_apart es k item c.loop-id-test.true c.requires.distinct in
    subst (Tells c.push.new.self) (ap (λ i. keys_of (take k es) ++ i ∷ []) is ∙ sym (keys_more es k item c.loop-id-test.true))
    (c.in_ok-push.ensures.told (keys_of (take k es)) c.loop-id.invariant (ap (λ i. list_any (same_text i) (keys_of (take k es))) is ∙ apart))

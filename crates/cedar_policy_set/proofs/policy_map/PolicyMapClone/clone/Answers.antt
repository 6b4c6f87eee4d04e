-- The ids of a copy are those of the map, so none stands twice there.
use Rattle.std.proofs.Common.{sym, ap, subst, ◌∙◌}
use Rattle.std.specs.List.{IsDistinct}
use Rattle.std.specs.Map.{keys_of}
use Rattle.cedar_language.specs.Order.{same_text}
use Rattle.cedar_policy_set.specs.Places.{AreKept}
use Rattle.cedar_policy_set.proofs.Copies.{AreCopies, zip_weaker, same_keys}
use Rattle.cedar_policy_set.proofs.policy_map.PolicyMapClone.clone.Goals as goal

pub places_like-requires-clause-distinct : goal.places_like-requires-clause-distinct
places_like-requires-clause-distinct g c =
    let es = c.self.inside.entries.items in
    let fs = c.in_ok-entries.entries.items in
    let copies : AreCopies g.V.Clone.is_clone es fs = zip_weaker (λ e f h. (cc, h.1)) es fs c.in_ok-entries.ensures.cases.0 in
    subst (IsDistinct same_text) (sym (ap keys_of c.deref.ensures.value ∙ same_keys g.V.Clone.is_clone es fs copies)) c.self.invariant.distinct

pub invariant_of-result : goal.invariant_of-result
invariant_of-result g c = subst (λ es. AreKept c.in_ok-places.places (keys_of es)) c.deref.ensures.value c.in_ok-places.ensures

pub returns : goal.returns
returns g c =
    let es = c.self.inside.entries.items in
    let fs = c.in_ok-entries.entries.items in
    let copies : AreCopies g.V.Clone.is_clone es fs = zip_weaker (λ e f h. (cc, h.1)) es fs c.in_ok-entries.ensures.cases.0 in
    record { cases = subst (λ xs. AreCopies g.V.Clone.is_clone xs fs) c.self.view_is copies }

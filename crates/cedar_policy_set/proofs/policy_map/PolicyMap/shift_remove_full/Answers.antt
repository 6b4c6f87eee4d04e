-- The entry at the position of the id is taken out of the list, and the id out of the places.
use Rattle.std.proofs.Common.{ap, sym, subst, ◌∙◌, Some}
use Rattle.std.specs.Prelude.{option_map, position, remove}
use Rattle.std.specs.List.{IsDistinct}
use Rattle.std.specs.Map.{lookup, keys_of, remove_entry}
use Rattle.cedar_language.specs.Order.{same_text}
use Rattle.cedar_policy_set.specs.Places.{AreKept}
use Rattle.cedar_policy_set.proofs.Placed.{nothing_there, nothing_taken, found_there, taken_there, keys_without}
use Rattle.cedar_policy_set.proofs.policy_map.PolicyMap.shift_remove_full.Goals as goal

pub returns-in_err-position-clause-value : goal.returns-in_err-position-clause-value
returns-in_err-position-clause-value g c =
    let test = same_text c.args.id.now in
    let nowhere = c.in_err-position.ensures.position ∙ ap (λ es. position test (keys_of es)) (c.deref.ensures.value ∙ c.self.view_is) in
    ap (option_map (λ r. r.1)) c.from_residual.ensures ∙ sym (nothing_there test c.args.self.now nowhere)

pub returns-in_err-position-clause-position : goal.returns-in_err-position-clause-position
returns-in_err-position-clause-position g c =
    ap (option_map (λ r. r.0)) c.from_residual.ensures ∙ c.in_err-position.ensures.position
    ∙ ap (λ es. position (same_text c.args.id.now) (keys_of es)) (c.deref.ensures.value ∙ c.self.view_is)

pub returns-in_err-position-clause-entries : goal.returns-in_err-position-clause-entries
returns-in_err-position-clause-entries g c =
    let test = same_text c.args.id.now in
    let nowhere = c.in_err-position.ensures.position ∙ ap (λ es. position test (keys_of es)) (c.deref.ensures.value ∙ c.self.view_is) in
    c.self.view_is ∙ sym (nothing_taken test c.args.self.now nowhere)

pub invariant_of-self-2 : goal.invariant_of-self-2
invariant_of-self-2 g c =
    let es = c.self.inside.entries.items in
    let p = c.in_ok-position.position in
    subst (AreKept c.take_place.new.places) (ap (λ fs. remove (keys_of fs) p) c.deref.ensures.value ∙ sym (keys_without es p)
    ∙ ap keys_of (sym c.remove-value.ensures.items)) c.in_ok-position.ensures.kept

pub returns-clause-position : goal.returns-clause-position
returns-clause-position g c = c.in_ok-position.ensures.position
    ∙ ap (λ es. position (same_text c.args.id.now) (keys_of es)) (c.deref.ensures.value ∙ c.self.view_is)

pub returns-clause-value : goal.returns-clause-value
returns-clause-value g c =
    let test = same_text c.args.id.now in
    let at = c.in_ok-position.ensures.position ∙ ap (λ es. position test (keys_of es)) c.deref.ensures.value in
    ap (λ e. Some e.1) c.remove-value.ensures.value ∙ sym (found_there test c.self.inside.entries.items _ at c.remove-value.result)
    ∙ ap (lookup test) c.self.view_is

pub returns-clause-entries : goal.returns-clause-entries
returns-clause-entries g c =
    let test = same_text c.args.id.now in
    let at = c.in_ok-position.ensures.position ∙ ap (λ es. position test (keys_of es)) c.deref.ensures.value in
    c.remove-value.ensures.items ∙ taken_there test c.self.inside.entries.items _ at c.remove-value.result ∙ ap (remove_entry test) c.self.view_is

pub returns-clause-unique : goal.returns-clause-unique
returns-clause-unique g c =
    let es = c.self.inside.entries.items in
    let p = c.in_ok-position.position in
    subst (IsDistinct same_text) (ap (λ fs. remove (keys_of fs) p) c.deref.ensures.value ∙ sym (keys_without es p)
    ∙ ap keys_of (sym c.remove-value.ensures.items)) c.in_ok-position.ensures.kept.distinct

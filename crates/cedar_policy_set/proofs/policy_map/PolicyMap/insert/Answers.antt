-- What is put stands where the id stands, or else last.
use Rattle.std.proofs.Common.{Some, ap, sym, subst, ◌∙◌}
use Rattle.std.specs.Prelude.{position, slice_set}
use Rattle.std.specs.Map.{lookup, keys_of}
use Rattle.cedar_language.specs.Order.{same_text}
use Rattle.cedar_policy_set.specs.Places.{AreKept, put}
use Rattle.cedar_policy_set.proofs.Placed.{nothing_there, found_there, put_there, put_last, keys_set}
use Rattle.cedar_policy_set.proofs.policy_map.PolicyMap.insert.Goals as goal

pub invariant_of-self : goal.invariant_of-self
invariant_of-self g c =
    let es = c.self.inside.entries.items in
    let d = c.index_mut.result.now in
    subst (AreKept c.self.inside.places)
    (sym (keys_set es c.in-Some.position c.replace.new.dest d) ∙ ap (λ e. keys_of (slice_set es c.in-Some.position (e.0, c.replace.new.dest))) (sym c.index_mut.ensures.value)) c.self.invariant

pub push-requires : goal.push-requires
push-requires g c = nothing_there (same_text c.args.id) c.args.self.now c.in-None.ensures

pub returns-in-Some-clause-put : goal.returns-in-Some-clause-put
returns-in-Some-clause-put g c =
    let es = c.self.inside.entries.items in
    let p = c.in-Some.position in
    let at = c.in-Some.ensures ∙ ap (λ fs. position (same_text c.args.id) (keys_of fs)) (sym c.self.view_is) in
    ap (λ e. slice_set es p (e.0, c.replace.new.dest)) c.index_mut.ensures.value ∙ put_there es c.args.id _ p at c.index_mut.result.now ∙ (λ i. put (c.self.view_is i) c.args.id (c.replace.ensures.after i))

pub returns-in-Some-clause-before : goal.returns-in-Some-clause-before
returns-in-Some-clause-before g c =
    let test = same_text c.args.id in
    let at = c.in-Some.ensures ∙ ap (λ fs. position test (keys_of fs)) (sym c.self.view_is) in
    ap Some c.replace.ensures.value ∙ ap (λ e. Some e.1) c.index_mut.ensures.value ∙ sym (found_there test c.self.inside.entries.items _ at c.index_mut.result.now) ∙ ap (lookup test) c.self.view_is

pub returns-in_ok-push-in-None-clause-put : goal.returns-in_ok-push-in-None-clause-put
returns-in_ok-push-in-None-clause-put g c =
    let es = c.args.self.now in c.in_ok-push-in-None.ensures.pushed ∙ sym (put_last es c.args.id c.args.value (nothing_there (same_text c.args.id) es c.in-None.ensures))

pub returns-in_ok-push-in-None-clause-before : goal.returns-in_ok-push-in-None-clause-before
returns-in_ok-push-in-None-clause-before g c = sym (nothing_there (same_text c.args.id) c.args.self.now c.in-None.ensures)

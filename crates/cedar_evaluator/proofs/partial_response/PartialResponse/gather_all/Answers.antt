-- Each policy in turn.
use Rattle.std.proofs.Common.{length, map, sym, ◌∙◌, refl, subst}
use Rattle.std.specs.Borrow.{Bor}
use Rattle.std.specs.Map.{keys_of}
use Rattle.std.specs.Set.{is_member}
use Rattle.std.proofs.lemmas.Iterator.Consumers.{YieldsList-from_first, YieldsList-so_far, YieldsList-turn, YieldsList-end}
use Rattle.std.proofs.lemmas.List.{map_push}
use Rattle.cedar_language.specs.Order.{same_text}
use Rattle.cedar_policies.specs.declared.policies.Policy.{Policy}
use Rattle.cedar_policy_set.specs.Bounds.{policy_seen}
use Rattle.cedar_policy_set.specs.BoundsLeft.{policies_left}
use Rattle.cedar_policy_set.specs.Entries.{Entries, policies_of}
use Rattle.cedar_policy_set.proofs.Placed.{next_apart}
use Rattle.cedar_evaluator.specs.Grouping.{KeepsEach}
use Rattle.cedar_evaluator.proofs.Keeping.{keeps_none, keeps_by, next_new}
use Rattle.cedar_evaluator.proofs.partial_response.PartialResponse.gather_all.Goals as goal

pub loop-policy-init : goal.loop-policy-init
loop-policy-init g c = record {
  keeps = keeps_none g.F.ExtensionFunctionObject.answers c.args.with_false c.args.evaluator.now c.args.scopes.now c.args.self.now c.requires.none;
  same = refl;
}

pub evaluate-requires : goal.evaluate-requires
evaluate-requires g c =
    let all = policies_of c.args.policies.now in
    let yielded = c.loop-policy.yielded in
    let road = YieldsList-from_first (λ (p : Bor Policy). policy_seen p.now) policies_left all (cc) in
    let so_far = YieldsList-so_far road yielded c.loop-policy.policy-iterator c.loop-policy.yielded_by in
    let turn =
    YieldsList-turn road yielded c.loop-policy.policy-iterator c.loop-policy.yielded_by
    c.next.result c.next.new.self c.in-Some.policy c.in-Some.is c.next.ensures.steps in
    next_new g.F.ExtensionFunctionObject.answers c.args.with_false c.args.evaluator.now c.args.scopes.now
    (map (λ (p : Bor Policy). policy_seen p.now) yielded) c.loop-policy.self c.in-Some.policy.now c.loop-policy.invariant.keeps
    ((λ i. is_member same_text (keys_of (so_far i)) (turn.1 i).0)
    ∙ next_apart all (length yielded) (policy_seen c.in-Some.policy.now) turn.0 c.requires.apart)

pub loop-policy-preserved : goal.loop-policy-preserved
loop-policy-preserved g c =
    let answers = g.F.ExtensionFunctionObject.answers in
    let ev = c.args.evaluator.now in
    let scopes = c.args.scopes.now in
    let seen = map (λ (p : Bor Policy). policy_seen p.now) c.loop-policy.yielded in
    let pushed = map_push (λ (p : Bor Policy). policy_seen p.now) c.loop-policy.yielded c.in-Some.policy in
    record {
      keeps =
          subst (λ (es : Entries). KeepsEach answers c.args.with_false ev scopes es c.evaluate.new.self) (sym pushed)
          (c.in_ok-evaluate.ensures.keeps seen c.loop-policy.invariant.keeps);
      same = c.evaluate.ensures.same ∙ c.loop-policy.invariant.same;
    }

pub returns-clause-keeps : goal.returns-clause-keeps
returns-clause-keeps g c =
    let answers = g.F.ExtensionFunctionObject.answers in
    let ev = c.args.evaluator.now in
    let scopes = c.args.scopes.now in
    let all = policies_of c.args.policies.now in
    let self = c.loop-policy.self in
    let road = YieldsList-from_first (λ (p : Bor Policy). policy_seen p.now) policies_left all (cc) in
    let end =
    YieldsList-end road c.loop-policy.yielded c.loop-policy.policy-iterator c.loop-policy.yielded_by
    c.next.result c.next.new.self c.in-None.is c.next.ensures.steps in
    keeps_by answers c.args.with_false ev scopes all self
    (subst (λ (es : Entries). KeepsEach answers c.args.with_false ev scopes es self) end.0 c.loop-policy.invariant.keeps)

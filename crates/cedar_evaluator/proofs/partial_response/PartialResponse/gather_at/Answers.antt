-- Each position in turn: its policy is kept, if one stands there.
use Rattle.std.proofs.Common.{false, ℕ, ◌+◌, List, take, take_all, sym, ◌∙◌, ap, refl, subst}
use Rattle.std.specs.Option.{option_copied, option_map}
use Rattle.cedar_policy_set.specs.Bounds.{policy_seen}
use Rattle.cedar_policy_set.specs.Entries.{Entries}
use Rattle.cedar_evaluator.specs.Candidates.{policies_at}
use Rattle.cedar_evaluator.specs.Grouping.{KeepsEach}
use Rattle.cedar_evaluator.specs.declared.partial_response.PartialResponse.{PartialResponse}
use Rattle.cedar_evaluator.proofs.Keeping.{keeps_none, keeps_by, next_new}
use Rattle.cedar_evaluator.proofs.Passed.{next_at, none_at, next_apart}
use Rattle.cedar_evaluator.proofs.partial_response.PartialResponse.gather_at.Goals as goal
use Rattle.cedar_evaluator.proofs.partial_response.PartialResponse.gather_at.Goals.{in-Some+in_ok-evaluate, in_default}

pub loop-position-init : goal.loop-position-init
loop-position-init g c = record {
  keeps = keeps_none g.F.ExtensionFunctionObject.answers false c.args.evaluator.now c.args.scopes.now c.args.self.now c.requires.none;
  same = refl;
}

pub evaluate-requires : goal.evaluate-requires
evaluate-requires g c =
    let es = c.args.policies.now in
    let ps = c.args.positions.now in
    let k = c.loop-position.position-index in
    let this = policy_seen c.in-Some.policy.now in
    let stands = sym c.policy_at.ensures ∙ ap (λ o. option_map policy_seen (option_copied o)) c.in-Some.is in
    next_new g.F.ExtensionFunctionObject.answers false c.args.evaluator.now c.args.scopes.now
    (policies_at es (take k ps)) c.loop-position.self c.in-Some.policy.now c.loop-position.invariant.keeps
    (next_apart es ps k 0 this c.loop-position-test.true stands c.requires.apart)

pub loop-position-preserved : goal.loop-position-preserved
loop-position-preserved g c =
    let answers = g.F.ExtensionFunctionObject.answers in
    let ev = c.args.evaluator.now in
    let scopes = c.args.scopes.now in
    let es = c.args.policies.now in
    let ps = c.args.positions.now in
    let k = c.loop-position.position-index in
    let before = c.loop-position.self in
    let seen = policies_at es (take k ps) in
    elim c.match-policy_at.branch [
      | in-Some+in_ok-evaluate w ↦
          let this = policy_seen w.in-Some.policy.now in
          let stands = sym c.policy_at.ensures ∙ ap (λ o. option_map policy_seen (option_copied o)) w.in-Some.is in
          let more = next_at es ps k 0 this c.loop-position-test.true stands in
          record {
            keeps =
                subst (λ (h : PartialResponse). KeepsEach answers false ev scopes (policies_at es (take (k + 1) ps)) h) (sym w.self-is)
                (subst (λ (fs : Entries). KeepsEach answers false ev scopes fs w.evaluate.new.self) (sym more)
                (w.in_ok-evaluate.ensures.keeps seen c.loop-position.invariant.keeps));
            same = ap (λ (h : PartialResponse). h.request) w.self-is ∙ w.evaluate.ensures.same ∙ c.loop-position.invariant.same;
          }
      | in_default w ↦
          let stands = sym c.policy_at.ensures ∙ ap (λ o. option_map policy_seen (option_copied o)) w.in_default.is in
          let none = none_at es ps k 0 c.loop-position-test.true stands in
          record {
            keeps =
                subst (λ (h : PartialResponse). KeepsEach answers false ev scopes (policies_at es (take (k + 1) ps)) h) (sym w.self-is)
                (subst (λ (fs : Entries). KeepsEach answers false ev scopes fs before) (sym none) c.loop-position.invariant.keeps);
            same = ap (λ (h : PartialResponse). h.request) w.self-is ∙ c.loop-position.invariant.same;
          }
    ]

pub returns-clause-keeps : goal.returns-clause-keeps
returns-clause-keeps g c =
    let answers = g.F.ExtensionFunctionObject.answers in
    let ev = c.args.evaluator.now in
    let scopes = c.args.scopes.now in
    let es = c.args.policies.now in
    let ps = c.args.positions.now in
    let self = c.loop-position.self in
    let all = take_all c.loop-position.position-index ps c.loop-position-test.false in
    keeps_by answers false ev scopes (policies_at es ps) self
    (subst (λ (qs : List ℕ). KeepsEach answers false ev scopes (policies_at es qs) self) all c.loop-position.invariant.keeps)

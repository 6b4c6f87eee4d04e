-- What stands at a position of the map stands under its own id (Views).
use Rattle.std.proofs.Common.{ap, sym, ◌∙◌}
use Rattle.std.specs.List.{slice_get}
use Rattle.cedar_policy_set.specs.Scopes.{policy_stood}
use Rattle.cedar_policy_set.proofs.Views.{stood_at}
use Rattle.cedar_policy_set.proofs.sets.PolicySet.policy_at.Goals as goal

pub returns : goal.returns
returns c =
    c.as_policy.ensures
    ∙ sym (stood_at c.self.inside.bound c.self.invariant.sound.named c.args.position c.in_ok-bound.field-0-0.now c.in_ok-bound.bound.now (sym c.in_ok-bound.ensures))
    ∙ ap (λ es. policy_stood (slice_get es c.args.position)) c.self.view_is

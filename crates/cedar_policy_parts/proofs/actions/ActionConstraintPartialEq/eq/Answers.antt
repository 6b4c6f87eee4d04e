-- Shared uids are compared as the uids that they hold.
use Rattle.std.proofs.Common.{◌∙◌}
use Rattle.cedar_policy_parts.proofs.Held.{pointwise-held}
use Rattle.cedar_policy_parts.proofs.actions.ActionConstraintPartialEq.eq.Goals as goal

pub returns-in-In-In : goal.returns-in-In-In
returns-in-In-In c = rw (c.in-In-In.is-0, c.in-In-In.is-1) (c.eq.ensures ∙ pointwise-held c.in-In-In.a.items c.in-In-In.b.items)

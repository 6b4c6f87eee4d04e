-- A policy is found as an entry (Covering).
use Rattle.std.proofs.Common.{sym, subst, ◌∙◌}
use Rattle.std.proofs.lemmas.Result.{on_ok_weaker}
use Rattle.cedar_policies.specs.Policies.{bindings_of, policy_syntax}
use Rattle.cedar_policy_set.specs.ScopeFinding.{covered, IsFound}
use Rattle.cedar_policy_set.specs.Bounds.{entry_of}
use Rattle.cedar_policy_set.specs.Scopes.{IsEntryFound}
use Rattle.cedar_policy_set.proofs.Covering.{found_entered}
use Rattle.cedar_policy_set.proofs.scopes.cover_next.Goals as goal

pub returns-in-Policy-clause-found : goal.returns-in-Policy-clause-found
returns-in-Policy-clause-found c =
    let x = c.push.new.self in
    let p = covered c.args.scopes.now in
    on_ok_weaker c.push.result (λ found. subst (λ b. IsEntryFound x p (entry_of b)) (sym c.in-Policy.is ∙ c.kind.ensures)
    (found_entered x p c.in-Policy.policy found)) c.push.ensures.found

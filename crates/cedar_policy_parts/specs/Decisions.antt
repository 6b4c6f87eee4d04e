-- Decisions, as the definitions name them.
use Rattle.cedar_language.specs.Answering as answering
use Rattle.cedar_policy_parts.specs.declared.decision.Decision.{Decision}
use Rattle.cedar_policy_parts.specs.declared.decision.Decision.TheVariants.{Allow, Deny}

abbrev pub decision_of : Decision → answering.Decision
decision_of Allow = answering.Allow
decision_of Deny = answering.Deny

-- Each step that goes a level deeper takes a token that opens a construct, and such a token has a place of its own.
use Rattle.cedar_grammar.proofs.Deep.{exprs_nest, primaries_nest, policy_nests, policies_nest}
use Rattle.cedar_grammar.proofs.Openers.{openers_have_places}
use Rattle.cedar_grammar.proofs.limits_are_met_where_constructs_open.Goals as goal

pub returns : goal.returns
returns c = record { expressions = exprs_nest; primaries = primaries_nest; policy = policy_nests; policies = policies_nest; texts = openers_have_places }

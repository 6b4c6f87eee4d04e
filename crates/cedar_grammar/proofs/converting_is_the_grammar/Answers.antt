-- What the loose grammar reads converts to what the strict rules have, rule by rule and back.
use Rattle.cedar_grammar.proofs.LooseLaws.{exprs_convert, entities_convert, names_convert, literals_convert, policy_converts, policies_convert}
use Rattle.cedar_grammar.proofs.converting_is_the_grammar.Goals as goal

pub returns : goal.returns
returns c = record { expressions = exprs_convert; entities = entities_convert; names = names_convert; literals = literals_convert; policy = policy_converts; policies = policies_convert }

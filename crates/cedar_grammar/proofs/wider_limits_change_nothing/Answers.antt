-- Each step of reading meets the narrower limit or is the same within the wider one.
use Rattle.cedar_grammar.proofs.Stays.{exprs_stay, primaries_stay, policy_stays, policies_stay}
use Rattle.cedar_grammar.proofs.LooseLaws.{exprs_stand, literals_stand, policy_stands, policies_stand}
use Rattle.cedar_grammar.proofs.wider_limits_change_nothing.Goals as goal

pub returns : goal.returns
returns c = record {
  expressions = exprs_stay;
  primaries = primaries_stay;
  policy = policy_stays;
  policies = policies_stay;
  expressions_stand = exprs_stand;
  literals_stand = literals_stand;
  policy_stands = policy_stands;
  policies_stand = policies_stand;
}

-- What a written link is read as, and how it is answered.
use Rattle.std.proofs.Common.{ℕ, zero, suc, List, [], ◌∷◌}
use Rattle.cedar_grammar.specs.Laws.{LinksAreRead}
use Rattle.cedar_grammar.specs.Names.{Names}
use Rattle.cedar_grammar.specs.Policies.{PolicyWithin, ArePolicies, no_more, one_more}
use Rattle.cedar_grammar.specs.Policy.{Policy}
use Rattle.cedar_grammar.specs.Token.{Token}
use Rattle.cedar_grammar.specs.Functions.{policy_names}
use Rattle.cedar_world.specs.InForce.{LinksAreAnsweredAsWritten, WrittenLinksAreAnswered}
use Rattle.cedar_grammar.specs.Bindings.{binding_of, linked}

one_policy : (names : Names) (n : ℕ) (ts : List Token) (p : Policy) → PolicyWithin names n ts p [] → ArePolicies names n ts (p ∷ [])
one_policy names zero ts p is = elim is [ ]
one_policy names (suc n) ts p is = one_more [] is no_more

pub written_links_are_answered : LinksAreRead → LinksAreAnsweredAsWritten → WrittenLinksAreAnswered
written_links_are_answered read answered by world id template b s bound_so template_is exact text tokens are written =
    let within = read (policy_names by.functions) s (binding_of b) tokens written in
    (linked b s, (within.0, (tokens, are, one_policy (policy_names by.functions) within.0 tokens (linked b s) within.1)), answered by world id template b s bound_so template_is exact)

-- Characters are one list of tokens at most, and tokens have one meaning at most.
use Rattle.cedar_world.proofs.Readings.{reads_once, policies_once}
use Rattle.cedar_world.proofs.texts_are_one.Goals as goal

pub returns : goal.returns
returns c = record {
  policies = policies_once c.at_most_one_meaning.ensures.tokens c.at_most_one_meaning.ensures.policies;
  bodies = reads_once c.at_most_one_meaning.ensures.tokens c.at_most_one_meaning.ensures.expressions;
}

-- What is made tells of the ids; none is made of none.
use Rattle.std.proofs.Common.{None, refl}
use Rattle.std.specs.Map.{keys_of}
use Rattle.cedar_policy_set.proofs.Few.{kept_few}
use Rattle.cedar_policy_set.proofs.policy_map.places_like.Goals as goal

pub returns-in_ok-places_of-in-Some : goal.returns-in_ok-places_of-in-Some
returns-in_ok-places_of-in-Some g c = record { distinct = c.requires.distinct; told = c.in_ok-places_of-in-Some.ensures }

pub returns-in-None : goal.returns-in-None
returns-in-None g c = kept_few None (keys_of c.args.entries.now) refl c.requires.distinct

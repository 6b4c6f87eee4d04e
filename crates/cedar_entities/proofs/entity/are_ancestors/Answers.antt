-- A list passes where its set lies within the other.
use Rattle.std.proofs.Common.{◌∙◌}
use Rattle.cedar_entities.specs.Data.{ancestors_of}
use Rattle.cedar_entities.proofs.UidLemmas.{subset_listed}
use Rattle.cedar_entities.proofs.entity.are_ancestors.Goals as goal

pub returns : goal.returns
returns c = c.are_listed_ancestors.ensures ∙ subset_listed c.as_slice.result.now c.args.uids.now (ancestors_of c.args.of.now) c.as_slice.ensures.listed

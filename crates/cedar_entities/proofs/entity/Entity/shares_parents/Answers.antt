-- A list passes where its set lies within the other.
use Rattle.std.proofs.Common.{ap, ◌∙◌}
use Rattle.cedar_entities.specs.Data.{EntityData}
use Rattle.cedar_entities.proofs.UidLemmas.{subset_listed}
use Rattle.cedar_entities.proofs.entity.Entity.shares_parents.Goals as goal

pub returns : goal.returns
returns c =
    c.are_listed_parents.ensures
    ∙ subset_listed c.as_slice.result.now c.args.self.now.parents c.args.other.now.parents (c.as_slice.ensures.listed ∙ ap (λ (e : EntityData). e.parents)
    c.self.view_is)

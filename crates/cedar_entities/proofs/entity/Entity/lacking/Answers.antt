-- Those that aren't parents, and then those that aren't kept beside these.
use Rattle.std.proofs.Common.{ap, ◌∙◌}
use Rattle.std.specs.FinSet as set
use Rattle.cedar_entities.specs.Data.{EntityData, ancestors_of}
use Rattle.cedar_entities.proofs.UidLemmas.{differences}
use Rattle.cedar_entities.proofs.entity.Entity.lacking.Goals as goal

pub returns : goal.returns
returns c =
    let us = c.args.uids.now in
    let ps = c.self.inside.parents in
    let others = c.self.inside.indirect_ancestors in
    c.subtract-2.ensures ∙ ap (λ s. set.difference s others) (c.subtract.ensures ∙ ap (λ s. set.difference s ps) c.in_ok-others.ensures.cases)
    ∙ differences us ps others ∙ ap (λ (e : EntityData). set.difference us (ancestors_of e)) c.self.view_is

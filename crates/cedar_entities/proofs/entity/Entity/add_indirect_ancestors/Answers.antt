-- Those that aren't parents are kept beside them.
use Rattle.std.specs.FinSet as set
use Rattle.std.proofs.Common.{◌∙◌, ap}
use Rattle.std.proofs.lemmas.Result.{on_ok_weaker}
use Rattle.cedar_entities.specs.Data.{EntityData}
use Rattle.cedar_entities.proofs.UidLemmas.{indirect_are}
use Rattle.cedar_entities.proofs.entity.Entity.add_indirect_ancestors.Goals as goal

pub returns-clause-added : goal.returns-clause-added
returns-clause-added c =
    let us = set.from_list c.args.uids.items in
    on_ok_weaker c.extend.result
    (λ is. indirect_are _ c.args.self.now c.extend.new.self (set.union c.args.self.now.indirect (set.difference us c.args.self.now.parents)) c.self.view_is
    (is ∙ ap (λ s. set.union c.self.inside.indirect_ancestors s) c.others_than-others.ensures ∙ ap (λ (e : EntityData). set.union e.indirect (set.difference us e.parents)) c.self.view_is))
    c.extend.ensures.added

-- A uid is kept beside the parents, or is one of them already.
use Rattle.std.specs.FinSet as set
use Rattle.std.proofs.Common.{sym, ◌∙◌, ap}
use Rattle.cedar_entities.specs.Data.{EntityData}
use Rattle.cedar_entities.proofs.UidLemmas.{indirect_are, kept_beside, kept_new, kept_there}
use Rattle.cedar_entities.proofs.entity.Entity.add_indirect_ancestor.Goals as goal

pub returns-in_ok-insert-clause-added : goal.returns-in_ok-insert-clause-added
returns-in_ok-insert-clause-added c =
    let absent = ap (λ (e : EntityData). set.contains e.parents c.args.uid) (sym c.self.view_is) ∙ sym c.if-not-contains.ensures in
    indirect_are _ c.args.self.now c.insert.new.self (kept_beside c.args.uid c.args.self.now) c.self.view_is
    (kept_new c.args.uid c.args.self.now c.insert.new.self absent (c.in_ok-insert.ensures.added ∙ ap (λ (e : EntityData). set.insert e.indirect c.args.uid) c.self.view_is))

pub returns-else-not-contains-clause-added : goal.returns-else-not-contains-clause-added
returns-else-not-contains-clause-added c =
    kept_there c.args.uid c.args.self.now (ap (λ (e : EntityData). set.contains e.parents c.args.uid) (sym c.self.view_is) ∙ sym c.if-not-contains.ensures)

-- A number without a mark is no member.
use Rattle.std.proofs.Common.{refl, sym, ◌∙◌}
use Rattle.cedar_closure.proofs.NumberSets.{set_pushed, mark_read}
use Rattle.cedar_closure.proofs.numbers.NumberSet.insert.Goals as goal

pub returns-clause-set : goal.returns-clause-set
returns-clause-set c =
    let old = c.args.self.now in
    let n = c.args.number in
    set_pushed old _ n c.requires.set c.requires.below
    (sym (c.requires.set.marked n) ∙ mark_read old.is_member.items n c.index.result.now c.requires.below c.index.ensures ∙ c.if-index.false)
    c.in_ok-push.ensures.items refl

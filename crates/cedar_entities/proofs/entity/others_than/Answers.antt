-- Retaining by a test of the uid filters the list.
use Rattle.std.proofs.Common.{rules, not, refl, ap, ◌∙◌}
use Rattle.std.specs.FinSet as set
use Rattle.std.proofs.lemmas.Fn.{filter_same}
use Rattle.cedar_language.specs.Uid.{Uid}
use Rattle.cedar_language.specs.Order.{uid_cmp}
use Rattle.cedar_entities.proofs.UidSets.{beside_set}
use Rattle.cedar_entities.proofs.entity.others_than.Goals as goal

pub returns : goal.returns
returns c =
    let us = c.args.uids.items in
    let kept = filter_same _ (λ (u : Uid). not (set.contains c.args.list.now u)) _ (λ x b f' t. search rules) us c.retain.new.self.items c.retain.ensures.filtered in
    ap (λ vs. set.from_list {R = uid_cmp} vs) kept ∙ beside_set c.args.list.now (set.from_list us) us refl

-- Filtering a list that rises leaves one that rises; a uid that isn't there leaves all.
use Rattle.std.proofs.Common.{rules, not, sym, ap, subst, ◌∙◌}
use Rattle.std.specs.FinSet as set
use Rattle.std.proofs.lemmas.Fn.{filter_same}
use Rattle.std.proofs.lemmas.List.Kept.{IsStrictlySortedBy-filter}
use Rattle.cedar_language.specs.Uid.{Uid}
use Rattle.cedar_language.specs.Order.{uid_cmp, same_uid}
use Rattle.cedar_entities.specs.Lists.{AreRising}
use Rattle.cedar_entities.proofs.UidSets.{one_less, remove_absent}
use Rattle.cedar_entities.proofs.uid_lists.EntityUIDs.remove.Goals as goal

pub of_rising-requires : goal.of_rising-requires
of_rising-requires c =
    let k = c.args.uid.now in
    let us = c.take-left.result.items in
    let kept = filter_same _ (λ (u : Uid). not (same_uid u k)) _ (λ x b f' t. search rules) us c.retain.new.self.items c.retain.ensures.filtered in
    subst AreRising (sym kept) (IsStrictlySortedBy-filter uid_cmp (λ u. not (same_uid u k)) us c.take-left.ensures.rising)

pub returns-then-contains : goal.returns-then-contains
returns-then-contains c =
    let k = c.args.uid.now in
    let us = c.take-left.result.items in
    let left = c.retain.new.self.items in
    let kept = filter_same _ (λ (u : Uid). not (same_uid u k)) _ (λ x b f' t. search rules) us left c.retain.ensures.filtered in
    c.drop.view_is ∙ c.of_rising.ensures ∙ one_less us left k kept ∙ ap (λ s. set.remove s k) c.take-left.ensures.listed

pub returns-else-contains : goal.returns-else-contains
returns-else-contains c = sym (remove_absent c.args.self.now c.args.uid.now (sym c.contains.ensures ∙ c.if-contains.false))

-- Filtering a list that rises leaves one that rises, of those that are kept.
use Rattle.std.proofs.Common.{rules, not, sym, ap, subst, ◌∙◌}
use Rattle.std.specs.FinSet as set
use Rattle.std.specs.List.{list_any}
use Rattle.std.proofs.lemmas.Fn.{filter_same}
use Rattle.std.proofs.lemmas.List.Kept.{IsStrictlySortedBy-filter}
use Rattle.cedar_language.specs.Uid.{Uid}
use Rattle.cedar_language.specs.Order.{uid_cmp, same_uid}
use Rattle.cedar_entities.specs.Lists.{AreRising}
use Rattle.cedar_entities.proofs.UidSets.{kept_listed}
use Rattle.cedar_entities.proofs.uid_lists.EntityUIDs.cut.Goals as goal

pub of_rising-requires : goal.of_rising-requires
of_rising-requires c =
    let gone = c.args.gone.now.keys in
    let us = c.take-left.result.items in
    let kept = filter_same _ (λ (u : Uid). not (list_any (same_uid u) gone)) _ (λ x b f' t. search rules) us c.retain.new.self.items c.retain.ensures.filtered in
    subst AreRising (sym kept) (IsStrictlySortedBy-filter uid_cmp (λ u. not (list_any (same_uid u) gone)) us c.take-left.ensures.rising)

pub returns : goal.returns
returns c =
    let gone = c.args.gone.now.keys in
    let us = c.take-left.result.items in
    let left = c.retain.new.self.items in
    let kept = filter_same _ (λ (u : Uid). not (list_any (same_uid u) gone)) _ (λ x b f' t. search rules) us left c.retain.ensures.filtered in
    c.drop.view_is ∙ c.of_rising.ensures ∙ kept_listed gone us left kept ∙ ap (λ s. set.difference s (set.from_list gone)) c.take-left.ensures.listed

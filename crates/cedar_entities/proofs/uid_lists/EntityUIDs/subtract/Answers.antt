-- Filtering a list that rises leaves one that rises, of those that the other lacks.
use Rattle.std.proofs.Common.{rules, not, sym, ap, subst, ◌∙◌}
use Rattle.std.specs.FinSet as set
use Rattle.std.proofs.lemmas.Fn.{filter_same}
use Rattle.std.proofs.lemmas.List.Kept.{IsStrictlySortedBy-filter}
use Rattle.cedar_language.specs.Uid.{Uid}
use Rattle.cedar_language.specs.Order.{uid_cmp}
use Rattle.cedar_entities.specs.Lists.{AreRising}
use Rattle.cedar_entities.proofs.UidSets.{beside_set}
use Rattle.cedar_entities.proofs.uid_lists.EntityUIDs.subtract.Goals as goal

pub of_rising-requires : goal.of_rising-requires
of_rising-requires c =
    let gone = c.args.gone.now in
    let us = c.take-left.result.items in
    let kept = filter_same _ (λ (u : Uid). not (set.contains gone u)) _ (λ x b f' t. search rules) us c.retain.new.self.items c.retain.ensures.filtered in
    subst AreRising (sym kept) (IsStrictlySortedBy-filter uid_cmp (λ u. not (set.contains gone u)) us c.take-left.ensures.rising)

pub returns : goal.returns
returns c =
    let gone = c.args.gone.now in
    let us = c.take-left.result.items in
    let kept = filter_same _ (λ (u : Uid). not (set.contains gone u)) _ (λ x b f' t. search rules) us c.retain.new.self.items c.retain.ensures.filtered in
    c.drop.view_is ∙ c.of_rising.ensures ∙ ap (λ vs. set.from_list {R = uid_cmp} vs) kept ∙ beside_set gone c.args.self.now us c.take-left.ensures.listed

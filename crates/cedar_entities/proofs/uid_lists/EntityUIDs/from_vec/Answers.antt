-- A sorted list without doubles rises, and holds what it held (Listed).
use Rattle.std.proofs.Common.{sym, ap, subst, ◌∙◌}
use Rattle.std.specs.FinSet as set
use Rattle.std.proofs.lemmas.List.Filters.{dedup_is}
use Rattle.cedar_language.specs.Order.{uid_cmp, same_uid}
use Rattle.cedar_entities.specs.Lists.{AreRising}
use Rattle.cedar_entities.proofs.Listed.{sorted_set, sorted_rises}
use Rattle.cedar_entities.proofs.uid_lists.EntityUIDs.from_vec.Goals as goal

pub of_rising-requires : goal.of_rising-requires
of_rising-requires c =
    let sorted = c.sort.new.self.items in
    let left = c.dedup.new.self.items in
    subst AreRising (sym c.shrink_to_fit.ensures.items) (sorted_rises sorted left c.in_ok-sort.ensures.sorted (dedup_is same_uid sorted left c.dedup.ensures.filtered))

pub returns : goal.returns
returns c =
    let sorted = c.sort.new.self.items in
    let left = c.dedup.new.self.items in
    c.of_rising.ensures
    ∙ ap (λ us. set.from_list {R = uid_cmp} us) c.shrink_to_fit.ensures.items
    ∙ sorted_set c.args.uids.items sorted left c.in_ok-sort.ensures.permutation (dedup_is same_uid sorted left c.dedup.ensures.filtered)

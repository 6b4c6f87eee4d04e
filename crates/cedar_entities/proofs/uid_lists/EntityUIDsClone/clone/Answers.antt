-- Copies of uids are these uids.
use Rattle.std.proofs.Common.{sym, ap, subst, ◌∙◌}
use Rattle.std.specs.FinSet as set
use Rattle.cedar_language.specs.Order.{uid_cmp}
use Rattle.cedar_entities.specs.Lists.{AreRising}
use Rattle.cedar_entities.proofs.uid_lists.EntityUIDsClone.clone.Goals as goal

pub of_rising-requires : goal.of_rising-requires
of_rising-requires c = subst AreRising (sym (c.in_ok-uids.ensures.items_if_clones_equal (λ x y e. e))) c.as_slice.ensures.rising

pub returns : goal.returns
returns c = record {
  cases = c.of_rising.ensures ∙ ap (λ us. set.from_list {R = uid_cmp} us) (c.in_ok-uids.ensures.items_if_clones_equal (λ x y e. e)) ∙ c.as_slice.ensures.listed;
}

-- Of a list that rises those that another lacks rise too.
use Rattle.std.proofs.Common.{◌<◌, ◌++◌, not, length, sym, ap, subst, ◌∙◌}
use Rattle.std.specs.FinSet as set
use Rattle.std.proofs.lemmas.List.Kept.{IsStrictlySortedBy-filter}
use Rattle.cedar_language.specs.Order.{uid_cmp}
use Rattle.cedar_entities.specs.Lists.{beside}
use Rattle.cedar_entities.proofs.UidSets.{beside_set}
use Rattle.cedar_entities.proofs.Listed.{length-beside}
use Rattle.cedar_entities.proofs.uid_lists.EntityUIDs.followed_by.Goals as goal

pub returns-clause-in_turn : goal.returns-clause-in_turn
returns-clause-in_turn c =
    let s = c.args.self.now in
    let us = c.as_slice.result.now in
    let vs = c.as_slice-2.result.now in
    record {
      first = us;
      others = beside s vs;
      listed = ap (λ xs. xs ++ beside s (c.iter-2.result.rest.now)) c.iter.ensures.rest ∙ ap (λ ys. us ++ beside s ys) c.iter-2.ensures.rest;
      first_rise = c.as_slice.ensures.rising;
      others_rise = IsStrictlySortedBy-filter uid_cmp (λ u. not (set.contains s u)) vs c.as_slice-2.ensures.rising;
      are_first = c.as_slice.ensures.listed;
      are_others = beside_set s c.args.others.now vs c.as_slice-2.ensures.listed;
    }

pub returns-clause-fits : goal.returns-clause-fits
returns-clause-fits c =
    let s = c.args.self.now in
    let us = c.as_slice.result.now in
    let vs = c.as_slice-2.result.now in
    let listed = ap (λ xs. xs ++ beside s (c.iter-2.result.rest.now)) c.iter.ensures.rest ∙ ap (λ ys. us ++ beside s ys) c.iter-2.ensures.rest in
    subst (λ xs. length xs < 18446744073709551616) (sym listed) (length-beside s us vs c.as_slice.ensures.small c.as_slice-2.ensures.small)

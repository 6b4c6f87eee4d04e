-- A stable sort puts the first of each id before its others, and a dedup keeps it: the same map, in order.
use Rattle.std.proofs.Common.{rules}
use Rattle.std.specs.List.Sorted.{IsSortedBy, IsStableBy}
use Rattle.std.proofs.lemmas.Fn.{dedup_same}
use Rattle.std.proofs.lemmas.List.Sorted.{answers_always, ranks_by}
use Rattle.cedar_replies.proofs.Sets.{text_total}
use Rattle.cedar_replies.proofs.Sorting.{Entry, is_below, same_id, kinds_kept, same_entries, entries_rise}
use Rattle.cedar_replies.proofs.erring.Erring.new.Goals as goal

pub invariant_of-result : goal.invariant_of-result
invariant_of-result c =
    let order = ranks_by text_total (λ (e : Entry). e.0) in
    let up : IsSortedBy is_below c.sort_by.new.self.items = c.in_ok-sort_by.ensures.sorted is_below order (answers_always _ _ _ (λ f a r q k. search rules)) in
    rw (dedup_same _ same_id _ (λ x y b f x' y' k. search rules) c.sort_by.new.self.items c.dedup_by.new.self.items c.dedup_by.ensures.filtered) (kinds_kept c.args.entries.items c.sort_by.new.self.items c.sort_by.ensures.permutation c.requires, entries_rise c.sort_by.new.self.items up)

pub returns : goal.returns
returns c =
    let order = ranks_by text_total (λ (e : Entry). e.0) in
    let stable : IsStableBy is_below c.args.entries.items c.sort_by.new.self.items = c.sort_by.ensures.stable is_below order (answers_always _ _ _ (λ f a r q k. search rules)) in
    rw (dedup_same _ same_id _ (λ x y b f x' y' k. search rules) c.sort_by.new.self.items c.dedup_by.new.self.items c.dedup_by.ensures.filtered) (same_entries c.args.entries.items c.sort_by.new.self.items c.sort_by.ensures.permutation stable c.requires)

-- Runs that are merged are the same ids, and so are those that a sort and a dedup leave, in order.
use Rattle.std.proofs.Common.{rules, ◌≡◌, ℕ, List, ◌++◌, length, take, drop, refl, ap, subst, ◌∙◌, sym}
use Rattle.std.proofs.Math.Seq.{take-append_seam}
use Rattle.std.specs.List.Sorted.{IsPermutation, IsStrictlySortedBy}
use Rattle.std.proofs.lemmas.List.Filters.{dedup_is}
use Rattle.cedar_world.specs.Orders.{text_cmp}
use Rattle.cedar_world.specs.Answer.{ids_of}
use Rattle.cedar_replies.proofs.Sets.{sorted_ids, moved_ids, ids_rise}
use Rattle.cedar_replies.proofs.policy_ids.PolicyIds.new.Goals as goal

-- what a vector holds once all of it is written
written : {X : Type 0} (n : ℕ) (xs ys : List X) → length ys ≡ n → take n (ys ++ drop (length ys) xs) ≡ ys
written n xs ys is = subst (λ m. take m (ys ++ drop (length ys) xs) ≡ ys) is (take-append_seam ys (drop (length ys) xs))

pub invariant_of-result : goal.invariant_of-result
invariant_of-result c = subst (IsStrictlySortedBy text_cmp) c.as_slice.ensures.value (c.if-rise.ensures refl)

pub returns-then-rise : goal.returns-then-rise
returns-then-rise c =
    let all : length c.merge_runs.new.ids ≡ c.args.ids.len = search rules in
    let merged : c.as_slice.result.now ≡ c.merge_runs.new.ids = c.as_slice.ensures.value ∙ written c.args.ids.len c.args.ids.items c.merge_runs.new.ids all in
    let same : IsPermutation c.args.ids.items c.merge_runs.new.ids = subst (λ ids. IsPermutation ids c.merge_runs.new.ids) c.as_mut_slice.ensures.value c.merge_runs.ensures.same in
    ap ids_of (sym c.as_slice.ensures.value ∙ merged) ∙ moved_ids _ _ same

pub invariant_of-result-2 : goal.invariant_of-result-2
invariant_of-result-2 c = rw (dedup_is _ _ _ c.dedup.ensures.filtered) (ids_rise _ c.sort_unstable.ensures.sorted)

pub returns : goal.returns
returns c =
    let all : length c.merge_runs.new.ids ≡ c.args.ids.len = search rules in
    let merged : c.as_slice.result.now ≡ c.merge_runs.new.ids = c.as_slice.ensures.value ∙ written c.args.ids.len c.args.ids.items c.merge_runs.new.ids all in
    let same : IsPermutation c.args.ids.items c.merge_runs.new.ids = subst (λ ids. IsPermutation ids c.merge_runs.new.ids) c.as_mut_slice.ensures.value c.merge_runs.ensures.same in
    rw (dedup_is _ _ _ c.dedup.ensures.filtered) (sorted_ids _ _ c.sort_unstable.ensures.permutation ∙ (ap ids_of (sym c.as_slice.ensures.value ∙ merged) ∙ moved_ids _ _ same))

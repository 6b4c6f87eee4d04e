-- The uids of both lists, sorted, are those of both sets.
use Rattle.std.proofs.Common.{◌≡◌, ◌++◌, ap, ◌∙◌}
use Rattle.std.specs.FinSet as set
use Rattle.std.proofs.lemmas.List.Elements.{same_from_all_zip}
use Rattle.cedar_language.specs.Order.{uid_cmp}
use Rattle.cedar_entities.proofs.UidSets.{joined}
use Rattle.cedar_entities.proofs.uid_lists.EntityUIDs.extend_sorted.Goals as goal

pub returns-clause-added : goal.returns-clause-added
returns-clause-added c =
    let us = c.args.uids.items in
    let appended = c.in_ok-extend_with_clones.ensures.items in
    let same : appended.0 ≡ c.as_slice.result.now = same_from_all_zip (λ x y. y ≡ x) c.as_slice.result.now appended.0 appended.2 (λ x y e. e) in
    c.drop.view_is ∙ c.in_ok-self-inside.ensures
    ∙ ap (λ vs. set.from_list {R = uid_cmp} vs) (appended.1 ∙ ap (λ vs. us ++ vs) same)
    ∙ joined us c.as_slice.result.now
    ∙ ap (λ s. set.union s (set.from_list us)) c.as_slice.ensures.listed

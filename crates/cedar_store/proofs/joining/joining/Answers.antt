-- New ids are apart from one another, so each is inserted at the end.
use Rattle.std.proofs.Common.{sym, ap, subst, ◌∙◌, rules}
use Rattle.std.specs.Map.{lookup}
use Rattle.cedar_language.specs.Uid.{Text}
use Rattle.cedar_language.specs.Order.{same_text}
use Rattle.cedar_policy_set.specs.Entries.{Entry}
use Rattle.cedar_policy_set.specs.Bounds.{bound_id, entry_of, seen}
use Rattle.cedar_store.proofs.Joins.{IsJoining, join_first, join_new}
use Rattle.cedar_store.proofs.joining.joining.Goals as goal

pub loop-bound-init : goal.loop-bound-init
loop-bound-init c = let first = (join_first c.args.mine.now c.args.theirs.now c.args.renaming.now c.requires c.len-theirs.ensures.whole.distinct).distinct in search rules

pub insert_into-requires : goal.insert_into-requires
insert_into-requires c =
    let mine = c.args.mine.now in
    let theirs = c.args.theirs.now in
    let r = c.args.renaming.now in
    let more = c.loop-bound.more in
    let e : Text × Entry = (bound_id c.in-Some.bound.now, entry_of c.in-Some.bound.now) in
    ap (λ k. lookup (same_text k) more) c.in_ok-renamed.ensures.id
    ∙ join_new mine theirs r e _ more (sym c.is_more.ensures ∙ c.if-is_more.true) (subst (λ es. IsJoining mine theirs r es more) (ap seen c.in-Some.ensures.steps) c.loop-bound.invariant.joins)

-- The insert adds the uid of the literal, and no other one.
use Rattle.std.proofs.Common.{◌≡◌, ◌∙◌}
use Rattle.std.specs.BTreeSet.{contains}
use Rattle.cedar_language.specs.Order.{uid_cmp}
use Rattle.cedar_values.proofs.Uids.{put_uid}
use Rattle.cedar_values.proofs.values.uids.gather_literal.Goals as goal

pub returns-in_ok-insert : goal.returns-in_ok-insert
returns-in_ok-insert c = λ u.
    let same : c.in_ok-clone.field-0 ≡ c.in-EntityUID.uid.value = c.in_ok-clone.ensures ∙ c.deref.ensures in
    rw c.in-EntityUID.is (c.in_ok-insert.ensures.updates.0 u ∙ rw same (put_uid c.in-EntityUID.uid.value u (contains uid_cmp c.args.uids.now u)))

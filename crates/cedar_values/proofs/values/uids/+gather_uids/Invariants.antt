use Rattle.std.proofs.Common.{◌≡◌, ◌||◌, drop}
use Rattle.std.specs.BTreeSet.{contains}
use Rattle.cedar_language.specs.Order.{all_of}
use Rattle.cedar_language.specs.Uid.{Uid}
use Rattle.cedar_language.specs.Order.{uid_cmp}
use Rattle.cedar_values.specs.Kinds.{values_of}
use Rattle.cedar_values.specs.Occurring.{occurs_among}
use Rattle.cedar_values.proofs.values.uids.+gather_uids.Given as goal

abbrev pub invariant-gather_fields-loop-key : goal.invariant-gather_fields-loop-key
invariant-gather_fields-loop-key l =
    goal.iterator-gather_fields-loop-key.can_next l._key-iterator ×
    goal.iterator-gather_fields-loop-key.is_finite l._key-iterator ×
    ((u : Uid) → (contains uid_cmp l.uids u || occurs_among (values_of l._key-iterator) u) ≡ (contains uid_cmp l.initial.uids u || occurs_among (values_of l.fields.entries) u))

abbrev pub invariant-gather_members-loop-member : goal.invariant-gather_members-loop-member
invariant-gather_members-loop-member l =
    (u : Uid) → (contains uid_cmp l.uids u || occurs_among (all_of (drop l.member-index l.member-items)) u) ≡ (contains uid_cmp l.initial.uids u || occurs_among (all_of l.set) u)

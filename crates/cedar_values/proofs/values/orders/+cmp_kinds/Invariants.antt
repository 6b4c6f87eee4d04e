use Rattle.std.proofs.Common.{◌≡◌, drop}
use Rattle.cedar_language.specs.Order.{all_of, code_all, nodes_cmp}
use Rattle.cedar_values.specs.Kinds.{values_of}
use Rattle.cedar_values.proofs.values.orders.+cmp_kinds.Given as goal

abbrev pub invariant-cmp_fields-loop-key : goal.invariant-cmp_fields-loop-key
invariant-cmp_fields-loop-key l =
    goal.iterator-cmp_fields-loop-key.can_next l._key-iterator ×
    goal.iterator-cmp_fields-loop-key.is_finite l._key-iterator ×
    (nodes_cmp (code_all (values_of l.a.entries)) (code_all (values_of l.b.entries)) ≡ nodes_cmp (code_all (values_of l._key-iterator)) (code_all (values_of l.others)))

abbrev pub invariant-cmp_sets-loop-x : goal.invariant-cmp_sets-loop-x
invariant-cmp_sets-loop-x l =
    nodes_cmp (code_all (all_of l.a)) (code_all (all_of l.b)) ≡ nodes_cmp (code_all (all_of (drop l.x-index l.x-items))) (code_all (all_of l.others.rest.now))

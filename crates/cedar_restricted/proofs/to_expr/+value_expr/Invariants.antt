use Rattle.std.proofs.Common.{◌≡◌, ◌+◌, ◌*◌, ◌++◌, ◌≤◌, map, drop}
use Rattle.cedar_language.specs.Order.{all_of}
use Rattle.cedar_trees.specs.Bare.{bare, bare_entries}
use Rattle.cedar_values.specs.Kinds.{value_of, values_of}
use Rattle.cedar_values.specs.Sizes.{weigh, weigh_all}
use Rattle.cedar_restricted.proofs.Rising.{texts}
use Rattle.cedar_restricted.proofs.Writing.{GoesOn}
use Rattle.cedar_restricted.proofs.to_expr.+value_expr.Given as goal

abbrev pub invariant-member_exprs-loop-member : goal.invariant-member_exprs-loop-member
invariant-member_exprs-loop-member l = GoesOn (all_of (drop l.member-index l.member-items)) (map bare l.exprs.items) (all_of l.set)

abbrev pub invariant-field_exprs-loop-key : goal.invariant-field_exprs-loop-key
invariant-field_exprs-loop-key l =
    goal.iterator-field_exprs-loop-key.can_next l.key-iterator ×
    goal.iterator-field_exprs-loop-key.is_finite l.key-iterator ×
    (texts l.exprs.entries ++ texts l.key-iterator ≡ texts l.fields.entries) ×
    (weigh_all (values_of l.key-iterator) ≤ weigh_all (values_of l.fields.entries)) ×
    GoesOn (values_of l.key-iterator) (map (λ e. e.1) (bare_entries l.exprs.entries)) (values_of l.fields.entries)

abbrev pub decreases-value_expr : goal.decreases-value_expr
decreases-value_expr l = 4 * weigh l.value.now + 1

abbrev pub decreases-kind_expr : goal.decreases-kind_expr
decreases-kind_expr l = 4 * weigh (value_of l.kind.now)

abbrev pub decreases-member_exprs : goal.decreases-member_exprs
decreases-member_exprs l = 4 * weigh_all (all_of l.set.now) + 2

abbrev pub decreases-field_exprs : goal.decreases-field_exprs
decreases-field_exprs l = 4 * weigh_all (values_of l.fields.now.entries) + 2

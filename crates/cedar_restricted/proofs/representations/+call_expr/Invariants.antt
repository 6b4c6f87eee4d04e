use Rattle.std.proofs.Common.{◌≡◌, ◌+◌, ◌*◌, ◌++◌, true, map, drop}
use Rattle.cedar_grammar.specs.Build.{trees}
use Rattle.cedar_trees.specs.Bare.{bare, bare_entries}
use Rattle.cedar_values.specs.Representations.{written, written_all, written_call}
use Rattle.cedar_restricted.specs.Expressing.{are_ground}
use Rattle.cedar_restricted.proofs.Rising.{texts}
use Rattle.cedar_restricted.proofs.Writing.{depth, depths}
use Rattle.cedar_restricted.proofs.representations.+call_expr.Given as goal

abbrev pub invariant-argument_exprs-loop-argument : goal.invariant-argument_exprs-loop-argument
invariant-argument_exprs-loop-argument l = record {
  written : map bare l.exprs.items ++ map written (drop l.argument-index l.arguments) ≡ map written l.arguments;
  ground : are_ground (trees (map bare l.exprs.items)) ≡ true;
}

abbrev pub invariant-field_exprs-loop-key : goal.invariant-field_exprs-loop-key
invariant-field_exprs-loop-key l =
    goal.iterator-field_exprs-loop-key.can_next l.key-iterator ×
    goal.iterator-field_exprs-loop-key.is_finite l.key-iterator ×
    (texts l.exprs.entries ++ texts l.key-iterator ≡ texts l.fields.entries) ×
    (map (λ e. e.1) (bare_entries l.exprs.entries) ++ map written (map (λ e. e.1) l.key-iterator) ≡ map written (map (λ e. e.1) l.fields.entries)) ×
    (are_ground (trees (map (λ e. e.1) (bare_entries l.exprs.entries))) ≡ true)

abbrev pub decreases-call_expr : goal.decreases-call_expr
decreases-call_expr l = 4 * depth (written_call l.value.now)

abbrev pub decreases-argument_expr : goal.decreases-argument_expr
decreases-argument_expr l = 4 * depth (written l.argument.now) + 1

abbrev pub decreases-argument_exprs : goal.decreases-argument_exprs
decreases-argument_exprs l = 4 * depths (written_all l.arguments.now) + 2

abbrev pub decreases-field_exprs : goal.decreases-field_exprs
decreases-field_exprs l = 4 * depths (written_all (map (λ e. e.1) l.fields.now.entries)) + 2

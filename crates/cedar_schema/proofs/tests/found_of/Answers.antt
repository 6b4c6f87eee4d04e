use Rattle.cedar_schema.proofs.Within.{within_if}
use Rattle.cedar_schema.proofs.tests.found_of.Goals as goal

-- src/tests.rt:270:11
pub order_by_targets-requires : goal.order_by_targets-requires
order_by_targets-requires c = within_if _ c.args.edges.now c.are_within.ensures c.if-not-are_within.false

-- Trees are compared by the nodes that stand for them: these have a total order, and no two trees have one node.
use Rattle.cedar_shapes.specs.ShapeLaws.{tree_cmp_total, tree_cmp_same}
use Rattle.cedar_shapes.proofs.shapes.shapes_are_ordered.Goals as goal

pub returns-clause-total : goal.returns-clause-total
returns-clause-total c = tree_cmp_total

pub returns-clause-same : goal.returns-clause-same
returns-clause-same c = tree_cmp_same

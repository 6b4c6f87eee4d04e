-- Past the end there are no edges, and no counts.
use Rattle.std.proofs.Common.{◌≡◌, length, arith}
use Rattle.cedar_schema.proofs.Walking.{counted}
use Rattle.cedar_schema.proofs.ordering.edge_counts.Goals as goal

pub returns : goal.returns
returns c =
    let inv = c.loop-targets.invariant in
    let all : length c.loop-targets.counts.items ≡ length c.args.edges.now = omega arith in
    (all, counted c.loop-targets.counts.items c.args.edges.now all (λ v h. inv.counts v (omega arith)))

-- Each node's policy goes behind those of the nodes before it.
use Rattle.std.proofs.Common.{map, take, refl, sym, subst}
use Rattle.cedar_cst.specs.View.{shown_policy}
use Rattle.cedar_policy_conversion.specs.Gathered.{AreGathered}
use Rattle.cedar_policy_conversion.proofs.Gathering.{seen_more}
use Rattle.cedar_policy_conversion.proofs.sets.set_of.Goals as goal

pub loop-node-init : goal.loop-node-init
loop-node-init c = c.new-policies.ensures c.args.styles.now

pub loop-node-preserved : goal.loop-node-preserved
loop-node-preserved c =
    let nodes = c.args.nodes.now in
    let n = c.loop-node.node-index in
    let more = seen_more shown_policy nodes nodes n c.node-item.result refl c.loop-node-test.true c.node-item.is in
    subst (λ ps. AreGathered c.args.styles.now ps c.with-policies.result) (sym more) (c.with-policies.ensures (map shown_policy (take n nodes)) c.loop-node.invariant)

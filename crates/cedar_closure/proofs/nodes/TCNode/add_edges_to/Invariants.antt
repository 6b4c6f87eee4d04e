-- The keys still to come and the edges so far lead where all keys and the edges before do; no edge is lost.
use Rattle.std.proofs.Common.{◌++◌, IsTrue}
use Rattle.std.specs.Set.{is_member}
use Rattle.cedar_closure.specs.Graph.{SameKeys}
use Rattle.cedar_closure.proofs.nodes.TCNode.add_edges_to.Given as goal

abbrev pub invariant-loop-key : goal.invariant-loop-key
invariant-loop-key g l = record {
  added : SameKeys g.K.PartialEq.eq (l.fn.keys.items ++ g.Self.TCNode.edges l.fn.self) (l.key-iterator.rest.items ++ g.Self.TCNode.edges l.self);
  kept : (q : g.row.K.Denot) → IsTrue (is_member g.K.PartialEq.eq (g.Self.TCNode.edges l.fn.self) q) → IsTrue (is_member g.K.PartialEq.eq (g.Self.TCNode.edges l.self) q);
  same : g.Self.TCNode.is_same l.fn.self l.self;
}

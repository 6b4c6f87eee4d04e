use Rattle.std.proofs.Common.{IsTrue, ◌||◌, map}
use Rattle.std.specs.Set.{is_member}
use Rattle.std.specs.Map.Iter.{deref}
use Rattle.cedar_closure.proofs.enforcing.find_missing.Given as goal

abbrev pub invariant-loop-grandparent : goal.invariant-loop-grandparent
invariant-loop-grandparent g l =
    let eq = g.K.PartialEq.eq in
    let edges = g.V.TCNode.edges in
    record {
      left : (q : g.row.K.Denot) → IsTrue (is_member eq (edges l.parent) q) → IsTrue (is_member eq (edges l.child) q || is_member eq (map deref l.grandparent-iterator.rest.items) q);
      known : (q : g.row.K.Denot) → IsTrue (is_member eq (map deref l.grandparent-iterator.rest.items) q) → IsTrue (is_member eq (edges l.parent) q);
    }

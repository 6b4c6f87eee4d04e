-- The clone of a missing key is missing as well.
use Rattle.std.proofs.Common.{IsTrue, map, ap, ◌∙◌}
use Rattle.std.specs.Set.{is_member}
use Rattle.std.specs.Map.Iter.{deref}
use Rattle.cedar_closure.proofs.Members.{missing_alike, or_more}
use Rattle.cedar_closure.proofs.enforcing.find_missing.Goals as goal

pub returns-then-not-has_edge_to-clause-found : goal.returns-then-not-has_edge_to-clause-found
returns-then-not-has_edge_to-clause-found g c =
    let eq = g.K.PartialEq.eq in
    let laws = g.met.K.Eq.laws in
    let x = c.in-Some.grandparent.now in
    let k = c.in_ok-clone.field-0 in
    let clone : IsTrue (eq x k) = c.requires x k c.in_ok-clone.ensures.cases in
    let left = ap (λ ys. is_member eq (map deref ys) x) c.in-Some.ensures.steps.0 in
    missing_alike laws (g.V.TCNode.edges c.args.parent.now) (g.V.TCNode.edges c.args.child.now) x k clone (c.loop-grandparent.invariant.known x (left ∙ or_more _ _ (laws.refl x))) c.if-not-has_edge_to.ensures

-- The keys listed are the map's.
use Rattle.std.proofs.Common.{◌++◌, map, sym, ap, ◌∙◌, append-nil}
use Rattle.std.specs.Set.{is_member}
use Rattle.std.specs.Map.Iter.{deref}
use Rattle.cedar_closure.specs.GraphLaws.{hash_has_node}
use Rattle.cedar_closure.proofs.hashed_graphs.HashMapTCGraph.list_keys.Goals as goal

pub returns : goal.returns
returns g c = λ q.
    let m = c.args.self.now in
    let listed = map (deref {X = g.row.K.Denot}) c.loop-key.listed.items in
    let all = sym (append-nil listed) ∙ ap (λ ys. listed ++ ys) (sym c.in-None.ensures.steps.0) ∙ c.loop-key.invariant in
    ap (λ ys. is_member g.K.PartialEq.eq ys q) all ∙ hash_has_node g.K.PartialEq.eq m q

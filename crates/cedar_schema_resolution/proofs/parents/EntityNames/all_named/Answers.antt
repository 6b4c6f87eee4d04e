-- One more is found, or isn't declared.
use Rattle.std.proofs.Common.{◌≡◌, ◌<◌, ◌≤◌, length, get_or, arith, subst}
use Rattle.std.proofs.lemmas.List.{take_all}
use Rattle.cedar_schema_syntax.specs.View.{paths_view}
use Rattle.cedar_schema_resolution.specs.Parents.{all_named}
use Rattle.cedar_schema_resolution.proofs.Parenting.{one_found}
use Rattle.cedar_schema_resolution.proofs.parents.EntityNames.all_named.Goals as goal

pub loop-path-preserved : goal.loop-path-preserved
loop-path-preserved c =
    let low : c.loop-path.path-index < length c.args.paths.now = omega arith in
    let here : c.path-item.result ≡ get_or c.args.paths.now c.loop-path.path-index c.path-item.result = cc in
    record {
      found = one_found c.args.self.now c.args.namespace.now c.args.paths.now c.loop-path.path-index c.path-item.result c.loop-path.found.items
          c.add_named.new.found.items low here c.loop-path.invariant.found c.in_ok-add_named.ensures;
    }

pub returns : goal.returns
returns c =
    let past : length c.args.paths.now ≤ c.loop-path.path-index = omega arith in
    subst (λ ps. c.loop-path.found.items ≡ all_named c.args.self.now c.args.namespace.now (paths_view ps))
    (take_all c.loop-path.path-index c.args.paths.now past)
    c.loop-path.invariant.found

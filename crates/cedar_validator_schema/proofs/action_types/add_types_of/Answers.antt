-- An edge leads to the type of one group more.
use Rattle.std.proofs.Common.{◌≡◌, ◌+◌, ◌<◌, ◌&&◌, ◌||◌, ◌∷◌, [], ◌++◌, length, take, rules, sym, ap, ◌∙◌, arith}
use Rattle.std.specs.List.{list_any}
use Rattle.std.proofs.lemmas.List.{take_more}
use Rattle.cedar_language.specs.Order.{same_name, name_cmp}
use Rattle.cedar_validator_schema.specs.Hierarchies.{leads}
use Rattle.cedar_validator_schema.proofs.Leading.{one_edge, next_group}
use Rattle.cedar_validator_schema.proofs.action_types.add_types_of.Goals as goal

pub loop-group-preserved : goal.loop-group-preserved
loop-group-preserved c =
    let low : c.loop-group.group-index < length c.args.groups.now = omega arith in
    let i = c.loop-group.group-index in
    let w = c.group-item.result in
    let cut : take (i + 1) c.args.groups.now ≡ take i c.args.groups.now ++ w ∷ []
    = take_more c.args.groups.now i w low ∙ ap (λ y. take i c.args.groups.now ++ y ∷ []) (sym c.group-item.is) in
    let from : c.in_ok-copy.copy ≡ c.args.from.now = search rules in
    let to : c.in_ok-to.to ≡ c.group-item.result.type_name = search rules in
    let old = c.loop-group.parents in
    record {
      leads = λ n m. next_group c.args.from.now n m (leads same_name name_cmp c.args.parents.now n m) (leads same_name name_cmp old n m)
          (leads same_name name_cmp c.add.new.self n m) (take i c.args.groups.now) w (c.loop-group.invariant.leads n m)
          (one_edge c.in_ok-copy.copy c.in_ok-to.to old c.add.new.self c.in_ok-add.ensures n m
          ∙ ap (λ k. leads same_name name_cmp old n m || (same_name k n && same_name c.in_ok-to.to m)) from
          ∙ ap (λ k. leads same_name name_cmp old n m || (same_name c.args.from.now n && same_name k m)) to)
          ∙ ap (λ ws. leads same_name name_cmp c.args.parents.now n m || (same_name c.args.from.now n && list_any
          (λ x. same_name x.type_name m) ws)) (sym cut);
    }

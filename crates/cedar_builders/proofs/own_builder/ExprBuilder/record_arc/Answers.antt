-- A tree is that of its kind: the kind of a record has the tree of its entries.
use Rattle.std.proofs.Common.{◌∙◌, ap}
use Rattle.cedar_trees.specs.Bare.{bare_kind}
use Rattle.cedar_trees.proofs.Bares.{bare_is, bare-Record}
use Rattle.cedar_builders.proofs.own_builder.ExprBuilder.record_arc.Goals as goal

pub returns : goal.returns
returns g c =
    bare_is g.row.T.Denot c.with_expr_kind.result
    ∙ ap (λ e. bare_kind e.expr_kind) c.with_expr_kind.ensures
    ∙ bare-Record g.row.T.Denot c.args.entries

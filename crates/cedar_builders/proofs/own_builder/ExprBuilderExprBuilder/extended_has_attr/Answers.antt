-- A path is made by one construct, whose tree is the test of one attribute after another, as it is written.
use Rattle.std.proofs.Common.{◌∙◌, ap, sym, map}
use Rattle.std.specs.Prelude.{Ok}
use Rattle.std.specs.Rc.{rc_str_bytes}
use Rattle.cedar_trees.specs.Bare.{bare, bare_kind}
use Rattle.cedar_trees.proofs.Bares.{bare_is}
use Rattle.cedar_builders.proofs.Paths.{path_has}
use Rattle.cedar_builders.proofs.own_builder.ExprBuilderExprBuilder.extended_has_attr.Goals as goal

pub returns : goal.returns
returns c =
    ap Ok
    (path_has (rc_str_bytes c.args.attrs.head) (map rc_str_bytes c.args.attrs.tail.items) (bare c.args.expr)
    ∙ sym c.in_ok-kind.ensures
    ∙ sym (ap (λ e. bare_kind e.expr_kind) c.with_expr_kind.ensures)
    ∙ sym (bare_is _ c.with_expr_kind.result))

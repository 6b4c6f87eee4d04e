-- A record's bare tree is made of its entries.
use Rattle.std.proofs.Common.{◌∙◌}
use Rattle.cedar_trees.proofs.Bares.{bare-Record}
use Rattle.cedar_trees.proofs.constructors.Expr.record_arc.Goals as goal

pub returns : goal.returns
returns c = c.of_kind.ensures ∙ bare-Record _ c.args.entries

-- Operands with the operator before each.
use Rattle.cedar_grammar.specs.Loose as loose
use Rattle.cedar_cst.specs.declared.node.Node.{Node}
use Rattle.std.specs.Prelude.{Option}
use Rattle.cedar_cst.specs.declared.leaves.RelOp.{RelOp}
use Rattle.cedar_cst.specs.declared.leaves.AddOp.{AddOp}
use Rattle.cedar_cst.specs.declared.leaves.MultOp.{MultOp}
use Rattle.cedar_cst.specs.LeafView.{view_rel_op, view_add_op, view_mult_op}
use Rattle.cedar_cst.specs.declared.cst.Add.{Add}
use Rattle.cedar_cst.specs.declared.cst.Mult.{Mult}
use Rattle.cedar_cst.specs.declared.cst.Unary.{Unary}
use Rattle.cedar_cst.specs.View.{shown_add, shown_mult, shown_unary}

abbrev pub linked_add : RelOp × Node (Option Add) → loose.RelOp × loose.Add
linked_add x = (view_rel_op x.0, shown_add x.1)

abbrev pub linked_mult : AddOp × Node (Option Mult) → loose.AddOp × loose.Mult
linked_mult x = (view_add_op x.0, shown_mult x.1)

abbrev pub linked_unary : MultOp × Node (Option Unary) → loose.MultOp × loose.Unary
linked_unary x = (view_mult_op x.0, shown_unary x.1)

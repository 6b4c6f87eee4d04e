-- A part that doesn't offend itself offends where its parts do; those of a record are its entries' expressions.
use Rattle.std.proofs.Common.{◌∙◌, ap, sym, BTreeMap, Global}
use Rattle.std.specs.declared.rc.RcStr.{RcStr}
use Rattle.cedar_trees.specs.declared.expr.Expr.{Expr}
use Rattle.cedar_restricted.proofs.Offending.{below_record}
use Rattle.cedar_restricted.proofs.offences.+first_offence.Goals as goal

pub first_offence_below-returns-in-Record : goal.first_offence_below-returns-in-Record
first_offence_below-returns-in-Record t c = c.first_offence_in.ensures ∙ sym (below_record c.args.expr.now c.in-Record.entries c.deref-in-Record.result.now.entries c.in-Record.is (ap (λ (m : BTreeMap (RcStr Global) (Expr (Unit {0}))). m.entries) c.deref-in-Record.ensures))

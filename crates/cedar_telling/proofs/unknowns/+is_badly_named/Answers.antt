-- What is badly named in a record is so in a tree that stands beside one of its keys.
use Rattle.std.proofs.Common.{◌∙◌, ap, sym, BTreeMap, Global}
use Rattle.std.specs.declared.rc.RcStr.{RcStr}
use Rattle.cedar_trees.specs.declared.expr.Expr.{Expr}
use Rattle.cedar_telling.proofs.Named.{record_names}
use Rattle.cedar_telling.proofs.unknowns.+is_badly_named.Goals as goal

pub is_badly_named-returns-in-Record : goal.is_badly_named-returns-in-Record
is_badly_named-returns-in-Record t c = c.some_entry_is_badly_named.ensures ∙ sym (record_names c.args.expr.now c.in-Record.entries c.deref-in-Record.result.now.entries c.in-Record.is (ap (λ (m : BTreeMap (RcStr Global) (Expr (Unit {0}))). m.entries) c.deref-in-Record.ensures))

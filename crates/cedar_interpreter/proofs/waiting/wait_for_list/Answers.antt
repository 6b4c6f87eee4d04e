-- The record of what is left of its parts.
use Rattle.std.proofs.Common.{◌∙◌, refl, ap, sym, subst, map, length, BTreeMap, Global}
use Rattle.std.specs.declared.rc.RcStr.{RcStr}
use Rattle.cedar_language.specs.Tree.{MakeRecord}
use Rattle.cedar_grammar.specs.Build.{trees, keys}
use Rattle.cedar_trees.specs.Bare.{bare, bare_entries}
use Rattle.cedar_trees.specs.declared.expr.Expr.{Expr}
use Rattle.cedar_interpreter.proofs.Left.{Waits, wait_as, record_is, record_count}
use Rattle.cedar_interpreter.proofs.waiting.wait_for_list.Goals as goal

pub wait_for_entries-requires : goal.wait_for_entries-requires
wait_for_entries-requires c =
    record_count c.args.expr.now c.in-Record.entries c.in-Record.is (length c.args.parts.items) c.requires.count
    ∙ ap (λ (m : BTreeMap (RcStr Global) (Expr (Unit {0}))). length m.entries) (sym c.deref.ensures)

pub returns-in-Record : goal.returns-in-Record
returns-in-Record c =
    let entries = c.in-Record.entries.value.entries in
    wait_as (bare c.args.expr.now) (MakeRecord (keys (bare_entries entries))) (trees (map (λ e. e.1) (bare_entries entries))) c.args.parts.items c.args.parts.items c.wait_for_entries.result
    (record_is c.args.expr.now c.in-Record.entries c.in-Record.is) refl
    (subst (λ (m : BTreeMap (RcStr Global) (Expr (Unit {0}))). Waits (MakeRecord (keys (bare_entries m.entries))) c.args.parts.items c.wait_for_entries.result) c.deref.ensures c.wait_for_entries.ensures)

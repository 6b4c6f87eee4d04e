-- The record, by the keys of its entries.
use Rattle.std.proofs.Common.{◌∙◌, ap, sym, length, BTreeMap, Global}
use Rattle.std.specs.declared.rc.RcStr.{RcStr}
use Rattle.cedar_language.specs.Order.{all_of}
use Rattle.cedar_language.specs.Value.{RecordOf, Gives}
use Rattle.cedar_grammar.specs.Build.{keys}
use Rattle.cedar_trees.specs.Bare.{bare_entries}
use Rattle.cedar_trees.specs.declared.expr.Expr.{Expr}
use Rattle.cedar_interpreter.specs.Operating.{applied_in}
use Rattle.cedar_interpreter.proofs.Left.{record_is, record_count}
use Rattle.cedar_interpreter.proofs.applying.collected.Goals as goal

pub record_of-requires : goal.record_of-requires
record_of-requires c =
    record_count c.args.expr.now c.in-Record.entries c.in-Record.is (length c.args.values.items) c.requires.count
    ∙ ap (λ (m : BTreeMap (RcStr Global) (Expr (Unit {0}))). length m.entries) (sym c.deref.ensures)

pub returns-in_ok-record_of-in-Record-clause-found : goal.returns-in_ok-record_of-in-Record-clause-found
returns-in_ok-record_of-in-Record-clause-found c =
    λ facts.
    ap (λ t. applied_in facts t (all_of c.args.values.items)) (record_is c.args.expr.now c.in-Record.entries c.in-Record.is)
    ∙ sym (ap Gives (c.in_ok-record_of-in-Record.ensures ∙ ap (λ (m : BTreeMap (RcStr Global) (Expr (Unit {0}))). RecordOf (keys (bare_entries m.entries)) (all_of c.args.values.items)) c.deref.ensures))

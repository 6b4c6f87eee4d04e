-- What stands in a tree is what its kind names.
use Rattle.std.proofs.Common.{◌∙◌, ◌||◌, ap, sym, map, BTreeMap, Global}
use Rattle.std.proofs.lemmas.Result.{on_ok_weaker}
use Rattle.std.specs.List.{list_any}
use Rattle.std.specs.declared.rc.RcStr.{RcStr}
use Rattle.cedar_grammar.specs.Build.{trees}
use Rattle.cedar_trees.specs.Bare.{bare}
use Rattle.cedar_trees.specs.declared.expr.Expr.{Expr}
use Rattle.cedar_telling.proofs.Gathered.{by_call, by_unknown}
use Rattle.cedar_telling.proofs.WrittenNames.{record_stands}
use Rattle.cedar_telling.proofs.asked_names.+push_names.Goals as goal

pub push_call-returns-in-Some : goal.push_call-returns-in-Some
push_call-returns-in-Some t c = on_ok_weaker c.push_name.result (λ adds test.
    adds test
    ∙ ap (λ b. list_any test (map (λ n. n.now) c.args.names.now.items) || b)
    (ap test c.deref.ensures.value
    ∙ sym (by_call test c.args.function.now (trees (map bare c.args.args.now)) _ (sym c.is_unknown.ensures ∙ c.if-is_unknown.true) (sym c.in-Some.ensures)))) c.push_name.ensures

pub push_names-returns-in-Unknown : goal.push_names-returns-in-Unknown
push_names-returns-in-Unknown t c = on_ok_weaker c.push_name.result (λ adds test.
    adds test
    ∙ ap (λ b. list_any test (map (λ n. n.now) c.args.names.now.items) || b)
    (ap test c.deref.ensures.value ∙ sym (by_unknown test c.args.expr.now c.in-Unknown.unknown c.in-Unknown.is))) c.push_name.ensures

pub push_names-returns-in-Record : goal.push_names-returns-in-Record
push_names-returns-in-Record t c = on_ok_weaker c.push_entries.result (λ adds test.
    adds test
    ∙ ap (λ b. list_any test (map (λ n. n.now) c.args.names.now.items) || b)
    (sym (record_stands test c.args.expr.now c.in-Record.entries c.deref-in-Record.result.now.entries c.in-Record.is (ap (λ (m : BTreeMap (RcStr Global) (Expr (Unit {0}))). m.entries) c.deref-in-Record.ensures)))) c.push_entries.ensures

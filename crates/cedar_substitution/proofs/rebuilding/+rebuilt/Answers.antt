-- A chain of first parts is built from its end, each construct around what is built of its first part.
use Rattle.std.proofs.Common.{◌≡◌, ◌≤◌, ◌∙◌, ap, sym, refl, subst, [], ◌∷◌, ◌++◌, map, drop, arith, rules, Vec, BTreeMap, Global}
use Rattle.std.specs.Prelude.{Ok, true}
use Rattle.std.specs.Option.{is_some}
use Rattle.std.specs.Rc.{rc_str_bytes}
use Rattle.std.specs.declared.rc.RcStr.{RcStr}
use Rattle.std.proofs.lemmas.List.{map-append}
use Rattle.std.proofs.lemmas.List.Elements.{All-push, All-take}
use Rattle.std.proofs.lemmas.Grind.{common_steps}
use denote.Ref.{Bor}
use Rattle.cedar_grammar.specs.Build.{trees, keys}
use Rattle.cedar_trees.specs.Bare.{bare, bare_entries}
use Rattle.cedar_trees.specs.declared.expr.Expr.{Expr, size-Expr}
use Rattle.cedar_builders.specs.Operations.{◌>>=◌, made_all}
use Rattle.cedar_substitution.specs.Chains.{first_of, with_built, chained, chain_of}
use Rattle.cedar_substitution.proofs.Giving.{after, refused, passes, gives, starts, all_first, all_step, all_end, zip_pairs, cut_at, keys_step}
use Rattle.cedar_substitution.proofs.Chaining.{all_last, chain_down, chain_up, chain_up_refused, end_refused}
use Rattle.cedar_substitution.proofs.Nodes.{node-Lit, node-Var, node-Slot, node-Unknown, node-ExtensionFunctionApp, node-Set, node-Record, fill-If, fill-And, fill-Or, fill-UnaryApp, fill-BinaryApp, fill-GetAttr, fill-HasAttr, fill-ExtHasAttr, fill-Like, fill-Is}
use Rattle.cedar_grammar.specs.Names.{are_distinct}
use Rattle.cedar_substitution.specs.Rising.{AllRiseWhere, RecordsRise}
use Rattle.cedar_substitution.proofs.Regular.{gives_rising, passes_rising, rising_to, texts_rise, pair_keys, rising_are_distinct, rise_joined, put_rests, take_rests, more_rise, none_rise, no_rests, rise-Lit, rise-Var, rise-Slot, rise-Unknown, rise-ExtensionFunctionApp, rise-Set, rise-Record, rest-If, rest-And, rest-Or, rest-UnaryApp, rest-BinaryApp, rest-GetAttr, rest-HasAttr, rest-ExtHasAttr, rest-Like, rest-Is}
use Rattle.cedar_substitution.proofs.rebuilding.+rebuilt.Goals as goal

pub rebuilt_end-returns-in_ok-clone-in-Lit-clause-built : goal.rebuilt_end-returns-in_ok-clone-in-Lit-clause-built
rebuilt_end-returns-in_ok-clone-in-Lit-clause-built g t c = gives g.B.ExprBuilder.meaning g.B.ExprBuilder.refusal c.val.result _ _ (node-Lit g.B.ExprBuilder.operations (with_built g.B.ExprBuilder.operations (g.U.Replacement.replaced c.args.unknowns.now)) c.args.expr.now _ c.in-Lit.is ∙ ap (λ l. Ok (g.B.ExprBuilder.operations.val l)) (sym c.in_ok-clone-in-Lit.ensures.cases)) c.val.ensures

pub rebuilt_end-returns-in-Var-clause-built : goal.rebuilt_end-returns-in-Var-clause-built
rebuilt_end-returns-in-Var-clause-built g t c = gives g.B.ExprBuilder.meaning g.B.ExprBuilder.refusal c.var.result _ _ (node-Var g.B.ExprBuilder.operations (with_built g.B.ExprBuilder.operations (g.U.Replacement.replaced c.args.unknowns.now)) c.args.expr.now _ c.in-Var.is) c.var.ensures

pub rebuilt_end-returns-in-Slot-clause-built : goal.rebuilt_end-returns-in-Slot-clause-built
rebuilt_end-returns-in-Slot-clause-built g t c = gives g.B.ExprBuilder.meaning g.B.ExprBuilder.refusal c.slot.result _ _ (node-Slot g.B.ExprBuilder.operations (with_built g.B.ExprBuilder.operations (g.U.Replacement.replaced c.args.unknowns.now)) c.args.expr.now _ c.in-Slot.is) c.slot.ensures

pub rebuilt_end-returns-in-Unknown-clause-built : goal.rebuilt_end-returns-in-Unknown-clause-built
rebuilt_end-returns-in-Unknown-clause-built g t c = gives g.B.ExprBuilder.meaning g.B.ExprBuilder.refusal c.build_unknown.result _ _ (node-Unknown g.B.ExprBuilder.operations (with_built g.B.ExprBuilder.operations (g.U.Replacement.replaced c.args.unknowns.now)) c.args.expr.now _ c.in-Unknown.is) c.build_unknown.ensures.built

pub rebuilt_end-returns-in_ok-clone-in-ExtensionFunctionApp-clause-built : goal.rebuilt_end-returns-in_ok-clone-in-ExtensionFunctionApp-clause-built
rebuilt_end-returns-in_ok-clone-in-ExtensionFunctionApp-clause-built g t c = gives g.B.ExprBuilder.meaning g.B.ExprBuilder.refusal c.call_extension_fn.result _ _ (after _ (node-ExtensionFunctionApp g.B.ExprBuilder.operations (with_built g.B.ExprBuilder.operations (g.U.Replacement.replaced c.args.unknowns.now)) c.args.expr.now _ _ c.deref-in-ExtensionFunctionApp.result.now c.in-ExtensionFunctionApp.is (c.deref-in-ExtensionFunctionApp.ensures.value ∙ ap (λ (v : Vec (Expr g.row.T.Denot) Global). v.items) c.deref.ensures)) c.in_ok-args-in-ExtensionFunctionApp.ensures.built ∙ ap (λ f. g.B.ExprBuilder.operations.call f (map g.B.ExprBuilder.meaning c.in_ok-args-in-ExtensionFunctionApp.args.items)) (sym c.in_ok-clone-in-ExtensionFunctionApp.ensures)) c.call_extension_fn.ensures

pub rebuilt_end-returns-in_ok-items-in-Set-clause-built : goal.rebuilt_end-returns-in_ok-items-in-Set-clause-built
rebuilt_end-returns-in_ok-items-in-Set-clause-built g t c = gives g.B.ExprBuilder.meaning g.B.ExprBuilder.refusal c.set.result _ _ (after _ (node-Set g.B.ExprBuilder.operations (with_built g.B.ExprBuilder.operations (g.U.Replacement.replaced c.args.unknowns.now)) c.args.expr.now _ c.deref-in-Set-2.result.now c.in-Set.is (c.deref-in-Set-2.ensures.value ∙ ap (λ (v : Vec (Expr g.row.T.Denot) Global). v.items) c.deref-in-Set.ensures)) c.in_ok-items-in-Set.ensures.built) c.set.ensures

pub rebuilt_end-returns-in_ok-pairs-in-Record-clause-built : goal.rebuilt_end-returns-in_ok-pairs-in-Record-clause-built
rebuilt_end-returns-in_ok-pairs-in-Record-clause-built g t c = gives g.B.ExprBuilder.meaning g.B.ExprBuilder.refusal c.record.result _ _ (after _ (node-Record g.B.ExprBuilder.operations (with_built g.B.ExprBuilder.operations (g.U.Replacement.replaced c.args.unknowns.now)) c.args.expr.now _ c.deref-in-Record.result.now.entries c.in-Record.is (ap (λ (m : BTreeMap (RcStr Global) (Expr g.row.T.Denot)). m.entries) c.deref-in-Record.ensures)) c.in_ok-pairs-in-Record.ensures.built ∙ ap g.B.ExprBuilder.operations.record_of (zip_pairs (λ p. rc_str_bytes p.0) (λ p. g.B.ExprBuilder.meaning p.1) c.in_ok-pairs-in-Record.pairs.items _ c.in_ok-pairs-in-Record.ensures.keys)) c.record.ensures

pub rebuilt_end-returns-in_err-args-in-ExtensionFunctionApp-clause-built : goal.rebuilt_end-returns-in_err-args-in-ExtensionFunctionApp-clause-built
rebuilt_end-returns-in_err-args-in-ExtensionFunctionApp-clause-built g t c = passes g.B.ExprBuilder.meaning g.B.ExprBuilder.refusal c.in_err-args-in-ExtensionFunctionApp.field-0.0 c.from_residual-in_err-args-in-ExtensionFunctionApp.result _ _ (refused _ (node-ExtensionFunctionApp g.B.ExprBuilder.operations (with_built g.B.ExprBuilder.operations (g.U.Replacement.replaced c.args.unknowns.now)) c.args.expr.now _ _ c.deref-in-ExtensionFunctionApp.result.now c.in-ExtensionFunctionApp.is (c.deref-in-ExtensionFunctionApp.ensures.value ∙ ap (λ (v : Vec (Expr g.row.T.Denot) Global). v.items) c.deref.ensures))) c.from_residual-in_err-args-in-ExtensionFunctionApp.ensures c.in_err-args-in-ExtensionFunctionApp.ensures.built

pub rebuilt_end-returns-in_err-items-in-Set-clause-built : goal.rebuilt_end-returns-in_err-items-in-Set-clause-built
rebuilt_end-returns-in_err-items-in-Set-clause-built g t c = passes g.B.ExprBuilder.meaning g.B.ExprBuilder.refusal c.in_err-items-in-Set.field-0.0 c.from_residual-in_err-items-in-Set.result _ _ (refused _ (node-Set g.B.ExprBuilder.operations (with_built g.B.ExprBuilder.operations (g.U.Replacement.replaced c.args.unknowns.now)) c.args.expr.now _ c.deref-in-Set-2.result.now c.in-Set.is (c.deref-in-Set-2.ensures.value ∙ ap (λ (v : Vec (Expr g.row.T.Denot) Global). v.items) c.deref-in-Set.ensures))) c.from_residual-in_err-items-in-Set.ensures c.in_err-items-in-Set.ensures.built

pub rebuilt_end-returns-in_err-pairs-in-Record-clause-built : goal.rebuilt_end-returns-in_err-pairs-in-Record-clause-built
rebuilt_end-returns-in_err-pairs-in-Record-clause-built g t c = passes g.B.ExprBuilder.meaning g.B.ExprBuilder.refusal c.in_err-pairs-in-Record.field-0.0 c.from_residual-in_err-pairs-in-Record.result _ _ (refused _ (node-Record g.B.ExprBuilder.operations (with_built g.B.ExprBuilder.operations (g.U.Replacement.replaced c.args.unknowns.now)) c.args.expr.now _ c.deref-in-Record.result.now.entries c.in-Record.is (ap (λ (m : BTreeMap (RcStr Global) (Expr g.row.T.Denot)). m.entries) c.deref-in-Record.ensures))) c.from_residual-in_err-pairs-in-Record.ensures c.in_err-pairs-in-Record.ensures.built

pub rebuilt_items-loop-item-init : goal.rebuilt_items-loop-item-init
rebuilt_items-loop-item-init g t c = (starts _ _ (ap (map g.B.ExprBuilder.meaning) c.new-built.ensures.items), λ h. h)

pub rebuilt_items-loop-item-preserved : goal.rebuilt_items-loop-item-preserved
rebuilt_items-loop-item-preserved g t c =
    let more : c.push.new.self.items ≡ c.loop-item.built.items ++ c.in_ok-item.item ∷ [] = search rules in (
      all_step g.B.ExprBuilder.operations (with_built g.B.ExprBuilder.operations (g.U.Replacement.replaced c.args.unknowns.now)) _ _ _ (bare c.item-item.result) _ _ c.loop-item.invariant.0 (ap (map bare) (cut_at c.args.items.now c.loop-item.item-index c.item-item.result c.loop-item-test.true c.item-item.is)) c.in_ok-item.ensures.built (ap (map g.B.ExprBuilder.meaning) more ∙ map-append g.B.ExprBuilder.meaning _ _),
      λ h. c.loop-item.invariant.1 (more_rise (λ n ty. RecordsRise (g.U.Replacement.replaced c.args.unknowns.now n ty)) _ _ (bare c.item-item.result) (ap (map bare) (cut_at c.args.items.now c.loop-item.item-index c.item-item.result c.loop-item-test.true c.item-item.is)) c.in_ok-item.ensures.rising h),
    )

pub rebuilt_items-returns-clause-built : goal.rebuilt_items-returns-clause-built
rebuilt_items-returns-clause-built g t c =
    let none : drop c.loop-item.item-index c.args.items.now ≡ [] = grind (arith, common_steps) in
    all_end g.B.ExprBuilder.operations (with_built g.B.ExprBuilder.operations (g.U.Replacement.replaced c.args.unknowns.now)) _ _ c.loop-item.invariant.0 (ap (map bare) none)

pub rebuilt_items-returns-in_err-item-clause-built : goal.rebuilt_items-returns-in_err-item-clause-built
rebuilt_items-returns-in_err-item-clause-built g t c = passes (λ v. map g.B.ExprBuilder.meaning v.items) g.B.ExprBuilder.refusal c.in_err-item.field-0.0 c.from_residual.result _ _ (refused _ (all_first g.B.ExprBuilder.operations (with_built g.B.ExprBuilder.operations (g.U.Replacement.replaced c.args.unknowns.now)) _ (bare c.item-item.result) _ _ c.loop-item.invariant.0 (ap (map bare) (cut_at c.args.items.now c.loop-item.item-index c.item-item.result c.loop-item-test.true c.item-item.is)))) c.from_residual.ensures c.in_err-item.ensures.built

pub rebuilt_entries-loop-key-init : goal.rebuilt_entries-loop-key-init
rebuilt_entries-loop-key-init g t c =
    let same : c.into_iter-key-iterator.result ≡ c.args.entries.now.entries = search rules in (
      tt,
      tt,
      starts _ _ (ap (map (λ p. g.B.ExprBuilder.meaning p.1)) c.new-built.ensures.items) ∙ ap (λ es. made_all g.B.ExprBuilder.operations (with_built g.B.ExprBuilder.operations (g.U.Replacement.replaced c.args.unknowns.now)) (trees (map (λ e. e.1) (bare_entries es))) >>= λ ys. Ok (map (λ p. g.B.ExprBuilder.meaning p.1) c.new-built.result.items ++ ys)) (sym same),
      ap (λ es. keys (bare_entries es)) (sym same) ∙ ap (λ ps. map (λ p. rc_str_bytes p.0) ps ++ keys (bare_entries c.into_iter-key-iterator.result)) (sym c.new-built.ensures.items),
      λ h. subst (λ es. AllRiseWhere (λ n ty. RecordsRise (g.U.Replacement.replaced c.args.unknowns.now n ty)) (trees (map (λ e. e.1) (bare_entries es)))) same h,
    )

pub rebuilt_entries-loop-key-preserved : goal.rebuilt_entries-loop-key-preserved
rebuilt_entries-loop-key-preserved g t c =
    let more : c.push.new.self.items ≡ c.loop-key.built.items ++ (c.in_ok-clone.field-0, c.in_ok-item.item) ∷ [] = search rules in (
      tt,
      tt,
      all_step g.B.ExprBuilder.operations (with_built g.B.ExprBuilder.operations (g.U.Replacement.replaced c.args.unknowns.now)) _ _ _ (bare c.in-Some.item.now) _ _ c.loop-key.invariant.2 (ap (λ es. map (λ e. e.1) (bare_entries es)) c.in-Some.ensures.steps) c.in_ok-item.ensures.built (ap (map (λ p. g.B.ExprBuilder.meaning p.1)) more ∙ map-append (λ p. g.B.ExprBuilder.meaning p.1) _ _),
      c.loop-key.invariant.3 ∙ keys_step _ _ _ _ _ (ap (λ es. keys (bare_entries es)) c.in-Some.ensures.steps) (ap (map (λ p. rc_str_bytes p.0)) more ∙ map-append (λ p. rc_str_bytes p.0) _ _ ∙ ap (λ b. map (λ p. rc_str_bytes p.0) c.loop-key.built.items ++ b ∷ []) c.in_ok-clone.ensures.cases),
      λ h. c.loop-key.invariant.4 (more_rise (λ n ty. RecordsRise (g.U.Replacement.replaced c.args.unknowns.now n ty)) _ _ (bare c.in-Some.item.now) (ap (λ es. map (λ e. e.1) (bare_entries es)) c.in-Some.ensures.steps) c.in_ok-item.ensures.rising h),
    )

pub rebuilt_entries-returns-clause-built : goal.rebuilt_entries-returns-clause-built
rebuilt_entries-returns-clause-built g t c = all_end g.B.ExprBuilder.operations (with_built g.B.ExprBuilder.operations (g.U.Replacement.replaced c.args.unknowns.now)) _ _ c.loop-key.invariant.2 (ap (λ es. map (λ e. e.1) (bare_entries es)) c.in-None.ensures.steps.0)

pub rebuilt_entries-returns-in_err-item-clause-built : goal.rebuilt_entries-returns-in_err-item-clause-built
rebuilt_entries-returns-in_err-item-clause-built g t c = passes (λ v. map (λ p. g.B.ExprBuilder.meaning p.1) v.items) g.B.ExprBuilder.refusal c.in_err-item.field-0.0 c.from_residual.result _ _ (refused _ (all_first g.B.ExprBuilder.operations (with_built g.B.ExprBuilder.operations (g.U.Replacement.replaced c.args.unknowns.now)) _ (bare c.in-Some.item.now) _ _ c.loop-key.invariant.2 (ap (λ es. map (λ e. e.1) (bare_entries es)) c.in-Some.ensures.steps))) c.from_residual.ensures c.in_err-item.ensures.built

pub rebuilt-loop-first-preserved : goal.rebuilt-loop-first-preserved
rebuilt-loop-first-preserved g t c =
    let pushed : c.push.new.self.items ≡ c.loop-first.chain.items ++ c.loop-first.current ∷ [] = search rules in (
      omega (arith, c.in-Some.ensures.smaller, c.loop-first.invariant.0),
      rw pushed (All-push (λ (x : Bor (Expr g.row.T.Denot)). (size-Expr g.row.T.Denot x.now ≤ size-Expr g.row.T.Denot c.args.expr.now) × (is_some (first_of (bare x.now)) ≡ true)) c.loop-first.chain.items c.loop-first.current c.loop-first.invariant.1 (c.loop-first.invariant.0, ap is_some (sym c.in-Some.ensures.part))),
      chain_down g.B.ExprBuilder.operations (with_built g.B.ExprBuilder.operations (g.U.Replacement.replaced c.args.unknowns.now)) c.loop-first.chain.items c.push.new.self.items c.loop-first.current (bare c.in-Some.first.now) _ pushed c.in-Some.ensures.part c.loop-first.invariant.2,
      λ h rests. let both = put_rests (λ n ty. RecordsRise (g.U.Replacement.replaced c.args.unknowns.now n ty)) c.loop-first.chain.items c.push.new.self.items c.loop-first.current pushed rests in c.loop-first.invariant.3 (rise_joined (λ n ty. RecordsRise (g.U.Replacement.replaced c.args.unknowns.now n ty)) (bare c.loop-first.current.now) (bare c.in-Some.first.now) (sym c.in-Some.ensures.part) h both.1) both.0,
    )

pub rebuilt-loop-node-init : goal.rebuilt-loop-node-init
rebuilt-loop-node-init g t c = (c.loop-first.invariant.1, ap (λ m. chained g.B.ExprBuilder.operations (with_built g.B.ExprBuilder.operations (g.U.Replacement.replaced c.args.unknowns.now)) (chain_of c.loop-first.chain.items) m) (sym c.in_ok-built.ensures.built) ∙ c.loop-first.invariant.2, λ rests. c.loop-first.invariant.3 c.in_ok-built.ensures.rising rests)

pub rebuilt-loop-node-preserved : goal.rebuilt-loop-node-preserved
rebuilt-loop-node-preserved g t c = (
  rw c.pop.ensures.rest (All-take (λ (x : Bor (Expr g.row.T.Denot)). (size-Expr g.row.T.Denot x.now ≤ size-Expr g.row.T.Denot c.args.expr.now) × (is_some (first_of (bare x.now)) ≡ true)) _ c.loop-node.chain.items c.loop-node.invariant.0),
  chain_up g.B.ExprBuilder.operations (with_built g.B.ExprBuilder.operations (g.U.Replacement.replaced c.args.unknowns.now)) c.loop-node.chain.items c.pop.new.self.items c.in-Some-pop.node (g.B.ExprBuilder.meaning c.loop-node.built) (g.B.ExprBuilder.meaning c.in_ok-built-2.built) _ c.in-Some-pop.ensures.items c.in_ok-built-2.ensures.built c.loop-node.invariant.1,
  λ rests. c.loop-node.invariant.2 (take_rests (λ n ty. RecordsRise (g.U.Replacement.replaced c.args.unknowns.now n ty)) c.loop-node.chain.items c.pop.new.self.items c.in-Some-pop.node c.in-Some-pop.ensures.items rests c.in_ok-built-2.ensures.rising),
)

pub rebuilt-refilled-requires : goal.rebuilt-refilled-requires
rebuilt-refilled-requires g t c κs =
    let low = all_last (λ (x : Bor (Expr g.row.T.Denot)). (size-Expr g.row.T.Denot x.now ≤ size-Expr g.row.T.Denot c.args.expr.now) × (is_some (first_of (bare x.now)) ≡ true)) c.pop.new.self.items c.in-Some-pop.node (rw c.in-Some-pop.ensures.items at c.loop-node.invariant.0) in
    let lower = low.0 in
    let goes = low.1 in
    search (rules, lower, goes)

pub rebuilt-rebuilt_end-requires : goal.rebuilt-rebuilt_end-requires
rebuilt-rebuilt_end-requires g t c κs =
    let low = c.loop-first.invariant.0 in
    search (rules, low)

pub rebuilt-returns-in_err-built-clause-built : goal.rebuilt-returns-in_err-built-clause-built
rebuilt-returns-in_err-built-clause-built g t c = passes g.B.ExprBuilder.meaning g.B.ExprBuilder.refusal c.in_err-built.field-0.0 c.from_residual-in_err-built.result _ _ (end_refused g.B.ExprBuilder.operations (with_built g.B.ExprBuilder.operations (g.U.Replacement.replaced c.args.unknowns.now)) c.loop-first.chain.items _ _ c.loop-first.invariant.2) c.from_residual-in_err-built.ensures c.in_err-built.ensures.built

pub rebuilt-returns-in_err-built-2-clause-built : goal.rebuilt-returns-in_err-built-2-clause-built
rebuilt-returns-in_err-built-2-clause-built g t c = passes g.B.ExprBuilder.meaning g.B.ExprBuilder.refusal c.in_err-built-2.field-0.0 c.from_residual-in_err-built-2.result _ _ (chain_up_refused g.B.ExprBuilder.operations (with_built g.B.ExprBuilder.operations (g.U.Replacement.replaced c.args.unknowns.now)) c.loop-node.chain.items c.pop.new.self.items c.in-Some-pop.node (g.B.ExprBuilder.meaning c.loop-node.built) _ c.in-Some-pop.ensures.items c.loop-node.invariant.1) c.from_residual-in_err-built-2.ensures c.in_err-built-2.ensures.built

pub refilled-returns-in_err-then_expr-in-If-clause-built : goal.refilled-returns-in_err-then_expr-in-If-clause-built
refilled-returns-in_err-then_expr-in-If-clause-built g t c = passes g.B.ExprBuilder.meaning g.B.ExprBuilder.refusal c.in_err-then_expr-in-If.field-0.0 c.from_residual-in_err-then_expr-in-If.result _ _ (refused _ (fill-If g.B.ExprBuilder.operations (with_built g.B.ExprBuilder.operations (g.U.Replacement.replaced c.args.unknowns.now)) c.args.expr.now _ _ _ _ _ c.in-If.is c.deref.ensures refl (g.B.ExprBuilder.meaning c.args.first))) c.from_residual-in_err-then_expr-in-If.ensures c.in_err-then_expr-in-If.ensures.built

pub refilled-returns-in_err-else_expr-in-If-clause-built : goal.refilled-returns-in_err-else_expr-in-If-clause-built
refilled-returns-in_err-else_expr-in-If-clause-built g t c = passes g.B.ExprBuilder.meaning g.B.ExprBuilder.refusal c.in_err-else_expr-in-If.field-0.0 c.from_residual-in_err-else_expr-in-If.result _ _ (refused _ (after _ (fill-If g.B.ExprBuilder.operations (with_built g.B.ExprBuilder.operations (g.U.Replacement.replaced c.args.unknowns.now)) c.args.expr.now _ _ _ _ _ c.in-If.is c.deref.ensures c.deref-in-If.ensures (g.B.ExprBuilder.meaning c.args.first)) c.in_ok-then_expr-in-If.ensures.built)) c.from_residual-in_err-else_expr-in-If.ensures c.in_err-else_expr-in-If.ensures.built

pub refilled-returns-in_ok-else_expr-in-If-clause-built : goal.refilled-returns-in_ok-else_expr-in-If-clause-built
refilled-returns-in_ok-else_expr-in-If-clause-built g t c = gives g.B.ExprBuilder.meaning g.B.ExprBuilder.refusal c.ite.result _ _ (after _ (after _ (fill-If g.B.ExprBuilder.operations (with_built g.B.ExprBuilder.operations (g.U.Replacement.replaced c.args.unknowns.now)) c.args.expr.now _ _ _ _ _ c.in-If.is c.deref.ensures c.deref-in-If.ensures (g.B.ExprBuilder.meaning c.args.first)) c.in_ok-then_expr-in-If.ensures.built) c.in_ok-else_expr-in-If.ensures.built) c.ite.ensures

pub refilled-returns-in_err-right-in-And-clause-built : goal.refilled-returns-in_err-right-in-And-clause-built
refilled-returns-in_err-right-in-And-clause-built g t c = passes g.B.ExprBuilder.meaning g.B.ExprBuilder.refusal c.in_err-right-in-And.field-0.0 c.from_residual-in_err-right-in-And.result _ _ (refused _ (fill-And g.B.ExprBuilder.operations (with_built g.B.ExprBuilder.operations (g.U.Replacement.replaced c.args.unknowns.now)) c.args.expr.now _ _ _ c.in-And.is c.deref-in-And.ensures (g.B.ExprBuilder.meaning c.args.first))) c.from_residual-in_err-right-in-And.ensures c.in_err-right-in-And.ensures.built

pub refilled-returns-in_ok-right-in-And-clause-built : goal.refilled-returns-in_ok-right-in-And-clause-built
refilled-returns-in_ok-right-in-And-clause-built g t c = gives g.B.ExprBuilder.meaning g.B.ExprBuilder.refusal c.and.result _ _ (after _ (fill-And g.B.ExprBuilder.operations (with_built g.B.ExprBuilder.operations (g.U.Replacement.replaced c.args.unknowns.now)) c.args.expr.now _ _ _ c.in-And.is c.deref-in-And.ensures (g.B.ExprBuilder.meaning c.args.first)) c.in_ok-right-in-And.ensures.built) c.and.ensures

pub refilled-returns-in_err-right-in-Or-clause-built : goal.refilled-returns-in_err-right-in-Or-clause-built
refilled-returns-in_err-right-in-Or-clause-built g t c = passes g.B.ExprBuilder.meaning g.B.ExprBuilder.refusal c.in_err-right-in-Or.field-0.0 c.from_residual-in_err-right-in-Or.result _ _ (refused _ (fill-Or g.B.ExprBuilder.operations (with_built g.B.ExprBuilder.operations (g.U.Replacement.replaced c.args.unknowns.now)) c.args.expr.now _ _ _ c.in-Or.is c.deref-in-Or.ensures (g.B.ExprBuilder.meaning c.args.first))) c.from_residual-in_err-right-in-Or.ensures c.in_err-right-in-Or.ensures.built

pub refilled-returns-in_ok-right-in-Or-clause-built : goal.refilled-returns-in_ok-right-in-Or-clause-built
refilled-returns-in_ok-right-in-Or-clause-built g t c = gives g.B.ExprBuilder.meaning g.B.ExprBuilder.refusal c.or.result _ _ (after _ (fill-Or g.B.ExprBuilder.operations (with_built g.B.ExprBuilder.operations (g.U.Replacement.replaced c.args.unknowns.now)) c.args.expr.now _ _ _ c.in-Or.is c.deref-in-Or.ensures (g.B.ExprBuilder.meaning c.args.first)) c.in_ok-right-in-Or.ensures.built) c.or.ensures

pub refilled-returns-in_err-arg2-in-BinaryApp-clause-built : goal.refilled-returns-in_err-arg2-in-BinaryApp-clause-built
refilled-returns-in_err-arg2-in-BinaryApp-clause-built g t c = passes g.B.ExprBuilder.meaning g.B.ExprBuilder.refusal c.in_err-arg2-in-BinaryApp.field-0.0 c.from_residual-in_err-arg2-in-BinaryApp.result _ _ (refused _ (fill-BinaryApp g.B.ExprBuilder.operations (with_built g.B.ExprBuilder.operations (g.U.Replacement.replaced c.args.unknowns.now)) c.args.expr.now _ _ _ _ c.in-BinaryApp.is c.deref-in-BinaryApp.ensures (g.B.ExprBuilder.meaning c.args.first))) c.from_residual-in_err-arg2-in-BinaryApp.ensures c.in_err-arg2-in-BinaryApp.ensures.built

pub refilled-returns-in_ok-arg2-in-BinaryApp-clause-built : goal.refilled-returns-in_ok-arg2-in-BinaryApp-clause-built
refilled-returns-in_ok-arg2-in-BinaryApp-clause-built g t c = gives g.B.ExprBuilder.meaning g.B.ExprBuilder.refusal c.binary_app.result _ _ (after _ (fill-BinaryApp g.B.ExprBuilder.operations (with_built g.B.ExprBuilder.operations (g.U.Replacement.replaced c.args.unknowns.now)) c.args.expr.now _ _ _ _ c.in-BinaryApp.is c.deref-in-BinaryApp.ensures (g.B.ExprBuilder.meaning c.args.first)) c.in_ok-arg2-in-BinaryApp.ensures.built) c.binary_app.ensures

pub refilled-returns-in-UnaryApp-clause-built : goal.refilled-returns-in-UnaryApp-clause-built
refilled-returns-in-UnaryApp-clause-built g t c = gives g.B.ExprBuilder.meaning g.B.ExprBuilder.refusal c.unary_app.result _ _ (fill-UnaryApp g.B.ExprBuilder.operations (with_built g.B.ExprBuilder.operations (g.U.Replacement.replaced c.args.unknowns.now)) c.args.expr.now _ _ c.in-UnaryApp.is (g.B.ExprBuilder.meaning c.args.first)) c.unary_app.ensures

pub refilled-returns-in-GetAttr-clause-built : goal.refilled-returns-in-GetAttr-clause-built
refilled-returns-in-GetAttr-clause-built g t c = gives g.B.ExprBuilder.meaning g.B.ExprBuilder.refusal c.get_attr.result _ _ (fill-GetAttr g.B.ExprBuilder.operations (with_built g.B.ExprBuilder.operations (g.U.Replacement.replaced c.args.unknowns.now)) c.args.expr.now _ _ c.in-GetAttr.is (g.B.ExprBuilder.meaning c.args.first)) c.get_attr.ensures

pub refilled-returns-in-HasAttr-clause-built : goal.refilled-returns-in-HasAttr-clause-built
refilled-returns-in-HasAttr-clause-built g t c = gives g.B.ExprBuilder.meaning g.B.ExprBuilder.refusal c.has_attr.result _ _ (fill-HasAttr g.B.ExprBuilder.operations (with_built g.B.ExprBuilder.operations (g.U.Replacement.replaced c.args.unknowns.now)) c.args.expr.now _ _ c.in-HasAttr.is (g.B.ExprBuilder.meaning c.args.first)) c.has_attr.ensures

pub refilled-returns-in-Like-clause-built : goal.refilled-returns-in-Like-clause-built
refilled-returns-in-Like-clause-built g t c = gives g.B.ExprBuilder.meaning g.B.ExprBuilder.refusal c.like.result _ _ (fill-Like g.B.ExprBuilder.operations (with_built g.B.ExprBuilder.operations (g.U.Replacement.replaced c.args.unknowns.now)) c.args.expr.now _ _ c.in-Like.is (g.B.ExprBuilder.meaning c.args.first)) c.like.ensures

pub refilled-returns-in-Is-clause-built : goal.refilled-returns-in-Is-clause-built
refilled-returns-in-Is-clause-built g t c = gives g.B.ExprBuilder.meaning g.B.ExprBuilder.refusal c.is_of_type.result _ _ (fill-Is g.B.ExprBuilder.operations (with_built g.B.ExprBuilder.operations (g.U.Replacement.replaced c.args.unknowns.now)) c.args.expr.now _ _ c.in-Is.is (g.B.ExprBuilder.meaning c.args.first)) c.is_of_type.ensures

pub refilled-returns-in-ExtHasAttr-clause-built : goal.refilled-returns-in-ExtHasAttr-clause-built
refilled-returns-in-ExtHasAttr-clause-built g t c = gives g.B.ExprBuilder.meaning g.B.ExprBuilder.refusal c.has_path.result _ _ (fill-ExtHasAttr g.B.ExprBuilder.operations (with_built g.B.ExprBuilder.operations (g.U.Replacement.replaced c.args.unknowns.now)) c.args.expr.now _ _ c.in-ExtHasAttr.is (g.B.ExprBuilder.meaning c.args.first)) c.has_path.ensures

pub rebuilt_end-returns-in_ok-clone-in-Lit-clause-rising : goal.rebuilt_end-returns-in_ok-clone-in-Lit-clause-rising
rebuilt_end-returns-in_ok-clone-in-Lit-clause-rising g t c = gives_rising g.B.ExprBuilder.operations g.B.ExprBuilder.meaning g.B.ExprBuilder.refusal c.val.result _ (rise-Lit (λ n ty. RecordsRise (g.U.Replacement.replaced c.args.unknowns.now n ty)) c.args.expr.now _ c.in-Lit.is) (λ calls. (_, refl)) c.val.ensures

pub rebuilt_end-returns-in-Var-clause-rising : goal.rebuilt_end-returns-in-Var-clause-rising
rebuilt_end-returns-in-Var-clause-rising g t c = gives_rising g.B.ExprBuilder.operations g.B.ExprBuilder.meaning g.B.ExprBuilder.refusal c.var.result _ (rise-Var (λ n ty. RecordsRise (g.U.Replacement.replaced c.args.unknowns.now n ty)) c.args.expr.now _ c.in-Var.is) (λ calls. (_, refl)) c.var.ensures

pub rebuilt_end-returns-in-Slot-clause-rising : goal.rebuilt_end-returns-in-Slot-clause-rising
rebuilt_end-returns-in-Slot-clause-rising g t c = gives_rising g.B.ExprBuilder.operations g.B.ExprBuilder.meaning g.B.ExprBuilder.refusal c.slot.result _ (rise-Slot (λ n ty. RecordsRise (g.U.Replacement.replaced c.args.unknowns.now n ty)) c.args.expr.now _ c.in-Slot.is) (λ calls. (_, refl)) c.slot.ensures

pub rebuilt_end-returns-in-Unknown-clause-rising : goal.rebuilt_end-returns-in-Unknown-clause-rising
rebuilt_end-returns-in-Unknown-clause-rising g t c = rising_to g.B.ExprBuilder.operations g.B.ExprBuilder.refusal c.build_unknown.result (rise-Unknown (λ n ty. RecordsRise (g.U.Replacement.replaced c.args.unknowns.now n ty)) c.args.expr.now _ c.in-Unknown.is) c.build_unknown.ensures.rising

pub rebuilt_end-returns-in_ok-clone-in-ExtensionFunctionApp-clause-rising : goal.rebuilt_end-returns-in_ok-clone-in-ExtensionFunctionApp-clause-rising
rebuilt_end-returns-in_ok-clone-in-ExtensionFunctionApp-clause-rising g t c = gives_rising g.B.ExprBuilder.operations g.B.ExprBuilder.meaning g.B.ExprBuilder.refusal c.call_extension_fn.result _ (rise-ExtensionFunctionApp (λ n ty. RecordsRise (g.U.Replacement.replaced c.args.unknowns.now n ty)) c.args.expr.now _ _ c.deref-in-ExtensionFunctionApp.result.now c.in-ExtensionFunctionApp.is (c.deref-in-ExtensionFunctionApp.ensures.value ∙ ap (λ (v : Vec (Expr g.row.T.Denot) Global). v.items) c.deref.ensures) c.in_ok-args-in-ExtensionFunctionApp.ensures.rising) (λ calls. calls _ _) c.call_extension_fn.ensures

pub rebuilt_end-returns-in_ok-items-in-Set-clause-rising : goal.rebuilt_end-returns-in_ok-items-in-Set-clause-rising
rebuilt_end-returns-in_ok-items-in-Set-clause-rising g t c = gives_rising g.B.ExprBuilder.operations g.B.ExprBuilder.meaning g.B.ExprBuilder.refusal c.set.result _ (rise-Set (λ n ty. RecordsRise (g.U.Replacement.replaced c.args.unknowns.now n ty)) c.args.expr.now _ c.deref-in-Set-2.result.now c.in-Set.is (c.deref-in-Set-2.ensures.value ∙ ap (λ (v : Vec (Expr g.row.T.Denot) Global). v.items) c.deref-in-Set.ensures) c.in_ok-items-in-Set.ensures.rising) (λ calls. (_, refl)) c.set.ensures

pub rebuilt_end-returns-in_ok-pairs-in-Record-clause-rising : goal.rebuilt_end-returns-in_ok-pairs-in-Record-clause-rising
rebuilt_end-returns-in_ok-pairs-in-Record-clause-rising g t c = gives_rising g.B.ExprBuilder.operations g.B.ExprBuilder.meaning g.B.ExprBuilder.refusal c.record.result _ (rise-Record (λ n ty. RecordsRise (g.U.Replacement.replaced c.args.unknowns.now n ty)) c.args.expr.now _ c.deref-in-Record.result.now.entries c.in-Record.is (ap (λ (m : BTreeMap (RcStr Global) (Expr g.row.T.Denot)). m.entries) c.deref-in-Record.ensures) c.in_ok-pairs-in-Record.ensures.in_order c.in_ok-pairs-in-Record.ensures.rising) (λ calls. g.met.B.ExprBuilder.lawful.distinct_keys _ (ap are_distinct (pair_keys (λ p. rc_str_bytes p.0) (λ p. g.B.ExprBuilder.meaning p.1) c.in_ok-pairs-in-Record.pairs.items ∙ c.in_ok-pairs-in-Record.ensures.keys) ∙ rising_are_distinct _ c.in_ok-pairs-in-Record.ensures.in_order)) c.record.ensures

pub rebuilt_end-returns-in_err-args-in-ExtensionFunctionApp-clause-rising : goal.rebuilt_end-returns-in_err-args-in-ExtensionFunctionApp-clause-rising
rebuilt_end-returns-in_err-args-in-ExtensionFunctionApp-clause-rising g t c = passes_rising g.B.ExprBuilder.operations g.B.ExprBuilder.refusal c.in_err-args-in-ExtensionFunctionApp.field-0.0 c.from_residual-in_err-args-in-ExtensionFunctionApp.result _ c.from_residual-in_err-args-in-ExtensionFunctionApp.ensures c.in_err-args-in-ExtensionFunctionApp.ensures.rising

pub rebuilt_end-returns-in_err-items-in-Set-clause-rising : goal.rebuilt_end-returns-in_err-items-in-Set-clause-rising
rebuilt_end-returns-in_err-items-in-Set-clause-rising g t c = passes_rising g.B.ExprBuilder.operations g.B.ExprBuilder.refusal c.in_err-items-in-Set.field-0.0 c.from_residual-in_err-items-in-Set.result _ c.from_residual-in_err-items-in-Set.ensures c.in_err-items-in-Set.ensures.rising

pub rebuilt_end-returns-in_err-pairs-in-Record-clause-rising : goal.rebuilt_end-returns-in_err-pairs-in-Record-clause-rising
rebuilt_end-returns-in_err-pairs-in-Record-clause-rising g t c = passes_rising g.B.ExprBuilder.operations g.B.ExprBuilder.refusal c.in_err-pairs-in-Record.field-0.0 c.from_residual-in_err-pairs-in-Record.result _ c.from_residual-in_err-pairs-in-Record.ensures c.in_err-pairs-in-Record.ensures.rising

pub refilled-returns-in_ok-else_expr-in-If-clause-rising : goal.refilled-returns-in_ok-else_expr-in-If-clause-rising
refilled-returns-in_ok-else_expr-in-If-clause-rising g t c = gives_rising g.B.ExprBuilder.operations g.B.ExprBuilder.meaning g.B.ExprBuilder.refusal c.ite.result _ (rest-If (λ n ty. RecordsRise (g.U.Replacement.replaced c.args.unknowns.now n ty)) c.args.expr.now _ _ _ _ _ c.in-If.is c.deref.ensures c.deref-in-If.ensures c.in_ok-then_expr-in-If.ensures.rising c.in_ok-else_expr-in-If.ensures.rising) (λ calls. (_, refl)) c.ite.ensures

pub refilled-returns-in_ok-right-in-And-clause-rising : goal.refilled-returns-in_ok-right-in-And-clause-rising
refilled-returns-in_ok-right-in-And-clause-rising g t c = gives_rising g.B.ExprBuilder.operations g.B.ExprBuilder.meaning g.B.ExprBuilder.refusal c.and.result _ (rest-And (λ n ty. RecordsRise (g.U.Replacement.replaced c.args.unknowns.now n ty)) c.args.expr.now _ _ _ c.in-And.is c.deref-in-And.ensures c.in_ok-right-in-And.ensures.rising) (λ calls. (_, refl)) c.and.ensures

pub refilled-returns-in_ok-right-in-Or-clause-rising : goal.refilled-returns-in_ok-right-in-Or-clause-rising
refilled-returns-in_ok-right-in-Or-clause-rising g t c = gives_rising g.B.ExprBuilder.operations g.B.ExprBuilder.meaning g.B.ExprBuilder.refusal c.or.result _ (rest-Or (λ n ty. RecordsRise (g.U.Replacement.replaced c.args.unknowns.now n ty)) c.args.expr.now _ _ _ c.in-Or.is c.deref-in-Or.ensures c.in_ok-right-in-Or.ensures.rising) (λ calls. (_, refl)) c.or.ensures

pub refilled-returns-in_ok-arg2-in-BinaryApp-clause-rising : goal.refilled-returns-in_ok-arg2-in-BinaryApp-clause-rising
refilled-returns-in_ok-arg2-in-BinaryApp-clause-rising g t c = gives_rising g.B.ExprBuilder.operations g.B.ExprBuilder.meaning g.B.ExprBuilder.refusal c.binary_app.result _ (rest-BinaryApp (λ n ty. RecordsRise (g.U.Replacement.replaced c.args.unknowns.now n ty)) c.args.expr.now _ _ _ _ c.in-BinaryApp.is c.deref-in-BinaryApp.ensures c.in_ok-arg2-in-BinaryApp.ensures.rising) (λ calls. (_, refl)) c.binary_app.ensures

pub refilled-returns-in-UnaryApp-clause-rising : goal.refilled-returns-in-UnaryApp-clause-rising
refilled-returns-in-UnaryApp-clause-rising g t c = gives_rising g.B.ExprBuilder.operations g.B.ExprBuilder.meaning g.B.ExprBuilder.refusal c.unary_app.result _ (rest-UnaryApp (λ n ty. RecordsRise (g.U.Replacement.replaced c.args.unknowns.now n ty)) c.args.expr.now _ _ c.in-UnaryApp.is) (λ calls. (_, refl)) c.unary_app.ensures

pub refilled-returns-in-GetAttr-clause-rising : goal.refilled-returns-in-GetAttr-clause-rising
refilled-returns-in-GetAttr-clause-rising g t c = gives_rising g.B.ExprBuilder.operations g.B.ExprBuilder.meaning g.B.ExprBuilder.refusal c.get_attr.result _ (rest-GetAttr (λ n ty. RecordsRise (g.U.Replacement.replaced c.args.unknowns.now n ty)) c.args.expr.now _ _ c.in-GetAttr.is) (λ calls. (_, refl)) c.get_attr.ensures

pub refilled-returns-in-HasAttr-clause-rising : goal.refilled-returns-in-HasAttr-clause-rising
refilled-returns-in-HasAttr-clause-rising g t c = gives_rising g.B.ExprBuilder.operations g.B.ExprBuilder.meaning g.B.ExprBuilder.refusal c.has_attr.result _ (rest-HasAttr (λ n ty. RecordsRise (g.U.Replacement.replaced c.args.unknowns.now n ty)) c.args.expr.now _ _ c.in-HasAttr.is) (λ calls. (_, refl)) c.has_attr.ensures

pub refilled-returns-in-ExtHasAttr-clause-rising : goal.refilled-returns-in-ExtHasAttr-clause-rising
refilled-returns-in-ExtHasAttr-clause-rising g t c = gives_rising g.B.ExprBuilder.operations g.B.ExprBuilder.meaning g.B.ExprBuilder.refusal c.has_path.result _ (rest-ExtHasAttr (λ n ty. RecordsRise (g.U.Replacement.replaced c.args.unknowns.now n ty)) c.args.expr.now _ _ c.in-ExtHasAttr.is) (λ calls. (_, refl)) c.has_path.ensures

pub refilled-returns-in-Like-clause-rising : goal.refilled-returns-in-Like-clause-rising
refilled-returns-in-Like-clause-rising g t c = gives_rising g.B.ExprBuilder.operations g.B.ExprBuilder.meaning g.B.ExprBuilder.refusal c.like.result _ (rest-Like (λ n ty. RecordsRise (g.U.Replacement.replaced c.args.unknowns.now n ty)) c.args.expr.now _ _ c.in-Like.is) (λ calls. (_, refl)) c.like.ensures

pub refilled-returns-in-Is-clause-rising : goal.refilled-returns-in-Is-clause-rising
refilled-returns-in-Is-clause-rising g t c = gives_rising g.B.ExprBuilder.operations g.B.ExprBuilder.meaning g.B.ExprBuilder.refusal c.is_of_type.result _ (rest-Is (λ n ty. RecordsRise (g.U.Replacement.replaced c.args.unknowns.now n ty)) c.args.expr.now _ _ c.in-Is.is) (λ calls. (_, refl)) c.is_of_type.ensures

pub refilled-returns-in_err-then_expr-in-If-clause-rising : goal.refilled-returns-in_err-then_expr-in-If-clause-rising
refilled-returns-in_err-then_expr-in-If-clause-rising g t c = passes_rising g.B.ExprBuilder.operations g.B.ExprBuilder.refusal c.in_err-then_expr-in-If.field-0.0 c.from_residual-in_err-then_expr-in-If.result _ c.from_residual-in_err-then_expr-in-If.ensures c.in_err-then_expr-in-If.ensures.rising

pub refilled-returns-in_err-else_expr-in-If-clause-rising : goal.refilled-returns-in_err-else_expr-in-If-clause-rising
refilled-returns-in_err-else_expr-in-If-clause-rising g t c = passes_rising g.B.ExprBuilder.operations g.B.ExprBuilder.refusal c.in_err-else_expr-in-If.field-0.0 c.from_residual-in_err-else_expr-in-If.result _ c.from_residual-in_err-else_expr-in-If.ensures c.in_err-else_expr-in-If.ensures.rising

pub refilled-returns-in_err-right-in-And-clause-rising : goal.refilled-returns-in_err-right-in-And-clause-rising
refilled-returns-in_err-right-in-And-clause-rising g t c = passes_rising g.B.ExprBuilder.operations g.B.ExprBuilder.refusal c.in_err-right-in-And.field-0.0 c.from_residual-in_err-right-in-And.result _ c.from_residual-in_err-right-in-And.ensures c.in_err-right-in-And.ensures.rising

pub refilled-returns-in_err-right-in-Or-clause-rising : goal.refilled-returns-in_err-right-in-Or-clause-rising
refilled-returns-in_err-right-in-Or-clause-rising g t c = passes_rising g.B.ExprBuilder.operations g.B.ExprBuilder.refusal c.in_err-right-in-Or.field-0.0 c.from_residual-in_err-right-in-Or.result _ c.from_residual-in_err-right-in-Or.ensures c.in_err-right-in-Or.ensures.rising

pub refilled-returns-in_err-arg2-in-BinaryApp-clause-rising : goal.refilled-returns-in_err-arg2-in-BinaryApp-clause-rising
refilled-returns-in_err-arg2-in-BinaryApp-clause-rising g t c = passes_rising g.B.ExprBuilder.operations g.B.ExprBuilder.refusal c.in_err-arg2-in-BinaryApp.field-0.0 c.from_residual-in_err-arg2-in-BinaryApp.result _ c.from_residual-in_err-arg2-in-BinaryApp.ensures c.in_err-arg2-in-BinaryApp.ensures.rising

pub rebuilt_items-returns-in_err-item-clause-rising : goal.rebuilt_items-returns-in_err-item-clause-rising
rebuilt_items-returns-in_err-item-clause-rising g t c = passes_rising g.B.ExprBuilder.operations g.B.ExprBuilder.refusal c.in_err-item.field-0.0 c.from_residual.result _ c.from_residual.ensures c.in_err-item.ensures.rising

pub rebuilt_items-returns-clause-rising : goal.rebuilt_items-returns-clause-rising
rebuilt_items-returns-clause-rising g t c =
    let none : drop c.loop-item.item-index c.args.items.now ≡ [] = grind (arith, common_steps) in
    c.loop-item.invariant.1 (none_rise (λ n ty. RecordsRise (g.U.Replacement.replaced c.args.unknowns.now n ty)) _ (ap (map bare) none))

pub rebuilt_entries-returns-in_err-item-clause-rising : goal.rebuilt_entries-returns-in_err-item-clause-rising
rebuilt_entries-returns-in_err-item-clause-rising g t c = passes_rising g.B.ExprBuilder.operations g.B.ExprBuilder.refusal c.in_err-item.field-0.0 c.from_residual.result _ c.from_residual.ensures c.in_err-item.ensures.rising

pub rebuilt_entries-returns-clause-rising : goal.rebuilt_entries-returns-clause-rising
rebuilt_entries-returns-clause-rising g t c = c.loop-key.invariant.4 (none_rise (λ n ty. RecordsRise (g.U.Replacement.replaced c.args.unknowns.now n ty)) _ (ap (λ es. map (λ e. e.1) (bare_entries es)) c.in-None.ensures.steps.0))

pub rebuilt_entries-returns-clause-in_order : goal.rebuilt_entries-returns-clause-in_order
rebuilt_entries-returns-clause-in_order g t c = texts_rise c.args.entries.now.entries c.into_iter-key-iterator.ensures.into_iter_gives.5

pub rebuilt-returns-clause-rising : goal.rebuilt-returns-clause-rising
rebuilt-returns-clause-rising g t c =
    let none : c.loop-node.chain.items ≡ [] = grind (arith, common_steps) in
    c.loop-node.invariant.2 (no_rests (λ n ty. RecordsRise (g.U.Replacement.replaced c.args.unknowns.now n ty)) c.loop-node.chain.items none)

pub rebuilt-returns-in_err-built-clause-rising : goal.rebuilt-returns-in_err-built-clause-rising
rebuilt-returns-in_err-built-clause-rising g t c = passes_rising g.B.ExprBuilder.operations g.B.ExprBuilder.refusal c.in_err-built.field-0.0 c.from_residual-in_err-built.result _ c.from_residual-in_err-built.ensures c.in_err-built.ensures.rising

pub rebuilt-returns-in_err-built-2-clause-rising : goal.rebuilt-returns-in_err-built-2-clause-rising
rebuilt-returns-in_err-built-2-clause-rising g t c = passes_rising g.B.ExprBuilder.operations g.B.ExprBuilder.refusal c.in_err-built-2.field-0.0 c.from_residual-in_err-built-2.result _ c.from_residual-in_err-built-2.ensures c.in_err-built-2.ensures.rising

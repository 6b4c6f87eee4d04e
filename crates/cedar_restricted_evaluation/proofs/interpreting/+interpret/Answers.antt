-- Parts are found one by one, a level lower; the whole errs as the first that errs, or waits where one waits.
use Rattle.std.proofs.Common.{◌≡◌, ◌<◌, ◌≤◌, ◌∙◌, ◌+◌, ap, sym, subst, List, ◌∷◌, [], ◌++◌, map, drop, arith, rules, Vec, BTreeMap, Global}
use Rattle.std.specs.declared.rc.RcStr.{RcStr}
use Rattle.std.proofs.lemmas.List.{map-append, length-map}
use Rattle.std.specs.List.{list_any}
use Rattle.std.specs.Prelude.{true}
use Rattle.either.specs.declared.Either.TheVariants.{Left, Right}
use Rattle.cedar_language.specs.Value.{Value, RecordOf}
use Rattle.cedar_language.specs.Order.{all_of}
use Rattle.cedar_values.specs.Kinds.{keys_of, values_of}
use Rattle.cedar_restricted.specs.Splitting.{IsSplitOf, ExpressEach, is_residual}
use Rattle.cedar_extensions.specs.Giving.{fails_on}
use Rattle.std.proofs.lemmas.Grind.{common_steps}
use Rattle.cedar_language.specs.Height.{height, heights}
use Rattle.cedar_language.specs.Restricted.{is_restricted}
use Rattle.cedar_language.specs.Tree.{MakeSet, MakeRecord, Call, Apply}
use Rattle.cedar_grammar.specs.Build.{trees, keys}
use Rattle.cedar_trees.specs.Bare.{bare, bare_entries, record_tree}
use Rattle.cedar_trees.specs.declared.expr.Expr.{Expr}
use Rattle.cedar_extensions.specs.Failures.{failure_of}
use Rattle.cedar_restricted.specs.PartialValues.{partial_of}
use Rattle.cedar_restricted.specs.declared.partial_values.PartialValue.{PartialValue}
use Rattle.cedar_restricted.proofs.Writing.{cut_items}
use Rattle.cedar_restricted_evaluation.specs.Findings.{Calls, IsFound, Errs, AreFound, SomeErrs}
use Rattle.cedar_restricted_evaluation.proofs.Gathering.{values_length, exprs_length, next_restricted, next_fails, remains_next, remains_end, within_next, within_end, answered, always, passed}
use Rattle.cedar_restricted_evaluation.proofs.Arms.{set_builds, record_builds, parts_err, build_waits, set_found, record_found, call_waits, call_made, entries_length, expr_record, value_record, kept_tree, unknown_kept, found_as, tree-Set, tree-Record, tree-Call, lifted}
use Rattle.cedar_extensions.specs.Table.{as_table}
use Rattle.cedar_extensions.specs.Tables.{functions_in}
use Rattle.cedar_restricted_evaluation.proofs.Naming.{unknown_is_found}
use Rattle.cedar_restricted_evaluation.proofs.interpreting.+interpret.Goals as goal

-- ---- items

pub interpret_items-interpret-requires : goal.interpret_items-interpret-requires
interpret_items-interpret-requires g t c κs outlives =
    let cut = cut_items bare c.args.items.now c.loop-item.item-index c.item-item.result c.loop-item-test.true c.item-item.is in
    let held = next_restricted (as_table g.F.ExtensionFunctionObject.answers c.args.extensions.now) _ _ _ _ _ c.loop-item.invariant.0 cut in
    (omega (arith, c.decreases), (outlives, held))

pub interpret_items-loop-item-preserved : goal.interpret_items-loop-item-preserved
interpret_items-loop-item-preserved g t c =
    let pushed : c.push.new.self.items ≡ c.loop-item.answers.items ++ c.in_ok-answer.answer ∷ [] = search rules in
    let cut = cut_items bare c.args.items.now c.loop-item.item-index c.item-item.result c.loop-item-test.true c.item-item.is in (
      remains_next (as_table g.F.ExtensionFunctionObject.answers c.args.extensions.now) _ _ _ _ _ c.loop-item.invariant.0 cut _ _ c.in_ok-answer.ensures.found (ap (map partial_of) pushed ∙ map-append partial_of c.loop-item.answers.items (c.in_ok-answer.answer ∷ [])),
      within_next c.args.depth _ _ _ _ cut c.loop-item.invariant.1 c.in_ok-answer.ensures.limit,
    )

pub interpret_items-returns-clause-found : goal.interpret_items-returns-clause-found
interpret_items-returns-clause-found g t c =
    let none : drop c.loop-item.item-index c.args.items.now ≡ [] = grind (arith, common_steps) in
    remains_end (as_table g.F.ExtensionFunctionObject.answers c.args.extensions.now) _ _ _ c.loop-item.invariant.0 (ap (map bare) none)

pub interpret_items-returns-clause-limit : goal.interpret_items-returns-clause-limit
interpret_items-returns-clause-limit g t c =
    let none : drop c.loop-item.item-index c.args.items.now ≡ [] = grind (arith, common_steps) in
    within_end c.args.depth _ _ (ap (map bare) none) c.loop-item.invariant.1

pub interpret_items-returns-in_err-answer-clause-found : goal.interpret_items-returns-in_err-answer-clause-found
interpret_items-returns-in_err-answer-clause-found g t c =
    passed (λ (ps : Vec PartialValue Global). AreFound (as_table g.F.ExtensionFunctionObject.answers c.args.extensions.now) (map bare c.args.items.now) (map partial_of ps.items)) (SomeErrs (as_table g.F.ExtensionFunctionObject.answers c.args.extensions.now) (map bare c.args.items.now)) _ c.in_err-answer.field-0.0 c.from_residual.result c.from_residual.ensures
    (next_fails (as_table g.F.ExtensionFunctionObject.answers c.args.extensions.now) _ _ _ _ _ c.loop-item.invariant.0 (cut_items bare c.args.items.now c.loop-item.item-index c.item-item.result c.loop-item-test.true c.item-item.is) c.args.depth (failure_of c.in_err-answer.field-0.0) c.in_err-answer.ensures.found)

-- ---- entries

pub interpret_entries-interpret-requires : goal.interpret_entries-interpret-requires
interpret_entries-interpret-requires g t c κs outlives =
    let cut = ap (λ es. map (λ e. e.1) (bare_entries es)) c.in-Some.ensures.steps in
    let held = next_restricted (as_table g.F.ExtensionFunctionObject.answers c.args.extensions.now) _ _ _ _ _ c.loop-key.invariant.2 cut in
    (omega (arith, c.decreases), (outlives, held))

pub interpret_entries-loop-key-preserved : goal.interpret_entries-loop-key-preserved
interpret_entries-loop-key-preserved g t c =
    let pushed : c.push.new.self.items ≡ c.loop-key.answers.items ++ c.in_ok-answer.answer ∷ [] = search rules in (
      tt,
      tt,
      remains_next (as_table g.F.ExtensionFunctionObject.answers c.args.extensions.now) _ _ _ _ _ c.loop-key.invariant.2 (ap (λ es. map (λ e. e.1) (bare_entries es)) c.in-Some.ensures.steps) _ _ c.in_ok-answer.ensures.found (ap (map partial_of) pushed ∙ map-append partial_of c.loop-key.answers.items (c.in_ok-answer.answer ∷ [])),
      within_next c.args.depth _ _ _ _ (ap (λ es. map (λ e. e.1) (bare_entries es)) c.in-Some.ensures.steps) c.loop-key.invariant.3 c.in_ok-answer.ensures.limit,
    )

pub interpret_entries-returns-clause-found : goal.interpret_entries-returns-clause-found
interpret_entries-returns-clause-found g t c = remains_end (as_table g.F.ExtensionFunctionObject.answers c.args.extensions.now) _ _ _ c.loop-key.invariant.2 (ap (λ es. map (λ e. e.1) (bare_entries es)) c.in-None.ensures.steps.0)

pub interpret_entries-returns-clause-limit : goal.interpret_entries-returns-clause-limit
interpret_entries-returns-clause-limit g t c = within_end c.args.depth _ _ (ap (λ es. map (λ e. e.1) (bare_entries es)) c.in-None.ensures.steps.0) c.loop-key.invariant.3

pub interpret_entries-returns-in_err-answer-clause-found : goal.interpret_entries-returns-in_err-answer-clause-found
interpret_entries-returns-in_err-answer-clause-found g t c =
    passed (λ (ps : Vec PartialValue Global). AreFound (as_table g.F.ExtensionFunctionObject.answers c.args.extensions.now) (map (λ e. e.1) (bare_entries c.args.entries.now.entries)) (map partial_of ps.items)) (SomeErrs (as_table g.F.ExtensionFunctionObject.answers c.args.extensions.now) (map (λ e. e.1) (bare_entries c.args.entries.now.entries))) _ c.in_err-answer.field-0.0 c.from_residual.result c.from_residual.ensures
    (next_fails (as_table g.F.ExtensionFunctionObject.answers c.args.extensions.now) _ _ _ _ _ c.loop-key.invariant.2 (ap (λ es. map (λ e. e.1) (bare_entries es)) c.in-Some.ensures.steps) c.args.depth (failure_of c.in_err-answer.field-0.0) c.in_err-answer.ensures.found)

-- ---- kinds

pub interpret-interpret_record-requires : goal.interpret-interpret_record-requires
interpret-interpret_record-requires g t c κs outlives =
    let step : c.args.depth ≡ c.in-Some.below + 1 = search rules in
    let tree = tree-Record c.args.expr.now c.in-Record.entries c.deref-in-Record.result.now.entries c.in-Record.is (ap (λ (m : BTreeMap (RcStr Global) (Expr (Unit {0}))). m.entries) c.deref-in-Record.ensures) in
    (omega (arith, c.decreases, step), (outlives, sym (ap is_restricted tree) ∙ c.requires))

pub interpret-returns-in-Record-clause-found : goal.interpret-returns-in-Record-clause-found
interpret-returns-in-Record-clause-found g t c =
    let step : c.args.depth ≡ c.in-Some.below + 1 = search rules in
    let tree = tree-Record c.args.expr.now c.in-Record.entries c.deref-in-Record.result.now.entries c.in-Record.is (ap (λ (m : BTreeMap (RcStr Global) (Expr (Unit {0}))). m.entries) c.deref-in-Record.ensures) in
    lifted (as_table g.F.ExtensionFunctionObject.answers c.args.extensions.now) (bare c.args.expr.now) (record_tree (bare_entries c.deref-in-Record.result.now.entries)) (c.in-Some.below < heights (trees (map (λ e. e.1) (bare_entries c.deref-in-Record.result.now.entries)))) c.args.depth tree (λ d. omega (arith, d, step)) c.interpret_record.result c.interpret_record.ensures.found

pub interpret-returns-in-Record-clause-limit : goal.interpret-returns-in-Record-clause-limit
interpret-returns-in-Record-clause-limit g t c =
    let step : c.args.depth ≡ c.in-Some.below + 1 = search rules in
    let tree = tree-Record c.args.expr.now c.in-Record.entries c.deref-in-Record.result.now.entries c.in-Record.is (ap (λ (m : BTreeMap (RcStr Global) (Expr (Unit {0}))). m.entries) c.deref-in-Record.ensures) in
    let follows : heights (trees (map (λ e. e.1) (bare_entries c.deref-in-Record.result.now.entries))) ≤ c.in-Some.below → height (bare c.args.expr.now) ≤ c.args.depth = λ h. subst (λ r. height r ≤ c.args.depth) (sym tree) (omega (arith, h, step)) in
    answered c.interpret_record.result follows c.interpret_record.ensures.limit

pub interpret-returns-in-Set-clause-limit : goal.interpret-returns-in-Set-clause-limit
interpret-returns-in-Set-clause-limit g t c =
    let step : c.args.depth ≡ c.in-Some.below + 1 = search rules in
    let tree = tree-Set c.args.expr.now c.in-Set.items c.deref-in-Set.result.now c.in-Set.is (c.deref-in-Set.ensures.value ∙ ap (λ (v : Vec (Expr (Unit {0})) Global). v.items) c.deref.ensures) in
    let follows : heights (trees (map bare c.deref-in-Set.result.now)) ≤ c.in-Some.below → height (bare c.args.expr.now) ≤ c.args.depth = λ h. subst (λ r. height r ≤ c.args.depth) (sym tree) (omega (arith, h, step)) in
    answered c.interpret_set.result follows c.interpret_set.ensures.limit

pub interpret-returns-in-Set-clause-found : goal.interpret-returns-in-Set-clause-found
interpret-returns-in-Set-clause-found g t c =
    let step : c.args.depth ≡ c.in-Some.below + 1 = search rules in
    let tree = tree-Set c.args.expr.now c.in-Set.items c.deref-in-Set.result.now c.in-Set.is (c.deref-in-Set.ensures.value ∙ ap (λ (v : Vec (Expr (Unit {0})) Global). v.items) c.deref.ensures) in
    lifted (as_table g.F.ExtensionFunctionObject.answers c.args.extensions.now) (bare c.args.expr.now) (Apply MakeSet (trees (map bare c.deref-in-Set.result.now))) (c.in-Some.below < heights (trees (map bare c.deref-in-Set.result.now))) c.args.depth tree (λ d. omega (arith, d, step)) c.interpret_set.result c.interpret_set.ensures.found

pub interpret-returns-in_ok-clone-in-Unknown-clause-found : goal.interpret-returns-in_ok-clone-in-Unknown-clause-found
interpret-returns-in_ok-clone-in-Unknown-clause-found g t c =
    unknown_kept (as_table g.F.ExtensionFunctionObject.answers c.args.extensions.now) c.args.expr.now c.in-Unknown.unknown c.in_ok-clone-in-Unknown.field-0 (partial_of c.with_maybe_source_loc.result) (partial_of c.unknown.result) c.in-Unknown.is c.in_ok-clone-in-Unknown.ensures.cases.0 c.in_ok-clone-in-Unknown.ensures.cases.1 c.unknown.ensures c.with_maybe_source_loc.ensures

-- ---- sets

pub interpret_set-returns-in_err-items-clause-found : goal.interpret_set-returns-in_err-items-clause-found
interpret_set-returns-in_err-items-clause-found g t c =
    let set = Apply MakeSet (trees (map bare c.args.items.now)) in
    passed (λ (p : PartialValue). IsFound (as_table g.F.ExtensionFunctionObject.answers c.args.extensions.now) set (partial_of p)) (Errs (as_table g.F.ExtensionFunctionObject.answers c.args.extensions.now) set) (c.args.depth < heights (trees (map bare c.args.items.now))) c.in_err-items.field-0.0 c.from_residual.result c.from_residual.ensures
    (fails_on (failure_of c.in_err-items.field-0.0) (parts_err (as_table g.F.ExtensionFunctionObject.answers c.args.extensions.now) MakeSet (map bare c.args.items.now)) (λ d. d) c.in_err-items.ensures.found)

pub interpret_set-returns-in_ok-set-in-Left-clause-found : goal.interpret_set-returns-in_ok-set-in-Left-clause-found
interpret_set-returns-in_ok-set-in-Left-clause-found g t c =
    let parts = map partial_of c.in_ok-items.items.items in
    let values : parts ≡ map Left c.in-Left.values.items = subst (IsSplitOf parts) c.in-Left.is c.in_ok-values.ensures in
    found_as (as_table g.F.ExtensionFunctionObject.answers c.args.extensions.now) (Apply MakeSet (trees (map bare c.args.items.now))) (partial_of c.from.result) _ (c.from.ensures ∙ ap Left c.in_ok-set-in-Left.ensures) (set_found (as_table g.F.ExtensionFunctionObject.answers c.args.extensions.now) (map bare c.args.items.now) parts c.in_ok-items.ensures.found c.in-Left.values.items values)

pub interpret_set-returns-in_ok-set-in-Right-clause-found : goal.interpret_set-returns-in_ok-set-in-Right-clause-found
interpret_set-returns-in_ok-set-in-Right-clause-found g t c =
    let parts = map partial_of c.in_ok-items.items.items in
    let exprs : (list_any is_residual parts ≡ true) × ExpressEach parts (map bare c.in-Right.exprs.items) = subst (IsSplitOf parts) c.in-Right.is c.in_ok-values.ensures in
    let made : bare c.with_maybe_source_loc.result ≡ Apply MakeSet (trees (map bare c.in-Right.exprs.items)) = kept_tree c.in_ok-set-in-Right.set c.with_maybe_source_loc.result _ c.with_maybe_source_loc.ensures ∙ c.in_ok-set-in-Right.ensures in
    found_as (as_table g.F.ExtensionFunctionObject.answers c.args.extensions.now) (Apply MakeSet (trees (map bare c.args.items.now))) (partial_of c.from-in-Right.result) _ (c.from-in-Right.ensures ∙ ap Right made) (build_waits (as_table g.F.ExtensionFunctionObject.answers c.args.extensions.now) MakeSet (map bare c.args.items.now) parts c.in_ok-items.ensures.found (map bare c.in-Right.exprs.items) exprs set_builds)

-- ---- records

pub interpret_record-returns-in_err-items-clause-found : goal.interpret_record-returns-in_err-items-clause-found
interpret_record-returns-in_err-items-clause-found g t c =
    let ts = map (λ e. e.1) (bare_entries c.args.entries.now.entries) in
    let ks = keys (bare_entries c.args.entries.now.entries) in
    passed (λ (p : PartialValue). IsFound (as_table g.F.ExtensionFunctionObject.answers c.args.extensions.now) (Apply (MakeRecord ks) (trees ts)) (partial_of p)) (Errs (as_table g.F.ExtensionFunctionObject.answers c.args.extensions.now) (Apply (MakeRecord ks) (trees ts))) (c.args.depth < heights (trees ts)) c.in_err-items.field-0.0 c.from_residual.result c.from_residual.ensures
    (fails_on (failure_of c.in_err-items.field-0.0) (parts_err (as_table g.F.ExtensionFunctionObject.answers c.args.extensions.now) (MakeRecord ks) ts) (λ d. d) c.in_err-items.ensures.found)

pub interpret_record-keyed-requires : goal.interpret_record-keyed-requires
interpret_record-keyed-requires g t c =
    let parts = map partial_of c.in_ok-items.items.items in
    let values : parts ≡ map Left c.in-Left.values.items = subst (IsSplitOf parts) c.in-Left.is c.in_ok-values.ensures in
    values_length (as_table g.F.ExtensionFunctionObject.answers c.args.extensions.now) _ parts c.in-Left.values.items c.in_ok-items.ensures.found values ∙ entries_length c.args.entries.now.entries

pub interpret_record-keyed-requires-in-Right : goal.interpret_record-keyed-requires-in-Right
interpret_record-keyed-requires-in-Right g t c =
    let parts = map partial_of c.in_ok-items.items.items in
    let exprs : (list_any is_residual parts ≡ true) × ExpressEach parts (map bare c.in-Right.exprs.items) = subst (IsSplitOf parts) c.in-Right.is c.in_ok-values.ensures in
    sym (length-map c.in-Right.exprs.items bare) ∙ exprs_length (as_table g.F.ExtensionFunctionObject.answers c.args.extensions.now) _ parts (map bare c.in-Right.exprs.items) c.in_ok-items.ensures.found exprs.1 ∙ entries_length c.args.entries.now.entries

pub interpret_record-returns-in_ok-fields-in-Left-clause-found : goal.interpret_record-returns-in_ok-fields-in-Left-clause-found
interpret_record-returns-in_ok-fields-in-Left-clause-found g t c =
    let parts = map partial_of c.in_ok-items.items.items in
    let values : parts ≡ map Left c.in-Left.values.items = subst (IsSplitOf parts) c.in-Left.is c.in_ok-values.ensures in
    let same = ap (λ (m : BTreeMap (RcStr Global) Value). RecordOf (keys_of m.entries) (values_of m.entries)) c.in_ok-fields-in-Left.ensures.ok in
    let made = value_record c.args.entries.now.entries c.in_ok-keyed-in-Left.field-0.entries c.in-Left.values.items c.in_ok-keyed-in-Left.ensures.keys c.in_ok-keyed-in-Left.ensures.items in
    found_as (as_table g.F.ExtensionFunctionObject.answers c.args.extensions.now) (Apply (MakeRecord (keys (bare_entries c.args.entries.now.entries))) (trees (map (λ e. e.1) (bare_entries c.args.entries.now.entries)))) (partial_of c.from.result) _ (c.from.ensures ∙ ap Left (c.record_arc.ensures ∙ same ∙ made)) (record_found (as_table g.F.ExtensionFunctionObject.answers c.args.extensions.now) (keys (bare_entries c.args.entries.now.entries)) (map (λ e. e.1) (bare_entries c.args.entries.now.entries)) parts c.in_ok-items.ensures.found c.in-Left.values.items values)

pub interpret_record-returns-in_ok-new-in-Right-clause-found : goal.interpret_record-returns-in_ok-new-in-Right-clause-found
interpret_record-returns-in_ok-new-in-Right-clause-found g t c =
    let parts = map partial_of c.in_ok-items.items.items in
    let exprs : (list_any is_residual parts ≡ true) × ExpressEach parts (map bare c.in-Right.exprs.items) = subst (IsSplitOf parts) c.in-Right.is c.in_ok-values.ensures in
    let same = ap (λ (m : BTreeMap (RcStr Global) (Expr (Unit {0}))). record_tree (bare_entries m.entries)) c.in_ok-new-in-Right.ensures.ok in
    let whole = expr_record c.args.entries.now.entries c.in_ok-keyed-in-Right.field-0.entries c.in-Right.exprs.items c.in_ok-keyed-in-Right.ensures.keys c.in_ok-keyed-in-Right.ensures.items in
    let made = kept_tree c.record_arc-record.result c.with_maybe_source_loc.result _ c.with_maybe_source_loc.ensures ∙ c.record_arc-record.ensures ∙ same ∙ whole in
    found_as (as_table g.F.ExtensionFunctionObject.answers c.args.extensions.now) (Apply (MakeRecord (keys (bare_entries c.args.entries.now.entries))) (trees (map (λ e. e.1) (bare_entries c.args.entries.now.entries)))) (partial_of c.from-in-Right.result) _ (c.from-in-Right.ensures ∙ ap Right made) (build_waits (as_table g.F.ExtensionFunctionObject.answers c.args.extensions.now) (MakeRecord (keys (bare_entries c.args.entries.now.entries))) (map (λ e. e.1) (bare_entries c.args.entries.now.entries)) parts c.in_ok-items.ensures.found (map bare c.in-Right.exprs.items) exprs (record_builds (keys (bare_entries c.args.entries.now.entries))))

-- ---- calls

pub interpret-returns-in-ExtensionFunctionApp-clause-found : goal.interpret-returns-in-ExtensionFunctionApp-clause-found
interpret-returns-in-ExtensionFunctionApp-clause-found g t c =
    let step : c.args.depth ≡ c.in-Some.below + 1 = search rules in
    let args = c.deref-in-ExtensionFunctionApp-2.result.now in
    let tree = tree-Call c.args.expr.now c.in-ExtensionFunctionApp.fn_name c.in-ExtensionFunctionApp.args args c.in-ExtensionFunctionApp.is (c.deref-in-ExtensionFunctionApp-2.ensures.value ∙ ap (λ (v : Vec (Expr (Unit {0})) Global). v.items) c.deref-in-ExtensionFunctionApp.ensures) in
    lifted (as_table g.F.ExtensionFunctionObject.answers c.args.extensions.now) (bare c.args.expr.now) (Apply (Call c.in-ExtensionFunctionApp.fn_name) (trees (map bare args))) (c.in-Some.below < heights (trees (map bare args))) c.args.depth tree (λ d. omega (arith, d, step)) c.interpret_call.result c.interpret_call.ensures.found

pub interpret_call-returns-in_err-args-clause-found : goal.interpret_call-returns-in_err-args-clause-found
interpret_call-returns-in_err-args-clause-found g t c =
    let whole = Apply (Call c.args.name.now) (trees (map bare c.args.args.now)) in
    passed (λ (p : PartialValue). IsFound (as_table g.F.ExtensionFunctionObject.answers c.args.extensions.now) whole (partial_of p)) (Errs (as_table g.F.ExtensionFunctionObject.answers c.args.extensions.now) whole) (c.args.depth < heights (trees (map bare c.args.args.now))) c.in_err-args.field-0.0 c.from_residual.result c.from_residual.ensures
    (fails_on (failure_of c.in_err-args.field-0.0) (parts_err (as_table g.F.ExtensionFunctionObject.answers c.args.extensions.now) (Call c.args.name.now) (map bare c.args.args.now)) (λ d. d) c.in_err-args.ensures.found)

pub interpret_call-returns-in-Left-clause-found : goal.interpret_call-returns-in-Left-clause-found
interpret_call-returns-in-Left-clause-found g t c =
    let parts = map partial_of c.in_ok-args.args.items in
    let values : parts ≡ map Left c.in-Left.values.items = subst (IsSplitOf parts) c.in-Left.is c.in_ok-values.ensures in
    let given = subst (λ (vs : List Value). Calls (as_table g.F.ExtensionFunctionObject.answers c.args.extensions.now) c.args.name.now (all_of vs) c.call.result) c.deref.ensures.value c.call.ensures in
    call_made (as_table g.F.ExtensionFunctionObject.answers c.args.extensions.now) c.args.name.now (map bare c.args.args.now) parts c.in_ok-args.ensures.found c.in-Left.values.items values (λ i b. unknown_is_found g.F.ExtensionFunctionObject.answers c.args.name.now i (functions_in c.args.extensions.now) c.args.extensions.now.named b) (c.args.depth < heights (trees (map bare c.args.args.now))) c.call.result given

pub interpret_call-returns-in-Left-clause-limit : goal.interpret_call-returns-in-Left-clause-limit
interpret_call-returns-in-Left-clause-limit g t c = always c.call.result c.in_ok-args.ensures.limit

pub interpret_call-returns-in_ok-call-in-Right-clause-found : goal.interpret_call-returns-in_ok-call-in-Right-clause-found
interpret_call-returns-in_ok-call-in-Right-clause-found g t c =
    let parts = map partial_of c.in_ok-args.args.items in
    let exprs : (list_any is_residual parts ≡ true) × ExpressEach parts (map bare c.in-Right.exprs.items) = subst (IsSplitOf parts) c.in-Right.is c.in_ok-values.ensures in
    let made = kept_tree c.in_ok-call-in-Right.call c.with_maybe_source_loc.result _ c.with_maybe_source_loc.ensures ∙ c.in_ok-call-in-Right.ensures ∙ ap (λ f. Apply (Call f) (trees (map bare c.in-Right.exprs.items))) c.in_ok-clone-in-Right.ensures in
    found_as (as_table g.F.ExtensionFunctionObject.answers c.args.extensions.now) (Apply (Call c.args.name.now) (trees (map bare c.args.args.now))) (partial_of c.from.result) _ (c.from.ensures ∙ ap Right made) (call_waits (as_table g.F.ExtensionFunctionObject.answers c.args.extensions.now) c.args.name.now (map bare c.args.args.now) parts c.in_ok-args.ensures.found (map bare c.in-Right.exprs.items) exprs)

-- The tree of a node is what its construct makes of its parts; that of a chain is joined one part at a time.
use Rattle.std.proofs.Common.{◌≡◌, ◌⊎◌, ◌<◌, Some, Ok, map, drop, [], ◌∷◌, refl, sym, ap, ◌∙◌, subst, arith, None, inl, inr}
use Rattle.std.proofs.lemmas.Grind.{common_steps}
use Rattle.cedar_grammar.specs.Steps.{◌>>=◌}
use Rattle.std.specs.Rc.{rc_str_bytes}
use Rattle.cedar_cst.specs.LeafView.{shown_name, shown_ident}
use Rattle.cedar_grammar.specs.Loose as loose
use Rattle.cedar_grammar.specs.Converting as converting
use Rattle.cedar_grammar.specs.Converting.{expr_tree, or_tree, and_tree, relation_tree, add_tree, mult_tree, unary_tree, member_tree, primary_head, rec_init_tree, exprs_trees, rec_inits_trees, record_tree, called, ident_text, alone, primary_text}
use Rattle.cedar_language.specs.Tree as tree
use Rattle.cedar_grammar.specs.Build.{trees}
use Rattle.cedar_cst.specs.View.{view_expr, view_or, view_and, view_relation, view_add, view_mult, view_unary, view_member, view_primary, view_rec_init, shown_expr, shown_rec_init, shown_add, shown_member, shown_mem_access, view_mem_access}
use Rattle.cedar_conversion.specs.Building.{IsBuilt, IsRefused, AreBuilt, AreRefused}
use Rattle.cedar_conversion.specs.Entries.{AreEntries, AreEntriesRefused, IsEntry, IsEntryRefused, EachIsBuilt, meant, entries_show}
use Rattle.cedar_conversion.specs.Heads.{IsHead, IsHeadRefused, head_shows, called_shows}
use Rattle.cedar_conversion.proofs.Converting.{same_as, faulty, found, flat_pair}
use Rattle.cedar_conversion.proofs.Made.{built_none}
use Rattle.cedar_conversion.proofs.Trees.{empty, cut_at, or_start, or_more, or_end, and_start, and_more, and_end, add_start, add_more, add_end, mult_start, mult_more, mult_end, member_start, member_more, member_end, items_start, items_more, items_end, entries_start, entries_more, entries_end}
use Rattle.cedar_conversion.proofs.Nodes.{expr_or, expr_if, relation_alone, relation_joined, relation_chain, relation_has, relation_like, relation_is, relation_is_in, unary_plain, unary_bangs, unary_over_bang, unary_over_dash, unary_dashes, unary_no_dash, unary_number, two_of, lone_is, one_variant, access_none, access_field, access_call, access_index, primary_literal, primary_ref, primary_name, primary_slot, primary_expr, primary_list, primary_record, entry_seen}
use borrow.Enum.Total.{values_d}
use Rattle.cedar_cst.specs.contracts.cst.Expr.{enum}
use Rattle.cedar_cst.specs.declared.leaves.NegOp.TheVariants as signs
use Rattle.cedar_conversion.specs.declared.applying.Joint.TheVariants as joint
use Rattle.cedar_faults.specs.Telling.{Told}
use Rattle.cedar_faults.proofs.Telling.{told_each}
use Rattle.cedar_conversion.specs.SoFar.{AccessedSoFar}
use Rattle.cedar_conversion.specs.Shows.{calls_method, joint_shows, expr_shows, or_shows, and_shows, relation_shows, add_shows, mult_shows, unary_shows, member_shows, access_shows, primary_shows, rec_init_shows, used_before, used_at, exprs_show}
use Rattle.cedar_conversion.proofs.Seen.{none_seen, or_expr_seen, if_expr_seen, common_seen, has_seen, like_seen, is_seen, is_in_seen, unary_seen, member_seen, field_seen, call_seen, index_seen, literal_seen, ref_seen, slot_seen, expr_seen, list_seen, record_seen, rec_init_seen}
use Rattle.cedar_conversion.proofs.Told.{seen_as, fault_seen, of_two, of_two_and, of_part_and, of_part_or, pair_told, none_told, all_told}
use Rattle.cedar_conversion.proofs.Behind.{is_first, is_after, used_behind, called_behind, are_counted, keys_behind, dashes_alone, no_dashes, dashes_number, access_at, in_access, accessed_start, accessed_more, accessed_end}
use Rattle.cedar_conversion.proofs.Chains.{or_begun, or_goes_on, and_begun, and_goes_on, add_begun, add_goes_on, mult_begun, mult_goes_on, items_go_on, entries_go_on}
use Rattle.cedar_conversion.specs.Shown.{ident_shows, index_shows, attributes_show, pattern_shows, type_shows}
use Rattle.cedar_conversion.proofs.Sole.{is_around_or, is_around_relation, is_around_add, is_around_member, is_bracketed, tree_of_or, tree_of_relation, tree_of_add, tree_of_member, head_in_brackets, by_value}
use Rattle.cedar_conversion.specs.Alone.{depth}
use Rattle.cedar_cst.specs.declared.cst.Expr.{size-Expr}
use Rattle.cedar_cst.specs.declared.cst.Or.{size-Or}
use Rattle.cedar_cst.specs.declared.cst.Relation.{size-Relation}
use Rattle.cedar_cst.specs.declared.cst.Add.{size-Add}
use Rattle.cedar_cst.specs.declared.cst.Member.{size-Member}
use Rattle.cedar_cst.specs.declared.cst.Primary.{size-Primary}
use Rattle.cedar_conversion.proofs.expressions.+to_expr.Goals as goal

pub if_to_expr-returns-in-None-clause-tree : goal.if_to_expr-returns-in-None-clause-tree
unfolding expr_tree
if_to_expr-returns-in-None-clause-tree g t c = faulty g.B.ExprBuilder.refusal (IsRefused g.B.ExprBuilder.operations) c.missing.result _ c.missing.ensures.fault (empty loose.missing_expr view_expr (expr_tree c.args.styles.now) c.args.node.now c.in-None.is refl)

pub or_to_expr-returns-in-None-clause-tree : goal.or_to_expr-returns-in-None-clause-tree
unfolding or_tree
or_to_expr-returns-in-None-clause-tree g t c = faulty g.B.ExprBuilder.refusal (IsRefused g.B.ExprBuilder.operations) c.missing.result _ c.missing.ensures.fault (empty loose.missing_or view_or (or_tree c.args.styles.now) c.args.node.now c.in-None.is refl)

pub and_to_expr-returns-in-None-clause-tree : goal.and_to_expr-returns-in-None-clause-tree
unfolding and_tree
and_to_expr-returns-in-None-clause-tree g t c = faulty g.B.ExprBuilder.refusal (IsRefused g.B.ExprBuilder.operations) c.missing.result _ c.missing.ensures.fault (empty loose.missing_and view_and (and_tree c.args.styles.now) c.args.node.now c.in-None.is refl)

pub comparison_to_expr-returns-in-None-clause-tree : goal.comparison_to_expr-returns-in-None-clause-tree
unfolding relation_tree
comparison_to_expr-returns-in-None-clause-tree g t c = faulty g.B.ExprBuilder.refusal (IsRefused g.B.ExprBuilder.operations) c.missing.result _ c.missing.ensures.fault (empty loose.missing_relation view_relation (relation_tree c.args.styles.now) c.args.node.now c.in-None.is refl)

pub sum_to_expr-returns-in-None-clause-tree : goal.sum_to_expr-returns-in-None-clause-tree
unfolding add_tree
sum_to_expr-returns-in-None-clause-tree g t c = faulty g.B.ExprBuilder.refusal (IsRefused g.B.ExprBuilder.operations) c.missing.result _ c.missing.ensures.fault (empty loose.missing_add view_add (add_tree c.args.styles.now) c.args.node.now c.in-None.is refl)

pub mult_to_expr-returns-in-None-clause-tree : goal.mult_to_expr-returns-in-None-clause-tree
unfolding mult_tree
mult_to_expr-returns-in-None-clause-tree g t c = faulty g.B.ExprBuilder.refusal (IsRefused g.B.ExprBuilder.operations) c.missing.result _ c.missing.ensures.fault (empty loose.missing_mult view_mult (mult_tree c.args.styles.now) c.args.node.now c.in-None.is refl)

pub unary_to_expr-returns-in-None-clause-tree : goal.unary_to_expr-returns-in-None-clause-tree
unfolding unary_tree
unary_to_expr-returns-in-None-clause-tree g t c = faulty g.B.ExprBuilder.refusal (IsRefused g.B.ExprBuilder.operations) c.missing.result _ c.missing.ensures.fault (empty loose.missing_unary view_unary (unary_tree c.args.styles.now) c.args.node.now c.in-None.is refl)

pub member_to_expr-returns-in-None-clause-tree : goal.member_to_expr-returns-in-None-clause-tree
unfolding member_tree
member_to_expr-returns-in-None-clause-tree g t c = faulty g.B.ExprBuilder.refusal (IsRefused g.B.ExprBuilder.operations) c.missing.result _ c.missing.ensures.fault (empty loose.missing_member view_member (member_tree c.args.styles.now) c.args.node.now c.in-None.is refl)

pub operand_to_head-returns-in-None-clause-head : goal.operand_to_head-returns-in-None-clause-head
unfolding primary_head
operand_to_head-returns-in-None-clause-head g t c = faulty g.B.ExprBuilder.refusal (IsHeadRefused g.B.ExprBuilder.operations) c.missing.result _ c.missing.ensures.fault (empty loose.missing_primary view_primary (primary_head c.args.styles.now) c.args.node.now c.in-None.is refl)

pub entry_to_pair-returns-in-None-clause-entry : goal.entry_to_pair-returns-in-None-clause-entry
unfolding rec_init_tree
entry_to_pair-returns-in-None-clause-entry g t c = faulty g.B.ExprBuilder.refusal (IsEntryRefused g.B.ExprBuilder.operations) c.missing.result _ c.missing.ensures.fault (empty loose.missing_rec_init view_rec_init (rec_init_tree c.args.styles.now) c.args.node.now c.in-None.is refl)

pub or_to_expr-parts-init : goal.or_to_expr-parts-init
or_to_expr-parts-init g t c = record { tree = or_start c.args.styles.now (IsBuilt g.B.ExprBuilder.operations g.B.ExprBuilder.meaning) (IsRefused g.B.ExprBuilder.operations) g.B.ExprBuilder.refusal c.args.node.now c.in-Some.or c.and_to_expr-whole.result c.deref-part-items.result.now c.in-Some.is c.and_to_expr-whole.ensures.tree c.deref-part-items.ensures.value; told = or_begun c.args.styles.now c.and_to_expr-whole.result c.args.node.now c.in-Some.or c.deref-part-items.result.now c.in-Some.is c.deref-part-items.ensures.value c.and_to_expr-whole.ensures.shown }

pub or_to_expr-parts-preserved : goal.or_to_expr-parts-preserved
or_to_expr-parts-preserved g t c =
    let xs = c.deref-part-items.result.now in
    record { tree = or_more c.args.styles.now (IsBuilt g.B.ExprBuilder.operations g.B.ExprBuilder.meaning) (IsRefused g.B.ExprBuilder.operations) g.B.ExprBuilder.refusal c.parts.whole c.and_to_expr-next.result c.join-whole.result _ _ _ _ c.parts.invariant.tree (cut_at xs xs c.parts.part-index c.part-item.result refl c.parts-test.true c.part-item.is) c.join-whole.ensures.tree c.and_to_expr-next.ensures.tree; told = or_goes_on c.args.styles.now c.parts.whole c.join-whole.result c.and_to_expr-next.result _ _ _ _ c.parts.invariant.told (cut_at xs xs c.parts.part-index c.part-item.result refl c.parts-test.true c.part-item.is) c.join-whole.ensures.shown c.and_to_expr-next.ensures.shown }

pub or_to_expr-returns-after-parts-clause-tree : goal.or_to_expr-returns-after-parts-clause-tree
or_to_expr-returns-after-parts-clause-tree g t c =
    let none : drop c.parts.part-index c.deref-part-items.result.now ≡ [] = grind (arith, common_steps) in
    or_end c.args.styles.now (IsBuilt g.B.ExprBuilder.operations g.B.ExprBuilder.meaning) (IsRefused g.B.ExprBuilder.operations) g.B.ExprBuilder.refusal c.parts.whole _ _ c.parts.invariant.tree none

pub and_to_expr-parts-init : goal.and_to_expr-parts-init
and_to_expr-parts-init g t c = record { tree = and_start c.args.styles.now (IsBuilt g.B.ExprBuilder.operations g.B.ExprBuilder.meaning) (IsRefused g.B.ExprBuilder.operations) g.B.ExprBuilder.refusal c.args.node.now c.in-Some.and c.relation_to_expr-whole.result c.deref-part-items.result.now c.in-Some.is c.relation_to_expr-whole.ensures.tree c.deref-part-items.ensures.value; told = and_begun c.args.styles.now c.relation_to_expr-whole.result c.args.node.now c.in-Some.and c.deref-part-items.result.now c.in-Some.is c.deref-part-items.ensures.value c.relation_to_expr-whole.ensures.shown }

pub and_to_expr-parts-preserved : goal.and_to_expr-parts-preserved
and_to_expr-parts-preserved g t c =
    let xs = c.deref-part-items.result.now in
    record { tree = and_more c.args.styles.now (IsBuilt g.B.ExprBuilder.operations g.B.ExprBuilder.meaning) (IsRefused g.B.ExprBuilder.operations) g.B.ExprBuilder.refusal c.parts.whole c.relation_to_expr-next.result c.join-whole.result _ _ _ _ c.parts.invariant.tree (cut_at xs xs c.parts.part-index c.part-item.result refl c.parts-test.true c.part-item.is) c.join-whole.ensures.tree c.relation_to_expr-next.ensures.tree; told = and_goes_on c.args.styles.now c.parts.whole c.join-whole.result c.relation_to_expr-next.result _ _ _ _ c.parts.invariant.told (cut_at xs xs c.parts.part-index c.part-item.result refl c.parts-test.true c.part-item.is) c.join-whole.ensures.shown c.relation_to_expr-next.ensures.shown }

pub and_to_expr-returns-after-parts-clause-tree : goal.and_to_expr-returns-after-parts-clause-tree
and_to_expr-returns-after-parts-clause-tree g t c =
    let none : drop c.parts.part-index c.deref-part-items.result.now ≡ [] = grind (arith, common_steps) in
    and_end c.args.styles.now (IsBuilt g.B.ExprBuilder.operations g.B.ExprBuilder.meaning) (IsRefused g.B.ExprBuilder.operations) g.B.ExprBuilder.refusal c.parts.whole _ _ c.parts.invariant.tree none

pub sum_to_expr-parts-init : goal.sum_to_expr-parts-init
sum_to_expr-parts-init g t c = record { tree = add_start c.args.styles.now (IsBuilt g.B.ExprBuilder.operations g.B.ExprBuilder.meaning) (IsRefused g.B.ExprBuilder.operations) g.B.ExprBuilder.refusal c.args.node.now c.in-Some.add c.mult_to_expr-whole.result c.deref-part-items.result.now c.in-Some.is c.mult_to_expr-whole.ensures.tree c.deref-part-items.ensures.value; told = add_begun c.args.styles.now c.mult_to_expr-whole.result c.args.node.now c.in-Some.add c.deref-part-items.result.now c.in-Some.is c.deref-part-items.ensures.value c.mult_to_expr-whole.ensures.shown }

pub sum_to_expr-parts-preserved : goal.sum_to_expr-parts-preserved
sum_to_expr-parts-preserved g t c =
    let xs = c.deref-part-items.result.now in
    record { tree = add_more c.args.styles.now (IsBuilt g.B.ExprBuilder.operations g.B.ExprBuilder.meaning) (IsRefused g.B.ExprBuilder.operations) g.B.ExprBuilder.refusal c.parts.whole c.mult_to_expr-next.result c.join-whole.result _ _ _ _ c.parts.invariant.tree (cut_at xs xs c.parts.part-index c.part-item.result refl c.parts-test.true c.part-item.is) c.join-whole.ensures.tree c.mult_to_expr-next.ensures.tree; told = add_goes_on c.args.styles.now c.parts.whole c.join-whole.result c.mult_to_expr-next.result _ _ _ _ c.parts.invariant.told (cut_at xs xs c.parts.part-index c.part-item.result refl c.parts-test.true c.part-item.is) c.join-whole.ensures.shown c.mult_to_expr-next.ensures.shown }

pub sum_to_expr-returns-after-parts-clause-tree : goal.sum_to_expr-returns-after-parts-clause-tree
sum_to_expr-returns-after-parts-clause-tree g t c =
    let none : drop c.parts.part-index c.deref-part-items.result.now ≡ [] = grind (arith, common_steps) in
    add_end c.args.styles.now (IsBuilt g.B.ExprBuilder.operations g.B.ExprBuilder.meaning) (IsRefused g.B.ExprBuilder.operations) g.B.ExprBuilder.refusal c.parts.whole _ _ c.parts.invariant.tree none

pub mult_to_expr-parts-init : goal.mult_to_expr-parts-init
mult_to_expr-parts-init g t c = record { tree = mult_start c.args.styles.now (IsBuilt g.B.ExprBuilder.operations g.B.ExprBuilder.meaning) (IsRefused g.B.ExprBuilder.operations) g.B.ExprBuilder.refusal c.args.node.now c.in-Some.mult c.unary_to_expr-whole.result c.deref-part-items.result.now c.in-Some.is c.unary_to_expr-whole.ensures.tree c.deref-part-items.ensures.value; told = mult_begun c.args.styles.now c.unary_to_expr-whole.result c.args.node.now c.in-Some.mult c.deref-part-items.result.now c.in-Some.is c.deref-part-items.ensures.value c.unary_to_expr-whole.ensures.shown }

pub mult_to_expr-parts-preserved : goal.mult_to_expr-parts-preserved
mult_to_expr-parts-preserved g t c =
    let xs = c.deref-part-items.result.now in
    record { tree = mult_more c.args.styles.now (IsBuilt g.B.ExprBuilder.operations g.B.ExprBuilder.meaning) (IsRefused g.B.ExprBuilder.operations) g.B.ExprBuilder.refusal c.parts.whole c.unary_to_expr-next.result c.join-whole.result _ _ _ _ c.parts.invariant.tree (cut_at xs xs c.parts.part-index c.part-item.result refl c.parts-test.true c.part-item.is) c.join-whole.ensures.tree c.unary_to_expr-next.ensures.tree; told = mult_goes_on c.args.styles.now c.parts.whole c.join-whole.result c.unary_to_expr-next.result _ _ _ _ c.parts.invariant.told (cut_at xs xs c.parts.part-index c.part-item.result refl c.parts-test.true c.part-item.is) c.join-whole.ensures.shown c.unary_to_expr-next.ensures.shown }

pub mult_to_expr-returns-after-parts-clause-tree : goal.mult_to_expr-returns-after-parts-clause-tree
mult_to_expr-returns-after-parts-clause-tree g t c =
    let none : drop c.parts.part-index c.deref-part-items.result.now ≡ [] = grind (arith, common_steps) in
    mult_end c.args.styles.now (IsBuilt g.B.ExprBuilder.operations g.B.ExprBuilder.meaning) (IsRefused g.B.ExprBuilder.operations) g.B.ExprBuilder.refusal c.parts.whole _ _ c.parts.invariant.tree none

pub member_to_expr-accesses-init : goal.member_to_expr-accesses-init
member_to_expr-accesses-init g t c = record { tree = member_start c.args.styles.now (IsHead g.B.ExprBuilder.operations g.B.ExprBuilder.meaning) (IsHeadRefused g.B.ExprBuilder.operations) g.B.ExprBuilder.refusal c.args.node.now c.in-Some.member c.deref-operand.result.now c.primary_to_head-head.result c.deref-access-items.result.now c.in-Some.is c.deref-operand.ensures c.primary_to_head-head.ensures.head c.deref-access-items.ensures.value; told = accessed_start c.args.styles.now c.primary_to_head-head.result _ _ _ _ (member_seen c.args.node.now c.in-Some.member c.deref-operand.result.now c.deref-access-items.result.now c.in-Some.is c.deref-operand.ensures c.deref-access-items.ensures.value) (is_first g.B.ExprBuilder.operations g.B.ExprBuilder.meaning c.args.styles.now g.B.ExprBuilder.refusal c.primary_to_head-head.result _ c.primary_to_head-head.ensures.head) (c.calls_method-is_called.ensures ∙ ap (λ ys. calls_method (loose.accesses (map shown_mem_access ys))) (sym c.deref-access-items.ensures.value)) c.primary_to_head-head.ensures.shown }

pub member_to_expr-accesses-preserved : goal.member_to_expr-accesses-preserved
member_to_expr-accesses-preserved g t c =
    let xs = c.deref-access-items.result.now in
    record { tree = member_more c.args.styles.now (IsHead g.B.ExprBuilder.operations g.B.ExprBuilder.meaning) (IsHeadRefused g.B.ExprBuilder.operations) g.B.ExprBuilder.refusal c.accesses.head c.access_to_head-head.result _ _ _ _ c.accesses.invariant.tree (cut_at xs xs c.accesses.access-index c.access-item.result refl c.accesses-test.true c.access-item.is) c.access_to_head-head.ensures.head; told = accessed_more c.args.styles.now c.accesses.head c.access_to_head-head.result c.calls_method-is_called.result _ _ _ (subst (λ zs. AccessedSoFar c.args.styles.now c.accesses.head c.calls_method-is_called.result (loose.accesses (map shown_mem_access zs)) (member_shows c.args.styles.now (shown_member c.args.node.now))) (cut_at xs xs c.accesses.access-index c.access-item.result refl c.accesses-test.true c.access-item.is) c.accesses.invariant.told) c.access_to_head-head.ensures.shown (is_after g.B.ExprBuilder.operations g.B.ExprBuilder.meaning c.args.styles.now g.B.ExprBuilder.refusal c.access_to_head-head.result c.accesses.invariant.tree.value _ (c.access_to_head-head.ensures.head _ c.accesses.invariant.tree.is)) }

pub member_to_expr-returns-after-accesses-clause-tree : goal.member_to_expr-returns-after-accesses-clause-tree
member_to_expr-returns-after-accesses-clause-tree g t c =
    let none : drop c.accesses.access-index c.deref-access-items.result.now ≡ [] = grind (arith, common_steps) in
    member_end c.args.styles.now (IsHead g.B.ExprBuilder.operations g.B.ExprBuilder.meaning) (IsHeadRefused g.B.ExprBuilder.operations) g.B.ExprBuilder.refusal (IsBuilt g.B.ExprBuilder.operations g.B.ExprBuilder.meaning) (IsRefused g.B.ExprBuilder.operations) c.accesses.head c.head_to_expr.result _ _ c.accesses.invariant.tree none c.head_to_expr.ensures.tree

pub if_to_expr-returns-in-Or-clause-tree : goal.if_to_expr-returns-in-Or-clause-tree
if_to_expr-returns-in-Or-clause-tree g t c =
    let at = one_variant (λ t given. (values_d enum 0 given t).0) (λ a given. refl) c.in-Some.expr c.inner-1.given.0 in
    same_as g.B.ExprBuilder.refusal (IsBuilt g.B.ExprBuilder.operations g.B.ExprBuilder.meaning) (IsRefused g.B.ExprBuilder.operations) c.or_to_expr.result _ _ (expr_or c.args.styles.now c.args.node.now c.in-Some.expr _ c.deref-data.result.now c.in-Or.or c.in-Some.is at c.deref-data.ensures c.in-Or.is) c.or_to_expr.ensures.tree

pub if_to_expr-returns-in-If-clause-tree : goal.if_to_expr-returns-in-If-clause-tree
if_to_expr-returns-in-If-clause-tree g t c =
    let at = one_variant (λ t given. (values_d enum 0 given t).0) (λ a given. refl) c.in-Some.expr c.inner-1.given.0 in
    same_as g.B.ExprBuilder.refusal (IsBuilt g.B.ExprBuilder.operations g.B.ExprBuilder.meaning) (IsRefused g.B.ExprBuilder.operations) c.ite.result _ _ (expr_if c.args.styles.now c.args.node.now c.in-Some.expr _ c.deref-data.result.now c.in-If.test c.in-If.then_expr c.in-If.else_expr c.in-Some.is at c.deref-data.ensures c.in-If.is) (c.ite.ensures.tree _ _ _ c.expr_to_expr-tested.ensures.tree c.expr_to_expr-taken.ensures.tree c.expr_to_expr-other.ensures.tree)

pub comparison_to_expr-returns-in-None-comparison-clause-tree : goal.comparison_to_expr-returns-in-None-comparison-clause-tree
comparison_to_expr-returns-in-None-comparison-clause-tree g t c =
    let none = sym c.as_slice.ensures.value ∙ lone_is _ _ None c.in-Ok.ensures.lone c.in-None-comparison.is in
    same_as g.B.ExprBuilder.refusal (IsBuilt g.B.ExprBuilder.operations g.B.ExprBuilder.meaning) (IsRefused g.B.ExprBuilder.operations) c.add_to_expr-first.result _ _ (relation_alone c.args.styles.now c.args.node.now c.in-Some.relation c.in-Common.initial c.in-Common.extended c.deref-operand.result.now c.in-Some.is c.in-Common.is none c.deref-operand.ensures) c.add_to_expr-first.ensures.tree

pub comparison_to_expr-returns-in-Some-comparison-clause-tree : goal.comparison_to_expr-returns-in-Some-comparison-clause-tree
comparison_to_expr-returns-in-Some-comparison-clause-tree g t c =
    let x = c.in-Some-comparison.link.now in
    let cut = sym c.as_slice.ensures.value ∙ lone_is _ _ (Some c.in-Some-comparison.link) c.in-Ok.ensures.lone c.in-Some-comparison.is in
    same_as g.B.ExprBuilder.refusal (IsBuilt g.B.ExprBuilder.operations g.B.ExprBuilder.meaning) (IsRefused g.B.ExprBuilder.operations) c.join.result _ _ (relation_joined c.args.styles.now c.args.node.now c.in-Some.relation c.in-Common.initial c.in-Common.extended x c.deref-operand.result.now c.in-Some.is c.in-Common.is cut c.deref-operand.ensures) (c.join.ensures.tree _ _ c.add_to_expr-first.ensures.tree c.add_to_expr-second.ensures.tree)

pub comparison_to_expr-returns-in-Err-clause-tree : goal.comparison_to_expr-returns-in-Err-clause-tree
comparison_to_expr-returns-in-Err-clause-tree g t c =
    let (x, y, more, are) = two_of _ c.in-Err.ensures.others in
    let cut = sym c.as_slice.ensures.value ∙ are in
    faulty g.B.ExprBuilder.refusal (IsRefused g.B.ExprBuilder.operations) c.in-Err.error _ c.in-Err.ensures.fault (relation_chain c.args.styles.now c.args.node.now c.in-Some.relation c.in-Common.initial c.in-Common.extended x y more c.in-Some.is c.in-Common.is cut)

pub comparison_to_expr-returns-in-Has-clause-tree : goal.comparison_to_expr-returns-in-Has-clause-tree
comparison_to_expr-returns-in-Has-clause-tree g t c = same_as g.B.ExprBuilder.refusal (IsBuilt g.B.ExprBuilder.operations g.B.ExprBuilder.meaning) (IsRefused g.B.ExprBuilder.operations) c.has_to_expr.result _ _ (relation_has c.args.styles.now c.args.node.now c.in-Some.relation c.in-Has.target c.in-Has.field c.deref-holder.result.now c.deref-path.result.now c.in-Some.is c.in-Has.is c.deref-holder.ensures c.deref-path.ensures) (c.has_to_expr.ensures.tree _ c.add_to_expr-held.ensures.tree)

pub comparison_to_expr-returns-in-Like-clause-tree : goal.comparison_to_expr-returns-in-Like-clause-tree
comparison_to_expr-returns-in-Like-clause-tree g t c = same_as g.B.ExprBuilder.refusal (IsBuilt g.B.ExprBuilder.operations g.B.ExprBuilder.meaning) (IsRefused g.B.ExprBuilder.operations) c.like_to_expr.result _ _ (relation_like c.args.styles.now c.args.node.now c.in-Some.relation c.in-Like.target c.in-Like.pattern c.deref-matched.result.now c.deref-text.result.now c.in-Some.is c.in-Like.is c.deref-matched.ensures c.deref-text.ensures) (c.like_to_expr.ensures.tree _ c.add_to_expr-subject.ensures.tree)

pub comparison_to_expr-returns-in-None-in_entity-clause-tree : goal.comparison_to_expr-returns-in-None-in_entity-clause-tree
comparison_to_expr-returns-in-None-in_entity-clause-tree g t c = same_as g.B.ExprBuilder.refusal (IsBuilt g.B.ExprBuilder.operations g.B.ExprBuilder.meaning) (IsRefused g.B.ExprBuilder.operations) c.is_to_expr.result _ _ (relation_is c.args.styles.now c.args.node.now c.in-Some.relation c.in-IsIn.target c.in-IsIn.entity_type c.in-IsIn.in_entity c.deref-typed.result.now c.deref-named.result.now c.in-Some.is c.in-IsIn.is c.in-None-in_entity.is c.deref-typed.ensures c.deref-named.ensures) (c.is_to_expr.ensures.tree _ c.add_to_expr-value.ensures.tree)

pub comparison_to_expr-returns-in-Some-in_entity-clause-tree : goal.comparison_to_expr-returns-in-Some-in_entity-clause-tree
comparison_to_expr-returns-in-Some-in_entity-clause-tree g t c = same_as g.B.ExprBuilder.refusal (IsBuilt g.B.ExprBuilder.operations g.B.ExprBuilder.meaning) (IsRefused g.B.ExprBuilder.operations) c.is_in_to_expr.result _ _ (relation_is_in c.args.styles.now c.args.node.now c.in-Some.relation c.in-IsIn.target c.in-IsIn.entity_type c.in-IsIn.in_entity c.in-Some-in_entity.entity c.deref-typed.result.now c.deref-named.result.now c.deref-among.result.now c.in-Some.is c.in-IsIn.is c.in-Some-in_entity.is c.deref-typed.ensures c.deref-named.ensures c.deref-among.ensures) (c.is_in_to_expr.ensures.tree _ _ c.add_to_expr-value.ensures.tree c.add_to_expr-within.ensures.tree)

pub unary_to_expr-returns-in-None-op-clause-tree : goal.unary_to_expr-returns-in-None-op-clause-tree
unary_to_expr-returns-in-None-op-clause-tree g t c = same_as g.B.ExprBuilder.refusal (IsBuilt g.B.ExprBuilder.operations g.B.ExprBuilder.meaning) (IsRefused g.B.ExprBuilder.operations) c.member_to_expr.result _ _ (unary_plain c.args.styles.now c.args.node.now c.in-Some.unary c.in-Some.is c.in-None-op.is) (c.member_to_expr.ensures.tree)

pub unary_to_expr-returns-in-Bang-clause-tree : goal.unary_to_expr-returns-in-Bang-clause-tree
unary_to_expr-returns-in-Bang-clause-tree g t c = same_as g.B.ExprBuilder.refusal (IsBuilt g.B.ExprBuilder.operations g.B.ExprBuilder.meaning) (IsRefused g.B.ExprBuilder.operations) c.signed.result _ _ (unary_bangs c.args.styles.now c.args.node.now c.in-Some.unary c.in-Bang.count c.in-Some.is (c.in-Some-op.is ∙ ap Some c.in-Bang.is)) (c.signed.ensures.tree _ c.member_to_expr-item.ensures.tree)

pub unary_to_expr-returns-in-OverBang-clause-tree : goal.unary_to_expr-returns-in-OverBang-clause-tree
unary_to_expr-returns-in-OverBang-clause-tree g t c = faulty g.B.ExprBuilder.refusal (IsRefused g.B.ExprBuilder.operations) c.fault.result _ c.fault.ensures.fault (unary_over_bang c.args.styles.now c.args.node.now c.in-Some.unary c.in-Some.is (c.in-Some-op.is ∙ ap Some c.in-OverBang.is))

pub unary_to_expr-returns-in-OverDash-clause-tree : goal.unary_to_expr-returns-in-OverDash-clause-tree
unary_to_expr-returns-in-OverDash-clause-tree g t c = faulty g.B.ExprBuilder.refusal (IsRefused g.B.ExprBuilder.operations) c.fault-in-OverDash.result _ c.fault-in-OverDash.ensures.fault (unary_over_dash c.args.styles.now c.args.node.now c.in-Some.unary c.in-Some.is (c.in-Some-op.is ∙ ap Some c.in-OverDash.is))

pub unary_to_expr-returns-in-None-lone_number-clause-tree : goal.unary_to_expr-returns-in-None-lone_number-clause-tree
unary_to_expr-returns-in-None-lone_number-clause-tree g t c = same_as g.B.ExprBuilder.refusal (IsBuilt g.B.ExprBuilder.operations g.B.ExprBuilder.meaning) (IsRefused g.B.ExprBuilder.operations) c.signed-in-None-lone_number.result _ _ (unary_dashes c.args.styles.now c.args.node.now c.in-Some.unary c.in-Dash.count c.in-Some.is (c.in-Some-op.is ∙ ap Some c.in-Dash.is) (sym c.lone_number.ensures ∙ c.in-None-lone_number.is)) (c.signed-in-None-lone_number.ensures.tree _ c.member_to_expr-item-in-None-lone_number.ensures.tree)

pub unary_to_expr-returns-then-count-eq0-clause-tree : goal.unary_to_expr-returns-then-count-eq0-clause-tree
unary_to_expr-returns-then-count-eq0-clause-tree g t c = same_as g.B.ExprBuilder.refusal (IsBuilt g.B.ExprBuilder.operations g.B.ExprBuilder.meaning) (IsRefused g.B.ExprBuilder.operations) c.member_to_expr-then-count-eq0.result _ _ (unary_no_dash c.args.styles.now c.args.node.now c.in-Some.unary c.in-Dash.count c.in-Some-lone_number.number c.in-Some.is (c.in-Some-op.is ∙ ap Some c.in-Dash.is) (sym c.lone_number.ensures ∙ c.in-Some-lone_number.is) c.if-count-eq0.true) (c.member_to_expr-then-count-eq0.ensures.tree)

pub unary_to_expr-returns-else-count-eq0-clause-tree : goal.unary_to_expr-returns-else-count-eq0-clause-tree
unary_to_expr-returns-else-count-eq0-clause-tree g t c =
    let more : 0 < c.in-Dash.count = omega arith in
    same_as g.B.ExprBuilder.refusal (IsBuilt g.B.ExprBuilder.operations g.B.ExprBuilder.meaning) (IsRefused g.B.ExprBuilder.operations) c.number_to_expr.result _ _ (unary_number c.args.styles.now c.args.node.now c.in-Some.unary c.in-Dash.count c.in-Some-lone_number.number c.in-Some.is (c.in-Some-op.is ∙ ap Some c.in-Dash.is) (sym c.lone_number.ensures ∙ c.in-Some-lone_number.is) more) c.number_to_expr.ensures.tree

pub access_to_head-returns-in-None-clause-head : goal.access_to_head-returns-in-None-clause-head
access_to_head-returns-in-None-clause-head g t c v hv = faulty g.B.ExprBuilder.refusal (IsHeadRefused g.B.ExprBuilder.operations) c.missing.result _ c.missing.ensures.fault (access_none c.args.styles.now c.args.node.now v c.in-None.is)

pub access_to_head-returns-in-Field-clause-head : goal.access_to_head-returns-in-Field-clause-head
access_to_head-returns-in-Field-clause-head g t c v hv = same_as g.B.ExprBuilder.refusal (IsHead g.B.ExprBuilder.operations g.B.ExprBuilder.meaning) (IsHeadRefused g.B.ExprBuilder.operations) c.attribute.result _ _ (access_field c.args.styles.now c.args.node.now c.in-Some.access c.in-Field.id v c.in-Some.is c.in-Field.is) (c.attribute.ensures.head v _ hv c.to_unreserved_ident-word.ensures.id)

pub access_to_head-returns-clause-head : goal.access_to_head-returns-clause-head
access_to_head-returns-clause-head g t c v hv = same_as g.B.ExprBuilder.refusal (IsHead g.B.ExprBuilder.operations g.B.ExprBuilder.meaning) (IsHeadRefused g.B.ExprBuilder.operations) c.index.result _ _ (access_index c.args.styles.now c.args.node.now c.in-Some.access c.in-Index.text v c.in-Some.is c.in-Index.is) (c.index.ensures.head v _ hv c.to_index-key.ensures.text)

pub operand_to_head-returns-in-Literal-clause-head : goal.operand_to_head-returns-in-Literal-clause-head
operand_to_head-returns-in-Literal-clause-head g t c = same_as g.B.ExprBuilder.refusal (IsHead g.B.ExprBuilder.operations g.B.ExprBuilder.meaning) (IsHeadRefused g.B.ExprBuilder.operations) c.literal_to_head.result _ _ (primary_literal c.args.styles.now c.args.node.now c.in-Some.primary c.in-Literal.literal c.in-Some.is c.in-Literal.is) (c.literal_to_head.ensures.head _ c.to_literal-value.ensures.literal)

pub operand_to_head-returns-in-Ref-clause-head : goal.operand_to_head-returns-in-Ref-clause-head
operand_to_head-returns-in-Ref-clause-head g t c = same_as g.B.ExprBuilder.refusal (IsHead g.B.ExprBuilder.operations g.B.ExprBuilder.meaning) (IsHeadRefused g.B.ExprBuilder.operations) c.entity_to_head.result _ _ (primary_ref c.args.styles.now c.args.node.now c.in-Some.primary c.in-Ref.entity c.deref-reference.result.now c.in-Some.is c.in-Ref.is c.deref-reference.ensures) (c.entity_to_head.ensures.head _ c.to_ref-uid.ensures.uid)

pub operand_to_head-returns-in-Name-clause-head : goal.operand_to_head-returns-in-Name-clause-head
operand_to_head-returns-in-Name-clause-head g t c = record {
  value = converting.a_name (shown_name c.deref-inner.result.now);
  is = primary_name c.args.styles.now c.args.node.now c.in-Some.primary c.in-Name.name c.deref-inner.result.now c.in-Some.is c.in-Name.is c.deref-inner.ensures;
  stands = refl;
}

pub operand_to_head-returns-in-Slot-clause-head : goal.operand_to_head-returns-in-Slot-clause-head
operand_to_head-returns-in-Slot-clause-head g t c = same_as g.B.ExprBuilder.refusal (IsHead g.B.ExprBuilder.operations g.B.ExprBuilder.meaning) (IsHeadRefused g.B.ExprBuilder.operations) c.slot_to_head.result _ _ (primary_slot c.args.styles.now c.args.node.now c.in-Some.primary c.in-Slot.slot c.in-Some.is c.in-Slot.is) (c.slot_to_head.ensures.head _ c.to_slot-id.ensures.slot)

pub operand_to_head-returns-in-Expr-clause-head : goal.operand_to_head-returns-in-Expr-clause-head
operand_to_head-returns-in-Expr-clause-head g t c = same_as g.B.ExprBuilder.refusal (IsHead g.B.ExprBuilder.operations g.B.ExprBuilder.meaning) (IsHeadRefused g.B.ExprBuilder.operations) c.expr_to_head.result _ _ (primary_expr c.args.styles.now c.args.node.now c.in-Some.primary c.in-Expr.expr c.in-Some.is c.in-Expr.is) (c.expr_to_head.ensures.head _ c.expr_to_expr-inner.ensures.tree)

pub entry_to_pair-returns-in-Some-clause-entry : goal.entry_to_pair-returns-in-Some-clause-entry
entry_to_pair-returns-in-Some-clause-entry g t c =
    same_as g.B.ExprBuilder.refusal (IsEntry g.B.ExprBuilder.operations g.B.ExprBuilder.meaning) (IsEntryRefused g.B.ExprBuilder.operations) c.flatten_tuple_2.result _ _ (entry_seen c.args.styles.now c.args.node.now c.in-Some.entry c.in-Some.is) (flat_pair g.B.ExprBuilder.refusal (λ e s. rc_str_bytes e ≡ s) (λ s. ⊥) (IsBuilt g.B.ExprBuilder.operations g.B.ExprBuilder.meaning) (IsRefused g.B.ExprBuilder.operations) (IsEntryRefused g.B.ExprBuilder.operations)
    ((λ x y z e h. absurd h), (λ x y z e h. let same : (x, y) ≡ z = cc e in subst (IsEntryRefused g.B.ExprBuilder.operations) same h))
    c.to_key-key.result c.expr_to_expr-value.result c.flatten_tuple_2.result _ _ c.flatten_tuple_2.ensures (found g.B.ExprBuilder.refusal rc_str_bytes c.to_key-key.result _ c.to_key-key.ensures.key) c.expr_to_expr-value.ensures.tree)

pub operand_to_head-items-init : goal.operand_to_head-items-init
operand_to_head-items-init g t c = record { tree = items_start c.args.styles.now (AreBuilt g.B.ExprBuilder.operations g.B.ExprBuilder.meaning) (AreRefused g.B.ExprBuilder.operations) (IsBuilt g.B.ExprBuilder.operations g.B.ExprBuilder.meaning) (IsRefused g.B.ExprBuilder.operations) g.B.ExprBuilder.refusal (Ok c.new.result) c.deref-item-items.result.now record { value = []; is = refl; stands = built_none g.B.ExprBuilder.operations ∙ ap (λ ys. Ok (map g.B.ExprBuilder.meaning ys)) (sym c.new.ensures.items) }; told = none_told c.new.result _ }

pub operand_to_head-items-preserved : goal.operand_to_head-items-preserved
operand_to_head-items-preserved g t c =
    let xs = c.deref-item-items.result.now in
    record { tree = items_more c.args.styles.now (AreBuilt g.B.ExprBuilder.operations g.B.ExprBuilder.meaning) (AreRefused g.B.ExprBuilder.operations) (IsBuilt g.B.ExprBuilder.operations g.B.ExprBuilder.meaning) (IsRefused g.B.ExprBuilder.operations) g.B.ExprBuilder.refusal c.items.made c.pushed-made.result c.expr_to_expr-next.result _ _ _ _ c.items.invariant.tree (cut_at xs xs c.items.item-index c.item-item.result refl c.items-test.true c.item-item.is) c.pushed-made.ensures.trees c.expr_to_expr-next.ensures.tree; told = items_go_on c.args.styles.now c.items.made c.pushed-made.result c.expr_to_expr-next.result _ _ _ _ c.items.invariant.told (cut_at xs xs c.items.item-index c.item-item.result refl c.items-test.true c.item-item.is) c.pushed-made.ensures.shown c.expr_to_expr-next.ensures.shown }

pub operand_to_head-entries-init : goal.operand_to_head-entries-init
operand_to_head-entries-init g t c = record { tree = entries_start c.args.styles.now (AreEntries g.B.ExprBuilder.operations g.B.ExprBuilder.meaning) (AreEntriesRefused g.B.ExprBuilder.operations) (IsEntry g.B.ExprBuilder.operations g.B.ExprBuilder.meaning) (IsEntryRefused g.B.ExprBuilder.operations) g.B.ExprBuilder.refusal (Ok c.new-in-RInits.result) c.deref-entry-items.result.now record { value = []; is = refl; stands = subst (λ ys. EachIsBuilt g.B.ExprBuilder.operations (meant g.B.ExprBuilder.meaning ys) []) (sym c.new-in-RInits.ensures.items) tt }; told = none_told c.new-in-RInits.result _ }

pub operand_to_head-entries-preserved : goal.operand_to_head-entries-preserved
operand_to_head-entries-preserved g t c =
    let xs = c.deref-entry-items.result.now in
    record { tree = entries_more c.args.styles.now (AreEntries g.B.ExprBuilder.operations g.B.ExprBuilder.meaning) (AreEntriesRefused g.B.ExprBuilder.operations) (IsEntry g.B.ExprBuilder.operations g.B.ExprBuilder.meaning) (IsEntryRefused g.B.ExprBuilder.operations) g.B.ExprBuilder.refusal c.entries.pairs c.pushed_entry-pairs.result c.entry_to_pair-pair.result _ _ _ _ c.entries.invariant.tree (cut_at xs xs c.entries.entry-index c.entry-item.result refl c.entries-test.true c.entry-item.is) c.pushed_entry-pairs.ensures.entries c.entry_to_pair-pair.ensures.entry; told = entries_go_on c.args.styles.now c.entries.pairs c.pushed_entry-pairs.result c.entry_to_pair-pair.result _ _ _ _ c.entries.invariant.told (cut_at xs xs c.entries.entry-index c.entry-item.result refl c.entries-test.true c.entry-item.is) c.pushed_entry-pairs.ensures.shown c.entry_to_pair-pair.ensures.shown }

pub access_to_head-values-init : goal.access_to_head-values-init
access_to_head-values-init g t c = record { tree = items_start c.args.styles.now (AreBuilt g.B.ExprBuilder.operations g.B.ExprBuilder.meaning) (AreRefused g.B.ExprBuilder.operations) (IsBuilt g.B.ExprBuilder.operations g.B.ExprBuilder.meaning) (IsRefused g.B.ExprBuilder.operations) g.B.ExprBuilder.refusal (Ok c.new.result) c.deref-arg-items.result.now record { value = []; is = refl; stands = built_none g.B.ExprBuilder.operations ∙ ap (λ ys. Ok (map g.B.ExprBuilder.meaning ys)) (sym c.new.ensures.items) }; told = none_told c.new.result _ }

pub access_to_head-values-preserved : goal.access_to_head-values-preserved
access_to_head-values-preserved g t c =
    let xs = c.deref-arg-items.result.now in
    record { tree = items_more c.args.styles.now (AreBuilt g.B.ExprBuilder.operations g.B.ExprBuilder.meaning) (AreRefused g.B.ExprBuilder.operations) (IsBuilt g.B.ExprBuilder.operations g.B.ExprBuilder.meaning) (IsRefused g.B.ExprBuilder.operations) g.B.ExprBuilder.refusal c.values.values c.pushed-values.result c.expr_to_expr-value.result _ _ _ _ c.values.invariant.tree (cut_at xs xs c.values.arg-index c.arg-item.result refl c.values-test.true c.arg-item.is) c.pushed-values.ensures.trees c.expr_to_expr-value.ensures.tree; told = items_go_on c.args.styles.now c.values.values c.pushed-values.result c.expr_to_expr-value.result _ _ _ _ c.values.invariant.told (cut_at xs xs c.values.arg-index c.arg-item.result refl c.values-test.true c.arg-item.is) c.pushed-values.ensures.shown c.expr_to_expr-value.ensures.shown }

pub operand_to_head-returns-after-items-clause-head : goal.operand_to_head-returns-after-items-clause-head
operand_to_head-returns-after-items-clause-head g t c =
    let xs = c.deref-item-items.result.now in
    let none : drop c.items.item-index xs ≡ [] = grind (arith, common_steps) in
    let all = items_end c.args.styles.now (AreBuilt g.B.ExprBuilder.operations g.B.ExprBuilder.meaning) (AreRefused g.B.ExprBuilder.operations) (IsBuilt g.B.ExprBuilder.operations g.B.ExprBuilder.meaning) (IsRefused g.B.ExprBuilder.operations) g.B.ExprBuilder.refusal c.items.made _ _ c.items.invariant.tree none in
    same_as g.B.ExprBuilder.refusal (IsHead g.B.ExprBuilder.operations g.B.ExprBuilder.meaning) (IsHeadRefused g.B.ExprBuilder.operations) c.set_to_head.result _ _ (primary_list c.args.styles.now c.args.node.now c.in-Some.primary c.in-EList.list c.in-Some.is c.in-EList.is ∙ ap (λ ys. exprs_trees c.args.styles.now (loose.exprs (map shown_expr ys)) >>= λ ts. Some (converting.a_tree (tree.Apply tree.MakeSet (trees ts)))) (sym c.deref-item-items.ensures.value)) (c.set_to_head.ensures.head _ all)

pub operand_to_head-returns-after-entries-clause-head : goal.operand_to_head-returns-after-entries-clause-head
operand_to_head-returns-after-entries-clause-head g t c =
    let xs = c.deref-entry-items.result.now in
    let none : drop c.entries.entry-index xs ≡ [] = grind (arith, common_steps) in
    let all = entries_end c.args.styles.now (AreEntries g.B.ExprBuilder.operations g.B.ExprBuilder.meaning) (AreEntriesRefused g.B.ExprBuilder.operations) (IsEntry g.B.ExprBuilder.operations g.B.ExprBuilder.meaning) (IsEntryRefused g.B.ExprBuilder.operations) g.B.ExprBuilder.refusal c.entries.pairs _ _ c.entries.invariant.tree none in
    same_as g.B.ExprBuilder.refusal (IsHead g.B.ExprBuilder.operations g.B.ExprBuilder.meaning) (IsHeadRefused g.B.ExprBuilder.operations) c.record_to_head.result _ _ (primary_record c.args.styles.now c.args.node.now c.in-Some.primary c.in-RInits.fields c.in-Some.is c.in-RInits.is ∙ ap (λ ys. rec_inits_trees c.args.styles.now (loose.rec_inits (map shown_rec_init ys)) >>= λ ts. record_tree ts >>= λ x. Some (converting.a_tree x)) (sym c.deref-entry-items.ensures.value)) (c.record_to_head.ensures.head _ all)

pub access_to_head-returns-in-Call-clause-head : goal.access_to_head-returns-in-Call-clause-head
access_to_head-returns-in-Call-clause-head g t c v hv =
    let xs = c.deref-arg-items.result.now in
    let none : drop c.values.arg-index xs ≡ [] = grind (arith, common_steps) in
    let all = items_end c.args.styles.now (AreBuilt g.B.ExprBuilder.operations g.B.ExprBuilder.meaning) (AreRefused g.B.ExprBuilder.operations) (IsBuilt g.B.ExprBuilder.operations g.B.ExprBuilder.meaning) (IsRefused g.B.ExprBuilder.operations) g.B.ExprBuilder.refusal c.values.values _ _ c.values.invariant.tree none in
    same_as g.B.ExprBuilder.refusal (IsHead g.B.ExprBuilder.operations g.B.ExprBuilder.meaning) (IsHeadRefused g.B.ExprBuilder.operations) c.call.result _ _ (access_call c.args.styles.now c.args.node.now c.in-Some.access c.in-Call.args v c.in-Some.is c.in-Call.is ∙ ap (λ ys. v >>= λ h. exprs_trees c.args.styles.now (loose.exprs (map shown_expr ys)) >>= λ ts. called c.args.styles.now h ts >>= λ x. Some (converting.a_tree x)) (sym c.deref-arg-items.ensures.value)) (c.call.ensures.head v _ hv all)

pub if_to_expr-returns-in-None-clause-shown : goal.if_to_expr-returns-in-None-clause-shown
unfolding expr_shows
if_to_expr-returns-in-None-clause-shown g t c = fault_seen c.missing.result (expr_shows c.args.styles.now) _ loose.missing_expr _ _ (none_seen loose.missing_expr view_expr c.args.node.now c.in-None.is) c.missing.ensures.kind tt

pub or_to_expr-returns-in-None-clause-shown : goal.or_to_expr-returns-in-None-clause-shown
unfolding or_shows
or_to_expr-returns-in-None-clause-shown g t c = fault_seen c.missing.result (or_shows c.args.styles.now) _ loose.missing_or _ _ (none_seen loose.missing_or view_or c.args.node.now c.in-None.is) c.missing.ensures.kind tt

pub and_to_expr-returns-in-None-clause-shown : goal.and_to_expr-returns-in-None-clause-shown
unfolding and_shows
and_to_expr-returns-in-None-clause-shown g t c = fault_seen c.missing.result (and_shows c.args.styles.now) _ loose.missing_and _ _ (none_seen loose.missing_and view_and c.args.node.now c.in-None.is) c.missing.ensures.kind tt

pub comparison_to_expr-returns-in-None-clause-shown : goal.comparison_to_expr-returns-in-None-clause-shown
unfolding relation_shows
comparison_to_expr-returns-in-None-clause-shown g t c = fault_seen c.missing.result (relation_shows c.args.styles.now) _ loose.missing_relation _ _ (none_seen loose.missing_relation view_relation c.args.node.now c.in-None.is) c.missing.ensures.kind tt

pub sum_to_expr-returns-in-None-clause-shown : goal.sum_to_expr-returns-in-None-clause-shown
unfolding add_shows
sum_to_expr-returns-in-None-clause-shown g t c = fault_seen c.missing.result (add_shows c.args.styles.now) _ loose.missing_add _ _ (none_seen loose.missing_add view_add c.args.node.now c.in-None.is) c.missing.ensures.kind tt

pub mult_to_expr-returns-in-None-clause-shown : goal.mult_to_expr-returns-in-None-clause-shown
unfolding mult_shows
mult_to_expr-returns-in-None-clause-shown g t c = fault_seen c.missing.result (mult_shows c.args.styles.now) _ loose.missing_mult _ _ (none_seen loose.missing_mult view_mult c.args.node.now c.in-None.is) c.missing.ensures.kind tt

pub unary_to_expr-returns-in-None-clause-shown : goal.unary_to_expr-returns-in-None-clause-shown
unfolding unary_shows
unary_to_expr-returns-in-None-clause-shown g t c = fault_seen c.missing.result (unary_shows c.args.styles.now) _ loose.missing_unary _ _ (none_seen loose.missing_unary view_unary c.args.node.now c.in-None.is) c.missing.ensures.kind tt

pub member_to_expr-returns-in-None-clause-shown : goal.member_to_expr-returns-in-None-clause-shown
unfolding member_shows
member_to_expr-returns-in-None-clause-shown g t c = fault_seen c.missing.result (member_shows c.args.styles.now) _ loose.missing_member _ _ (none_seen loose.missing_member view_member c.args.node.now c.in-None.is) c.missing.ensures.kind tt

pub operand_to_head-returns-in-None-clause-shown : goal.operand_to_head-returns-in-None-clause-shown
unfolding primary_shows
operand_to_head-returns-in-None-clause-shown g t c = fault_seen c.missing.result (primary_shows c.args.styles.now) _ loose.missing_primary _ _ (none_seen loose.missing_primary view_primary c.args.node.now c.in-None.is) c.missing.ensures.kind tt

pub entry_to_pair-returns-in-None-clause-shown : goal.entry_to_pair-returns-in-None-clause-shown
unfolding rec_init_shows
entry_to_pair-returns-in-None-clause-shown g t c = fault_seen c.missing.result (rec_init_shows c.args.styles.now) _ loose.missing_rec_init _ _ (none_seen loose.missing_rec_init view_rec_init c.args.node.now c.in-None.is) c.missing.ensures.kind tt

pub if_to_expr-returns-in-Or-clause-shown : goal.if_to_expr-returns-in-Or-clause-shown
unfolding expr_shows
if_to_expr-returns-in-Or-clause-shown g t c =
    let at = one_variant (λ t given. (values_d enum 0 given t).0) (λ a given. refl) c.in-Some.expr c.inner-1.given.0 in
    seen_as c.or_to_expr.result (expr_shows c.args.styles.now) _ _ _ (or_expr_seen c.args.node.now c.in-Some.expr _ c.deref-data.result.now c.in-Or.or c.in-Some.is at c.deref-data.ensures c.in-Or.is) (λ k s. s) c.or_to_expr.ensures.shown

pub if_to_expr-returns-in-If-clause-shown : goal.if_to_expr-returns-in-If-clause-shown
unfolding expr_shows
if_to_expr-returns-in-If-clause-shown g t c =
    let at = one_variant (λ t given. (values_d enum 0 given t).0) (λ a given. refl) c.in-Some.expr c.inner-1.given.0 in
    seen_as c.ite.result (expr_shows c.args.styles.now) _ _ _ (if_expr_seen c.args.node.now c.in-Some.expr _ c.deref-data.result.now c.in-If.test c.in-If.then_expr c.in-If.else_expr c.in-Some.is at c.deref-data.ensures c.in-If.is)
    (of_two_and c.expr_to_expr-tested.result c.expr_to_expr-taken.result (Told c.expr_to_expr-other.result) _ _ _ c.expr_to_expr-tested.ensures.shown c.expr_to_expr-taken.ensures.shown (λ k s. inl s) (λ k s. inr (inl s)) (λ k s. inr (inr (told_each c.expr_to_expr-other.result _ c.expr_to_expr-other.ensures.shown k s)))) c.ite.ensures.shown

pub or_to_expr-returns-after-parts-clause-shown : goal.or_to_expr-returns-after-parts-clause-shown
or_to_expr-returns-after-parts-clause-shown g t c = all_told c.parts.whole _ _ c.parts.invariant.told

pub and_to_expr-returns-after-parts-clause-shown : goal.and_to_expr-returns-after-parts-clause-shown
and_to_expr-returns-after-parts-clause-shown g t c = all_told c.parts.whole _ _ c.parts.invariant.told

pub sum_to_expr-returns-after-parts-clause-shown : goal.sum_to_expr-returns-after-parts-clause-shown
sum_to_expr-returns-after-parts-clause-shown g t c = all_told c.parts.whole _ _ c.parts.invariant.told

pub mult_to_expr-returns-after-parts-clause-shown : goal.mult_to_expr-returns-after-parts-clause-shown
mult_to_expr-returns-after-parts-clause-shown g t c = all_told c.parts.whole _ _ c.parts.invariant.told

pub member_to_expr-returns-after-accesses-clause-shown : goal.member_to_expr-returns-after-accesses-clause-shown
member_to_expr-returns-after-accesses-clause-shown g t c =
    let none : drop c.accesses.access-index c.deref-access-items.result.now ≡ [] = grind (arith, common_steps) in
    accessed_end c.args.styles.now c.accesses.head c.head_to_expr.result c.calls_method-is_called.result _ (subst (λ zs. AccessedSoFar c.args.styles.now c.accesses.head c.calls_method-is_called.result (loose.accesses (map shown_mem_access zs)) (member_shows c.args.styles.now (shown_member c.args.node.now))) none c.accesses.invariant.told) c.head_to_expr.ensures.shown

pub comparison_to_expr-returns-in-None-comparison-clause-shown : goal.comparison_to_expr-returns-in-None-comparison-clause-shown
unfolding relation_shows
comparison_to_expr-returns-in-None-comparison-clause-shown g t c =
    let none = sym c.as_slice.ensures.value ∙ lone_is _ _ None c.in-Ok.ensures.lone c.in-None-comparison.is in
    seen_as c.add_to_expr-first.result (relation_shows c.args.styles.now) _ _ _ (common_seen c.args.node.now c.in-Some.relation c.in-Common.initial c.in-Common.extended [] c.deref-operand.result.now c.in-Some.is c.in-Common.is none c.deref-operand.ensures) (λ k s. s) c.add_to_expr-first.ensures.shown

pub comparison_to_expr-returns-in-Some-comparison-clause-shown : goal.comparison_to_expr-returns-in-Some-comparison-clause-shown
unfolding relation_shows
comparison_to_expr-returns-in-Some-comparison-clause-shown g t c =
    let x = c.in-Some-comparison.link.now in
    let cut = sym c.as_slice.ensures.value ∙ lone_is _ _ (Some c.in-Some-comparison.link) c.in-Ok.ensures.lone c.in-Some-comparison.is in
    seen_as c.join.result (relation_shows c.args.styles.now) _ _ _ (common_seen c.args.node.now c.in-Some.relation c.in-Common.initial c.in-Common.extended (x ∷ []) c.deref-operand.result.now c.in-Some.is c.in-Common.is cut c.deref-operand.ensures)
    (of_two_and c.add_to_expr-first.result c.add_to_expr-second.result (joint_shows (joint.Relation x.0)) _ _ _ c.add_to_expr-first.ensures.shown c.add_to_expr-second.ensures.shown (λ k s. inl s) (λ k s. inr (inl s)) (λ k s. inr (inr s))) c.join.ensures.shown

pub comparison_to_expr-returns-in-Err-clause-shown : goal.comparison_to_expr-returns-in-Err-clause-shown
unfolding relation_shows
comparison_to_expr-returns-in-Err-clause-shown g t c =
    let (x, y, more, are) = two_of _ c.in-Err.ensures.others in
    let cut = sym c.as_slice.ensures.value ∙ are in
    fault_seen c.in-Err.error (relation_shows c.args.styles.now) _ _ _ _ (common_seen c.args.node.now c.in-Some.relation c.in-Common.initial c.in-Common.extended (x ∷ y ∷ more) c.in-Common.initial.value c.in-Some.is c.in-Common.is cut refl) c.in-Err.ensures.kind tt

pub comparison_to_expr-returns-in-Has-clause-shown : goal.comparison_to_expr-returns-in-Has-clause-shown
unfolding relation_shows
comparison_to_expr-returns-in-Has-clause-shown g t c =
    seen_as c.has_to_expr.result (relation_shows c.args.styles.now) _ _ _ (has_seen c.args.node.now c.in-Some.relation c.in-Has.target c.in-Has.field c.deref-holder.result.now c.deref-path.result.now c.in-Some.is c.in-Has.is c.deref-holder.ensures c.deref-path.ensures)
    (of_part_and c.add_to_expr-held.result (attributes_show (shown_add c.deref-path.result.now)) _ _ c.add_to_expr-held.ensures.shown (λ k s. inl s) (λ k s. inr s)) c.has_to_expr.ensures.shown

pub comparison_to_expr-returns-in-Like-clause-shown : goal.comparison_to_expr-returns-in-Like-clause-shown
unfolding relation_shows
comparison_to_expr-returns-in-Like-clause-shown g t c =
    seen_as c.like_to_expr.result (relation_shows c.args.styles.now) _ _ _ (like_seen c.args.node.now c.in-Some.relation c.in-Like.target c.in-Like.pattern c.deref-matched.result.now c.deref-text.result.now c.in-Some.is c.in-Like.is c.deref-matched.ensures c.deref-text.ensures)
    (of_part_and c.add_to_expr-subject.result (pattern_shows (shown_add c.deref-text.result.now)) _ _ c.add_to_expr-subject.ensures.shown (λ k s. inl s) (λ k s. inr s)) c.like_to_expr.ensures.shown

pub comparison_to_expr-returns-in-None-in_entity-clause-shown : goal.comparison_to_expr-returns-in-None-in_entity-clause-shown
unfolding relation_shows
comparison_to_expr-returns-in-None-in_entity-clause-shown g t c =
    seen_as c.is_to_expr.result (relation_shows c.args.styles.now) _ _ _ (is_seen c.args.node.now c.in-Some.relation c.in-IsIn.target c.in-IsIn.entity_type c.in-IsIn.in_entity c.deref-typed.result.now c.deref-named.result.now c.in-Some.is c.in-IsIn.is c.in-None-in_entity.is c.deref-typed.ensures c.deref-named.ensures)
    (of_part_and c.add_to_expr-value.result (type_shows (shown_add c.deref-named.result.now)) _ _ c.add_to_expr-value.ensures.shown (λ k s. inl s) (λ k s. inr s)) c.is_to_expr.ensures.shown

pub comparison_to_expr-returns-in-Some-in_entity-clause-shown : goal.comparison_to_expr-returns-in-Some-in_entity-clause-shown
unfolding relation_shows
comparison_to_expr-returns-in-Some-in_entity-clause-shown g t c =
    seen_as c.is_in_to_expr.result (relation_shows c.args.styles.now) _ _ _ (is_in_seen c.args.node.now c.in-Some.relation c.in-IsIn.target c.in-IsIn.entity_type c.in-IsIn.in_entity c.in-Some-in_entity.entity c.deref-typed.result.now c.deref-named.result.now c.deref-among.result.now c.in-Some.is c.in-IsIn.is c.in-Some-in_entity.is c.deref-typed.ensures c.deref-named.ensures c.deref-among.ensures)
    (of_part_and c.add_to_expr-value.result (λ k. type_shows (shown_add c.deref-named.result.now) k ⊎ Told c.add_to_expr-within.result k) _ _ c.add_to_expr-value.ensures.shown (λ k s. inl s)
    (of_part_or c.add_to_expr-within.result (type_shows (shown_add c.deref-named.result.now)) _ _ c.add_to_expr-within.ensures.shown (λ k s. inr (inl s)) (λ k s. inr (inr s)))) c.is_in_to_expr.ensures.shown

pub unary_to_expr-returns-in-None-op-clause-shown : goal.unary_to_expr-returns-in-None-op-clause-shown
unfolding unary_shows
unary_to_expr-returns-in-None-op-clause-shown g t c = seen_as c.member_to_expr.result (unary_shows c.args.styles.now) _ _ _ (unary_seen c.args.node.now c.in-Some.unary None c.in-Some.is c.in-None-op.is) (λ k s. s) c.member_to_expr.ensures.shown

pub unary_to_expr-returns-in-Bang-clause-shown : goal.unary_to_expr-returns-in-Bang-clause-shown
unfolding unary_shows
unary_to_expr-returns-in-Bang-clause-shown g t c = seen_as c.signed.result (unary_shows c.args.styles.now) _ _ _ (unary_seen c.args.node.now c.in-Some.unary (Some (signs.Bang c.in-Bang.count)) c.in-Some.is (c.in-Some-op.is ∙ ap Some c.in-Bang.is)) (told_each c.member_to_expr-item.result _ c.member_to_expr-item.ensures.shown) c.signed.ensures.shown

pub unary_to_expr-returns-in-OverBang-clause-shown : goal.unary_to_expr-returns-in-OverBang-clause-shown
unfolding unary_shows
unary_to_expr-returns-in-OverBang-clause-shown g t c = fault_seen c.fault.result (unary_shows c.args.styles.now) _ _ _ _ (unary_seen c.args.node.now c.in-Some.unary (Some signs.OverBang) c.in-Some.is (c.in-Some-op.is ∙ ap Some c.in-OverBang.is)) c.fault.ensures.kind refl

pub unary_to_expr-returns-in-OverDash-clause-shown : goal.unary_to_expr-returns-in-OverDash-clause-shown
unfolding unary_shows
unary_to_expr-returns-in-OverDash-clause-shown g t c = fault_seen c.fault-in-OverDash.result (unary_shows c.args.styles.now) _ _ _ _ (unary_seen c.args.node.now c.in-Some.unary (Some signs.OverDash) c.in-Some.is (c.in-Some-op.is ∙ ap Some c.in-OverDash.is)) c.fault-in-OverDash.ensures.kind refl

pub unary_to_expr-returns-in-None-lone_number-clause-shown : goal.unary_to_expr-returns-in-None-lone_number-clause-shown
unfolding unary_shows
unary_to_expr-returns-in-None-lone_number-clause-shown g t c =
    seen_as c.signed-in-None-lone_number.result (unary_shows c.args.styles.now) _ _ _ (unary_seen c.args.node.now c.in-Some.unary (Some (signs.Dash c.in-Dash.count)) c.in-Some.is (c.in-Some-op.is ∙ ap Some c.in-Dash.is))
    (λ k s. dashes_alone c.in-Dash.count _ _ k (sym c.lone_number.ensures ∙ c.in-None-lone_number.is) (told_each c.member_to_expr-item-in-None-lone_number.result _ c.member_to_expr-item-in-None-lone_number.ensures.shown k s)) c.signed-in-None-lone_number.ensures.shown

pub unary_to_expr-returns-then-count-eq0-clause-shown : goal.unary_to_expr-returns-then-count-eq0-clause-shown
unfolding unary_shows
unary_to_expr-returns-then-count-eq0-clause-shown g t c =
    seen_as c.member_to_expr-then-count-eq0.result (unary_shows c.args.styles.now) _ _ _ (unary_seen c.args.node.now c.in-Some.unary (Some (signs.Dash c.in-Dash.count)) c.in-Some.is (c.in-Some-op.is ∙ ap Some c.in-Dash.is))
    (λ k s. no_dashes c.in-Dash.count _ _ k c.if-count-eq0.true s) c.member_to_expr-then-count-eq0.ensures.shown

pub unary_to_expr-returns-else-count-eq0-clause-shown : goal.unary_to_expr-returns-else-count-eq0-clause-shown
unfolding unary_shows
unary_to_expr-returns-else-count-eq0-clause-shown g t c =
    let more : 0 < c.in-Dash.count = omega arith in
    seen_as c.number_to_expr.result (unary_shows c.args.styles.now) _ _ _ (unary_seen c.args.node.now c.in-Some.unary (Some (signs.Dash c.in-Dash.count)) c.in-Some.is (c.in-Some-op.is ∙ ap Some c.in-Dash.is))
    (λ k s. dashes_number c.in-Dash.count _ c.in-Some-lone_number.number _ k (sym c.lone_number.ensures ∙ c.in-Some-lone_number.is) more s) c.number_to_expr.ensures.shown

pub access_to_head-returns-in-None-clause-shown : goal.access_to_head-returns-in-None-clause-shown
unfolding access_shows
access_to_head-returns-in-None-clause-shown g t c b is = fault_seen c.missing.result (access_at c.args.styles.now c.args.head b c.args.is_called) _ loose.missing_access _ _ (none_seen loose.missing_access view_mem_access c.args.node.now c.in-None.is) c.missing.ensures.kind (inr tt)

pub access_to_head-returns-in-Field-clause-shown : goal.access_to_head-returns-in-Field-clause-shown
unfolding access_shows
access_to_head-returns-in-Field-clause-shown g t c b is =
    seen_as c.attribute.result (access_at c.args.styles.now c.args.head b c.args.is_called) _ _ _ (field_seen c.args.node.now c.in-Some.access c.in-Field.id c.in-Some.is c.in-Field.is)
    (in_access c.args.head c.to_unreserved_ident-word.result (head_shows (used_before c.args.is_called (ident_text (shown_ident c.in-Field.id))) c.args.head) (ident_shows (shown_ident c.in-Field.id)) _ c.to_unreserved_ident-word.ensures.shown (λ k s. inr s) (λ k s. inl (used_behind c.args.head b _ k is s))) (c.attribute.ensures.shown _ c.to_unreserved_ident-word.ensures.id)

pub access_to_head-returns-clause-shown : goal.access_to_head-returns-clause-shown
unfolding access_shows
access_to_head-returns-clause-shown g t c b is =
    seen_as c.index.result (access_at c.args.styles.now c.args.head b c.args.is_called) _ _ _ (index_seen c.args.node.now c.in-Some.access c.in-Index.text c.in-Some.is c.in-Index.is)
    (in_access c.args.head c.to_index-key.result (head_shows (used_at (alone (shown_expr c.in-Index.text) >>= primary_text)) c.args.head) (index_shows (shown_expr c.in-Index.text)) _ c.to_index-key.ensures.shown (λ k s. inr s) (λ k s. inl (used_behind c.args.head b _ k is s))) (c.index.ensures.shown _ c.to_index-key.ensures.text)

pub access_to_head-returns-in-Call-clause-shown : goal.access_to_head-returns-in-Call-clause-shown
unfolding access_shows
access_to_head-returns-in-Call-clause-shown g t c b is =
    let xs = c.deref-arg-items.result.now in
    let none : drop c.values.arg-index xs ≡ [] = grind (arith, common_steps) in
    let all = items_end c.args.styles.now (AreBuilt g.B.ExprBuilder.operations g.B.ExprBuilder.meaning) (AreRefused g.B.ExprBuilder.operations) (IsBuilt g.B.ExprBuilder.operations g.B.ExprBuilder.meaning) (IsRefused g.B.ExprBuilder.operations) g.B.ExprBuilder.refusal c.values.values _ _ c.values.invariant.tree none in
    seen_as c.call.result (access_at c.args.styles.now c.args.head b c.args.is_called) _ _ _ (call_seen c.args.node.now c.in-Some.access c.in-Call.args c.in-Some.is c.in-Call.is ∙ ap (λ ys. loose.call (loose.exprs (map shown_expr ys))) (sym c.deref-arg-items.ensures.value))
    (in_access c.args.head c.values.values (called_shows c.args.styles.now c.args.head c.values.values) (exprs_show c.args.styles.now (loose.exprs (map shown_expr xs))) _ (all_told c.values.values _ _ c.values.invariant.told) (λ k s. inl s) (λ k s. inr (called_behind c.args.styles.now c.args.head c.values.values b _ k is (are_counted c.args.styles.now g.B.ExprBuilder.operations g.B.ExprBuilder.meaning g.B.ExprBuilder.refusal c.values.values _ all) s))) c.call.ensures.shown

pub operand_to_head-returns-in-Literal-clause-shown : goal.operand_to_head-returns-in-Literal-clause-shown
unfolding primary_shows
operand_to_head-returns-in-Literal-clause-shown g t c = seen_as c.literal_to_head.result (primary_shows c.args.styles.now) _ _ _ (literal_seen c.args.node.now c.in-Some.primary c.in-Literal.literal c.in-Some.is c.in-Literal.is) (told_each c.to_literal-value.result _ c.to_literal-value.ensures.shown) c.literal_to_head.ensures.shown

pub operand_to_head-returns-in-Ref-clause-shown : goal.operand_to_head-returns-in-Ref-clause-shown
unfolding primary_shows
operand_to_head-returns-in-Ref-clause-shown g t c = seen_as c.entity_to_head.result (primary_shows c.args.styles.now) _ _ _ (ref_seen c.args.node.now c.in-Some.primary c.in-Ref.entity c.deref-reference.result.now c.in-Some.is c.in-Ref.is c.deref-reference.ensures) (told_each c.to_ref-uid.result _ c.to_ref-uid.ensures.shown) c.entity_to_head.ensures.shown

pub operand_to_head-returns-in-Slot-clause-shown : goal.operand_to_head-returns-in-Slot-clause-shown
unfolding primary_shows
operand_to_head-returns-in-Slot-clause-shown g t c = seen_as c.slot_to_head.result (primary_shows c.args.styles.now) _ _ _ (slot_seen c.args.node.now c.in-Some.primary c.in-Slot.slot c.in-Some.is c.in-Slot.is) (told_each c.to_slot-id.result _ c.to_slot-id.ensures.shown) c.slot_to_head.ensures.shown

pub operand_to_head-returns-in-Expr-clause-shown : goal.operand_to_head-returns-in-Expr-clause-shown
unfolding primary_shows
operand_to_head-returns-in-Expr-clause-shown g t c = seen_as c.expr_to_head.result (primary_shows c.args.styles.now) _ _ _ (expr_seen c.args.node.now c.in-Some.primary c.in-Expr.expr c.in-Some.is c.in-Expr.is) (told_each c.expr_to_expr-inner.result _ c.expr_to_expr-inner.ensures.shown) c.expr_to_head.ensures.shown

pub operand_to_head-returns-after-items-clause-shown : goal.operand_to_head-returns-after-items-clause-shown
unfolding primary_shows
operand_to_head-returns-after-items-clause-shown g t c =
    seen_as c.set_to_head.result (primary_shows c.args.styles.now) _ _ _ (list_seen c.args.node.now c.in-Some.primary c.in-EList.list c.in-Some.is c.in-EList.is ∙ ap (λ ys. loose.e_list (loose.exprs (map shown_expr ys))) (sym c.deref-item-items.ensures.value))
    (told_each c.items.made _ (all_told c.items.made _ _ c.items.invariant.told)) c.set_to_head.ensures.shown

pub operand_to_head-returns-after-entries-clause-shown : goal.operand_to_head-returns-after-entries-clause-shown
unfolding primary_shows
operand_to_head-returns-after-entries-clause-shown g t c =
    let xs = c.deref-entry-items.result.now in
    let none : drop c.entries.entry-index xs ≡ [] = grind (arith, common_steps) in
    let all = entries_end c.args.styles.now (AreEntries g.B.ExprBuilder.operations g.B.ExprBuilder.meaning) (AreEntriesRefused g.B.ExprBuilder.operations) (IsEntry g.B.ExprBuilder.operations g.B.ExprBuilder.meaning) (IsEntryRefused g.B.ExprBuilder.operations) g.B.ExprBuilder.refusal c.entries.pairs _ _ c.entries.invariant.tree none in
    seen_as c.record_to_head.result (primary_shows c.args.styles.now) _ _ _ (record_seen c.args.node.now c.in-Some.primary c.in-RInits.fields c.in-Some.is c.in-RInits.is ∙ ap (λ ys. loose.r_inits (loose.rec_inits (map shown_rec_init ys))) (sym c.deref-entry-items.ensures.value))
    (of_part_and c.entries.pairs (entries_show c.entries.pairs) _ _ (all_told c.entries.pairs _ _ c.entries.invariant.told) (λ k s. inl s) (λ k s. inr (keys_behind c.args.styles.now g.B.ExprBuilder.operations g.B.ExprBuilder.meaning g.B.ExprBuilder.refusal c.entries.pairs _ k all s))) c.record_to_head.ensures.shown

pub entry_to_pair-returns-in-Some-clause-shown : goal.entry_to_pair-returns-in-Some-clause-shown
unfolding rec_init_shows
entry_to_pair-returns-in-Some-clause-shown g t c = seen_as c.flatten_tuple_2.result (rec_init_shows c.args.styles.now) _ _ _ (rec_init_seen c.args.node.now c.in-Some.entry c.in-Some.is) (of_two c.to_key-key.result c.expr_to_expr-value.result _ _ _ c.to_key-key.ensures.shown c.expr_to_expr-value.ensures.shown (λ k s. inl s) (λ k s. inr s)) (pair_told c.to_key-key.result c.expr_to_expr-value.result c.flatten_tuple_2.result c.flatten_tuple_2.ensures)

pub expr_to_expr-returns-in-Some-clause-tree : goal.expr_to_expr-returns-in-Some-clause-tree
expr_to_expr-returns-in-Some-clause-tree g t c =
    same_as g.B.ExprBuilder.refusal (IsBuilt g.B.ExprBuilder.operations g.B.ExprBuilder.meaning) (IsRefused g.B.ExprBuilder.operations) c.relation_to_expr.result _ _ (tree_of_relation c.args.styles.now _ _ (sym c.in-Some.ensures.node)) c.relation_to_expr.ensures.tree

pub expr_to_expr-returns-in-Some-enter_or-clause-tree : goal.expr_to_expr-returns-in-Some-enter_or-clause-tree
expr_to_expr-returns-in-Some-enter_or-clause-tree g t c =
    same_as g.B.ExprBuilder.refusal (IsBuilt g.B.ExprBuilder.operations g.B.ExprBuilder.meaning) (IsRefused g.B.ExprBuilder.operations) c.or_to_expr.result _ _ (tree_of_or c.args.styles.now _ _ (sym c.in-Some-enter_or.ensures.node)) c.or_to_expr.ensures.tree

pub relation_to_expr-returns-in-Some-clause-tree : goal.relation_to_expr-returns-in-Some-clause-tree
relation_to_expr-returns-in-Some-clause-tree g t c =
    same_as g.B.ExprBuilder.refusal (IsBuilt g.B.ExprBuilder.operations g.B.ExprBuilder.meaning) (IsRefused g.B.ExprBuilder.operations) c.add_to_expr.result _ _ (tree_of_add c.args.styles.now _ _ (sym c.in-Some.ensures.node)) c.add_to_expr.ensures.tree

pub add_to_expr-returns-in-Some-clause-tree : goal.add_to_expr-returns-in-Some-clause-tree
add_to_expr-returns-in-Some-clause-tree g t c =
    same_as g.B.ExprBuilder.refusal (IsBuilt g.B.ExprBuilder.operations g.B.ExprBuilder.meaning) (IsRefused g.B.ExprBuilder.operations) c.member_to_expr.result _ _ (tree_of_member c.args.styles.now _ _ (sym c.in-Some.ensures.node)) c.member_to_expr.ensures.tree

pub primary_to_head-returns-in-Some-clause-head : goal.primary_to_head-returns-in-Some-clause-head
primary_to_head-returns-in-Some-clause-head g t c =
    same_as g.B.ExprBuilder.refusal (IsHead g.B.ExprBuilder.operations g.B.ExprBuilder.meaning) (IsHeadRefused g.B.ExprBuilder.operations) c.expr_to_head.result _ _ (head_in_brackets c.args.styles.now _ _ (sym c.in-Some.ensures.node)) (c.expr_to_head.ensures.head _ c.expr_to_expr-inner.ensures.tree)

pub expr_to_expr-returns-in-Some-clause-shown : goal.expr_to_expr-returns-in-Some-clause-shown
unfolding expr_shows or_shows and_shows
expr_to_expr-returns-in-Some-clause-shown g t c =
    seen_as c.relation_to_expr.result (expr_shows c.args.styles.now) _ _ _ (is_around_relation _ _ (sym c.in-Some.ensures.node)) (λ k s. inl (inl s)) c.relation_to_expr.ensures.shown

pub expr_to_expr-returns-in-Some-enter_or-clause-shown : goal.expr_to_expr-returns-in-Some-enter_or-clause-shown
unfolding expr_shows
expr_to_expr-returns-in-Some-enter_or-clause-shown g t c =
    seen_as c.or_to_expr.result (expr_shows c.args.styles.now) _ _ _ (is_around_or _ _ (sym c.in-Some-enter_or.ensures.node)) (λ k s. s) c.or_to_expr.ensures.shown

pub relation_to_expr-returns-in-Some-clause-shown : goal.relation_to_expr-returns-in-Some-clause-shown
unfolding relation_shows
relation_to_expr-returns-in-Some-clause-shown g t c =
    seen_as c.add_to_expr.result (relation_shows c.args.styles.now) _ _ _ (is_around_add _ _ (sym c.in-Some.ensures.node)) (λ k s. s) c.add_to_expr.ensures.shown

pub add_to_expr-returns-in-Some-clause-shown : goal.add_to_expr-returns-in-Some-clause-shown
unfolding add_shows mult_shows unary_shows
add_to_expr-returns-in-Some-clause-shown g t c =
    seen_as c.member_to_expr.result (add_shows c.args.styles.now) _ _ _ (is_around_member _ _ (sym c.in-Some.ensures.node)) (λ k s. inl (inl s)) c.member_to_expr.ensures.shown

pub primary_to_head-returns-in-Some-clause-shown : goal.primary_to_head-returns-in-Some-clause-shown
unfolding primary_shows
primary_to_head-returns-in-Some-clause-shown g t c =
    seen_as c.expr_to_head.result (primary_shows c.args.styles.now) _ _ _ (is_bracketed _ _ (sym c.in-Some.ensures.node)) (told_each c.expr_to_expr-inner.result _ c.expr_to_expr-inner.ensures.shown) c.expr_to_head.ensures.shown

pub expr_to_expr-relation_to_expr-requires : goal.expr_to_expr-relation_to_expr-requires
expr_to_expr-relation_to_expr-requires g t c = λ κs h.
    let x = c.in-Some.relation.now.node in
    let y = c.args.node.now.node in (
      rw (sym c.decreases) (by_value x
          (λ i. rw i (by_value y (λ j. rw j (omega (arith, c.in-Some.ensures.below, ap (depth size-Relation) i, ap (depth size-Expr) j))) (λ e j. rw j (omega (arith, c.in-Some.ensures.below, ap (depth size-Relation) i, ap (depth size-Expr) j)))))
          (λ a i. rw i (by_value y (λ j. rw j (omega (arith, c.in-Some.ensures.below, ap (depth size-Relation) i, ap (depth size-Expr) j))) (λ e j. rw j (omega (arith, c.in-Some.ensures.below, ap (depth size-Relation) i, ap (depth size-Expr) j)))))),
      h,
    )

pub expr_to_expr-or_to_expr-requires : goal.expr_to_expr-or_to_expr-requires
expr_to_expr-or_to_expr-requires g t c = λ κs h.
    let x = c.in-Some-enter_or.or.now.node in
    let y = c.args.node.now.node in (
      rw (sym c.decreases) (by_value x
          (λ i. rw i (by_value y (λ j. rw j (omega (arith, c.in-Some-enter_or.ensures.below, ap (depth size-Or) i, ap (depth size-Expr) j))) (λ e j. rw j (omega (arith, c.in-Some-enter_or.ensures.below, ap (depth size-Or) i, ap (depth size-Expr) j)))))
          (λ a i. rw i (by_value y (λ j. rw j (omega (arith, c.in-Some-enter_or.ensures.below, ap (depth size-Or) i, ap (depth size-Expr) j))) (λ e j. rw j (omega (arith, c.in-Some-enter_or.ensures.below, ap (depth size-Or) i, ap (depth size-Expr) j)))))),
      h,
    )

pub relation_to_expr-add_to_expr-requires : goal.relation_to_expr-add_to_expr-requires
relation_to_expr-add_to_expr-requires g t c = λ κs h.
    let x = c.in-Some.add.now.node in
    let y = c.args.node.now.node in (
      rw (sym c.decreases) (by_value x
          (λ i. rw i (by_value y (λ j. rw j (omega (arith, c.in-Some.ensures.below, ap (depth size-Add) i, ap (depth size-Relation) j))) (λ e j. rw j (omega (arith, c.in-Some.ensures.below, ap (depth size-Add) i, ap (depth size-Relation) j)))))
          (λ a i. rw i (by_value y (λ j. rw j (omega (arith, c.in-Some.ensures.below, ap (depth size-Add) i, ap (depth size-Relation) j))) (λ e j. rw j (omega (arith, c.in-Some.ensures.below, ap (depth size-Add) i, ap (depth size-Relation) j)))))),
      h,
    )

pub add_to_expr-member_to_expr-requires : goal.add_to_expr-member_to_expr-requires
add_to_expr-member_to_expr-requires g t c = λ κs h.
    let x = c.in-Some.member.now.node in
    let y = c.args.node.now.node in (
      rw (sym c.decreases) (by_value x
          (λ i. rw i (by_value y (λ j. rw j (omega (arith, c.in-Some.ensures.below, ap (depth size-Member) i, ap (depth size-Add) j))) (λ e j. rw j (omega (arith, c.in-Some.ensures.below, ap (depth size-Member) i, ap (depth size-Add) j)))))
          (λ a i. rw i (by_value y (λ j. rw j (omega (arith, c.in-Some.ensures.below, ap (depth size-Member) i, ap (depth size-Add) j))) (λ e j. rw j (omega (arith, c.in-Some.ensures.below, ap (depth size-Member) i, ap (depth size-Add) j)))))),
      h,
    )

pub primary_to_head-expr_to_expr-inner-requires : goal.primary_to_head-expr_to_expr-inner-requires
primary_to_head-expr_to_expr-inner-requires g t c = λ κs h.
    let x = c.in-Some.expr.now.node in
    let y = c.args.node.now.node in (
      rw (sym c.decreases) (by_value x
          (λ i. rw i (by_value y (λ j. rw j (omega (arith, c.in-Some.ensures.below, ap (depth size-Expr) i, ap (depth size-Primary) j))) (λ e j. rw j (omega (arith, c.in-Some.ensures.below, ap (depth size-Expr) i, ap (depth size-Primary) j)))))
          (λ a i. rw i (by_value y (λ j. rw j (omega (arith, c.in-Some.ensures.below, ap (depth size-Expr) i, ap (depth size-Primary) j))) (λ e j. rw j (omega (arith, c.in-Some.ensures.below, ap (depth size-Expr) i, ap (depth size-Primary) j)))))),
      h,
    )

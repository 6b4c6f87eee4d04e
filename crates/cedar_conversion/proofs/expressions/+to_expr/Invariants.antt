use Rattle.std.proofs.Common.{map, drop}
use Rattle.cedar_grammar.specs.Loose as loose
use Rattle.cedar_grammar.specs.Converting.{or_tree, ands_tree, and_tree, relations_tree, add_tree, mults_tree, mult_tree, unaries_tree, member_tree, accesses_tree, exprs_trees, rec_inits_trees}
use Rattle.cedar_cst.specs.LeafView.{view_add_op, view_mult_op}
use Rattle.cedar_cst.specs.View.{shown_expr, shown_or, shown_and, shown_relation, shown_add, shown_mult, shown_unary, shown_member, shown_mem_access, shown_rec_init}
use Rattle.cedar_conversion.specs.Building.{IsBuilt, IsRefused, AreBuilt, AreRefused}
use Rattle.cedar_conversion.specs.Entries.{AreEntries, AreEntriesRefused}
use Rattle.cedar_conversion.specs.Heads.{IsHead, IsHeadRefused}
use Rattle.cedar_conversion.specs.SoFar.{SoFar, ToldSoFar, AccessedSoFar}
use Rattle.cedar_conversion.specs.Shows.{or_shows, ands_show, and_shows, relations_show, add_shows, mults_show, mult_shows, unaries_show, member_shows, exprs_show, rec_inits_show}
use Rattle.cedar_conversion.proofs.Trees.{items_rest, entries_rest}
use Rattle.cedar_conversion.proofs.expressions.+to_expr.Given as goal

abbrev pub invariant-or_to_expr-parts : goal.invariant-or_to_expr-parts
invariant-or_to_expr-parts g l = record {
  tree : SoFar (IsBuilt g.B.ExprBuilder.operations g.B.ExprBuilder.meaning) (IsRefused g.B.ExprBuilder.operations) g.B.ExprBuilder.refusal l.whole (or_tree l.styles (shown_or l.node)) (λ x. ands_tree l.styles x (loose.ands (map shown_and (drop l.part-index l.part-items))));
  told : ToldSoFar l.whole (ands_show l.styles (loose.ands (map shown_and (drop l.part-index l.part-items)))) (or_shows l.styles (shown_or l.node));
}

abbrev pub invariant-and_to_expr-parts : goal.invariant-and_to_expr-parts
invariant-and_to_expr-parts g l = record {
  tree : SoFar (IsBuilt g.B.ExprBuilder.operations g.B.ExprBuilder.meaning) (IsRefused g.B.ExprBuilder.operations) g.B.ExprBuilder.refusal l.whole (and_tree l.styles (shown_and l.node)) (λ x. relations_tree l.styles x (loose.relations (map shown_relation (drop l.part-index l.part-items))));
  told : ToldSoFar l.whole (relations_show l.styles (loose.relations (map shown_relation (drop l.part-index l.part-items)))) (and_shows l.styles (shown_and l.node));
}

abbrev pub invariant-sum_to_expr-parts : goal.invariant-sum_to_expr-parts
invariant-sum_to_expr-parts g l = record {
  tree : SoFar (IsBuilt g.B.ExprBuilder.operations g.B.ExprBuilder.meaning) (IsRefused g.B.ExprBuilder.operations) g.B.ExprBuilder.refusal l.whole (add_tree l.styles (shown_add l.node)) (λ x. mults_tree l.styles x (loose.mults (map {B = loose.AddOp × loose.Mult} (λ x. (view_add_op x.0, shown_mult x.1)) (drop l.part-index l.part-items))));
  told : ToldSoFar l.whole (mults_show l.styles (loose.mults (map {B = loose.AddOp × loose.Mult} (λ x. (view_add_op x.0, shown_mult x.1)) (drop l.part-index l.part-items)))) (add_shows l.styles (shown_add l.node));
}

abbrev pub invariant-mult_to_expr-parts : goal.invariant-mult_to_expr-parts
invariant-mult_to_expr-parts g l = record {
  tree : SoFar (IsBuilt g.B.ExprBuilder.operations g.B.ExprBuilder.meaning) (IsRefused g.B.ExprBuilder.operations) g.B.ExprBuilder.refusal l.whole (mult_tree l.styles (shown_mult l.node)) (λ x. unaries_tree l.styles x (loose.unaries (map {B = loose.MultOp × loose.Unary} (λ x. (view_mult_op x.0, shown_unary x.1)) (drop l.part-index l.part-items))));
  told : ToldSoFar l.whole (unaries_show l.styles (loose.unaries (map {B = loose.MultOp × loose.Unary} (λ x. (view_mult_op x.0, shown_unary x.1)) (drop l.part-index l.part-items)))) (mult_shows l.styles (shown_mult l.node));
}

abbrev pub invariant-member_to_expr-accesses : goal.invariant-member_to_expr-accesses
invariant-member_to_expr-accesses g l = record {
  tree : SoFar (IsHead g.B.ExprBuilder.operations g.B.ExprBuilder.meaning) (IsHeadRefused g.B.ExprBuilder.operations) g.B.ExprBuilder.refusal l.head (member_tree l.styles (shown_member l.node)) (λ h. accesses_tree l.styles h (loose.accesses (map shown_mem_access (drop l.access-index l.access-items))));
  told : AccessedSoFar l.styles l.head l.is_called (loose.accesses (map shown_mem_access (drop l.access-index l.access-items))) (member_shows l.styles (shown_member l.node));
}

abbrev pub invariant-operand_to_head-items : goal.invariant-operand_to_head-items
invariant-operand_to_head-items g l = record {
  tree : SoFar (AreBuilt g.B.ExprBuilder.operations g.B.ExprBuilder.meaning) (AreRefused g.B.ExprBuilder.operations) g.B.ExprBuilder.refusal l.made (exprs_trees l.styles (loose.exprs (map shown_expr l.item-items))) (items_rest l.styles (drop l.item-index l.item-items));
  told : ToldSoFar l.made (exprs_show l.styles (loose.exprs (map shown_expr (drop l.item-index l.item-items)))) (exprs_show l.styles (loose.exprs (map shown_expr l.item-items)));
}

abbrev pub invariant-operand_to_head-entries : goal.invariant-operand_to_head-entries
invariant-operand_to_head-entries g l = record {
  tree : SoFar (AreEntries g.B.ExprBuilder.operations g.B.ExprBuilder.meaning) (AreEntriesRefused g.B.ExprBuilder.operations) g.B.ExprBuilder.refusal l.pairs (rec_inits_trees l.styles (loose.rec_inits (map shown_rec_init l.entry-items))) (entries_rest l.styles (drop l.entry-index l.entry-items));
  told : ToldSoFar l.pairs (rec_inits_show l.styles (loose.rec_inits (map shown_rec_init (drop l.entry-index l.entry-items)))) (rec_inits_show l.styles (loose.rec_inits (map shown_rec_init l.entry-items)));
}

abbrev pub invariant-access_to_head-values : goal.invariant-access_to_head-values
invariant-access_to_head-values g l = record {
  tree : SoFar (AreBuilt g.B.ExprBuilder.operations g.B.ExprBuilder.meaning) (AreRefused g.B.ExprBuilder.operations) g.B.ExprBuilder.refusal l.values (exprs_trees l.styles (loose.exprs (map shown_expr l.arg-items))) (items_rest l.styles (drop l.arg-index l.arg-items));
  told : ToldSoFar l.values (exprs_show l.styles (loose.exprs (map shown_expr (drop l.arg-index l.arg-items)))) (exprs_show l.styles (loose.exprs (map shown_expr l.arg-items)));
}

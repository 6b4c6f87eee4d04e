-- A clause is what its word makes of its condition, and lacks where one of these does.
use Rattle.std.proofs.Common.{Ok, Err, ap, ◌∙◌}
use Rattle.std.specs.Option.{option_map}
use Rattle.cedar_grammar.specs.Converting.{clause_by}
use Rattle.cedar_cst.specs.LeafView.{shown_ident}
use Rattle.cedar_cst.specs.View.{shown_expr}
use Rattle.cedar_trees.specs.Bare.{bare}
use Rattle.cedar_faults.specs.Reasons.{reason}
use Rattle.cedar_faults.proofs.Telling.{handed_on}
use Rattle.cedar_policy_conversion.specs.Clauses.{clause_word, word_of, condition_tree}
use Rattle.cedar_policy_conversion.proofs.Gathering.{both_found, no_pair, a_pair, lacks_more, passed, paired}
use Rattle.cedar_policy_conversion.proofs.Joining.{clause_of_parts}
use Rattle.cedar_policy_conversion.proofs.InClauses.{clause_tells}
use Rattle.cedar_policy_conversion.proofs.clauses.to_clause.Goals as goal

pub returns-in_err-word-clause-clause : goal.returns-in_err-word-clause-clause
returns-in_err-word-clause-clause c =
    let v = clause_word (shown_ident c.in-Some.cond.cond) in
    let w = condition_tree c.args.styles.now (option_map shown_expr c.in-Some.cond.expr) in
    let e = c.in_err-word.field-0.0 in
    let none = both_found word_of bare c.to_clause_word-word.result c.to_condition-expr.result (Err e) v w c.in_err-word.ensures c.to_clause_word-word.ensures.word c.to_condition-expr.ensures.tree in
    passed bare c.from_residual.result e _ c.from_residual.ensures
    (lacks_more (reason e) (paired v w) _ (λ h. clause_of_parts c.args.styles.now c.args.node.now c.in-Some.cond c.in-Some.is ∙ no_pair v w clause_by h) none)

pub returns-in-When-clause-clause : goal.returns-in-When-clause-clause
returns-in-When-clause-clause c =
    let v = clause_word (shown_ident c.in-Some.cond.cond) in
    let w = condition_tree c.args.styles.now (option_map shown_expr c.in-Some.cond.expr) in
    let x = c.in_ok-word.word in
    let t = bare c.in_ok-word.expr in
    let both = both_found word_of bare c.to_clause_word-word.result c.to_condition-expr.result (Ok (x, c.in_ok-word.expr)) v w c.in_ok-word.ensures c.to_clause_word-word.ensures.word c.to_condition-expr.ensures.tree in
    clause_of_parts c.args.styles.now c.args.node.now c.in-Some.cond c.in-Some.is
    ∙ a_pair v w clause_by (word_of x, t) both
    ∙ ap (λ y. clause_by (word_of y) t) c.in-When.is

pub returns-in_err-word-clause-shown : goal.returns-in_err-word-clause-shown
returns-in_err-word-clause-shown c =
    handed_on c.from_residual.result _ _ c.from_residual.ensures
    (clause_tells c.args.styles.now c.args.node.now c.in-Some.cond c.in-Some.is c.to_clause_word-word.result c.to_condition-expr.result _ c.in_err-word.ensures c.to_clause_word-word.ensures.shown c.to_condition-expr.ensures.shown)

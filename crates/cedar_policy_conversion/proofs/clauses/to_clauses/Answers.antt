-- The clauses before a node, joined by `&&` with the one there, are those before the next node.
use Rattle.std.proofs.Common.{inl, inr, map, take, sym, ap, ◌∙◌, subst}
use Rattle.std.specs.Option.{option_map}
use Rattle.cedar_grammar.specs.Converting.{clause}
use Rattle.cedar_cst.specs.View.{shown_cond}
use Rattle.cedar_trees.specs.Bare.{bare}
use Rattle.cedar_faults.specs.Converts.{Finds}
use Rattle.cedar_faults.proofs.Telling.{at_item}
use Rattle.cedar_policy_conversion.specs.Clauses.{clauses_of}
use Rattle.cedar_policy_conversion.specs.ClausesShow.{clause_shows, clauses_show}
use Rattle.cedar_policy_conversion.proofs.Gathering.{seen_more}
use Rattle.cedar_policy_conversion.proofs.Joining.{clauses_more}
use Rattle.cedar_policy_conversion.proofs.Showing.{both_show}
use Rattle.cedar_policy_conversion.proofs.clauses.to_clauses.Goals as goal

pub loop-node-preserved : goal.loop-node-preserved
loop-node-preserved c =
    let names = c.args.styles.now in
    let nodes = c.args.nodes.now.items in
    let items = c.deref-node-items.result.now in
    let i = c.loop-node.node-index in
    let x = c.node-item.result in
    let before = map shown_cond (take i nodes) in
    let more = seen_more shown_cond nodes items i x c.deref-node-items.ensures.value c.loop-node-test.true c.node-item.is in
    record {
      clauses = subst (Finds (option_map bare) c.join_clause-clauses.result)
          (sym (ap (clauses_of names) more ∙ clauses_more names before (shown_cond x)))
          (c.join_clause-clauses.ensures.joined (clauses_of names before) (clause names (shown_cond x)) c.loop-node.invariant.clauses c.to_clause-next.ensures.clause);
      shown = both_show c.loop-node.clauses c.to_clause-next.result (clauses_show names (map shown_cond nodes)) (clause_shows names (shown_cond x)) (clauses_show names (map shown_cond nodes)) c.join_clause-clauses.result c.join_clause-clauses.ensures.told c.loop-node.invariant.shown c.to_clause-next.ensures.shown
          (λ k s. s) (λ k s. subst (λ ys. clauses_show names (map shown_cond ys) k) c.deref-node-items.ensures.value (at_item (λ ys. clauses_show names (map shown_cond ys) k) (λ y ys later. inr later) items i x c.loop-node-test.true c.node-item.is (inl s)));
    }

-- What those before it told, or one more annotation shows, is told of all.
use Rattle.std.proofs.Common.{◌⊎◌, inl, inr}
use Rattle.cedar_grammar.specs.Build.{keys}
use Rattle.cedar_cst.specs.View.{shown_annotation}
use Rattle.cedar_faults.specs.Telling.{Told}
use Rattle.cedar_faults.proofs.Telling.{flat_shows, handed_on}
use Rattle.cedar_policy_conversion.specs.PartsShow.{annotation_shows, again_shows}
use Rattle.cedar_policy_conversion.proofs.Showing.{itself_tells}
use Rattle.cedar_policy_conversion.proofs.annotations.insert_next.Goals as goal

pub returns-in_err-flatten_tuple_2-clause-told : goal.returns-in_err-flatten_tuple_2-clause-told
returns-in_err-flatten_tuple_2-clause-told g c =
    let x = shown_annotation c.args.node.now in
    let ks = keys c.args.notes.now.entries in
    handed_on c.from_residual.result _ _ c.from_residual.ensures
    (flat_shows c.args.earlier c.insert_node-next.result _ (λ k. Told c.args.earlier k) (λ k. annotation_shows x k ⊎ again_shows ks x k) _ c.in_err-flatten_tuple_2.ensures (itself_tells c.args.earlier) c.insert_node-next.ensures.shown (λ k s. inl s) (λ k s. inr s))

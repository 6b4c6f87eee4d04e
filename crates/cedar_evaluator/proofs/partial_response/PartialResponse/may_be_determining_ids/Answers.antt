-- The ids of the open forbids go last, after those that the satisfied forbids decide on.
use Rattle.std.proofs.Common.{true, false, ◌++◌, sym, ◌∙◌, ap}
use Rattle.std.specs.Map.{keys_of}
use Rattle.std.specs.Vec.{vec_items}
use Rattle.cedar_evaluator.proofs.Reading.{may_in}
use Rattle.cedar_evaluator.proofs.partial_response.PartialResponse.may_be_determining_ids.Goals as goal
use Rattle.cedar_evaluator.proofs.partial_response.PartialResponse.may_be_determining_ids.Goals.{then-has_any+in_ok-ids, else-has_any+in_ok-ids-2+in_ok-push_keys}

pub returns : goal.returns
returns c =
    let r = c.args.self.now in
    c.in_ok-push_keys-2.ensures ∙ elim c.if-has_any.branch [
      | then-has_any+in_ok-ids w ↦
          ap (λ l. l ++ keys_of r.residual_forbids) (ap vec_items w.ids-is ∙ w.in_ok-ids.ensures)
          ∙ sym (may_in r true (sym w.if-has_any.true ∙ c.has_any.ensures))
      | else-has_any+in_ok-ids-2+in_ok-push_keys w ↦
          ap (λ l. l ++ keys_of r.residual_forbids) (ap vec_items w.ids-is ∙ w.in_ok-push_keys.ensures ∙ ap (λ l. l ++ keys_of r.residual_permits) w.in_ok-ids-2.ensures)
          ∙ sym (may_in r false (sym w.if-has_any.false ∙ c.has_any.ensures))
    ]

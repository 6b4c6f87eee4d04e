-- The ids of the group that decides.
use Rattle.std.proofs.Common.{true, false, sym, ◌∙◌}
use Rattle.cedar_evaluator.proofs.Reading.{must_in}
use Rattle.cedar_evaluator.proofs.Responding.{if_ok}
use Rattle.cedar_evaluator.proofs.partial_response.PartialResponse.must_be_determining_ids.Goals as goal

pub returns-then-has_forbids : goal.returns-then-has_forbids
returns-then-has_forbids c = if_ok c.keys.result (λ ids are. are ∙ sym (must_in c.args.self.now true (sym c.if-has_forbids.true ∙ c.has_forbids.ensures))) c.keys.ensures

pub returns-else-has_forbids : goal.returns-else-has_forbids
returns-else-has_forbids c = if_ok c.keys-else-has_forbids.result (λ ids are. are ∙ sym (must_in c.args.self.now false (sym c.if-has_forbids.false ∙ c.has_forbids.ensures))) c.keys-else-has_forbids.ensures

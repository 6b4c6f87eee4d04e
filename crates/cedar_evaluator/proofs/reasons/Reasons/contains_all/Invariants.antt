-- The ids so far are among these, so the rest decides.
use Rattle.std.proofs.Common.{◌≡◌}
use Rattle.std.specs.List.{list_all}
use Rattle.std.specs.Set.{is_member}
use Rattle.cedar_language.specs.Order.{same_text}
use Rattle.cedar_evaluator.proofs.reasons.Reasons.contains_all.Given as goal

abbrev pub invariant-loop-id : goal.invariant-loop-id
invariant-loop-id l = list_all (is_member same_text l.self) l.id-iterator ≡ list_all (is_member same_text l.self) l.ids

-- What was asked of each two neighbours holds of all.
use Rattle.std.specs.Prelude.{Bool, true, false, IsTrue}
use Rattle.std.proofs.Common.{List}
use Rattle.std.specs.Ordering.{is_lt}
use Rattle.std.specs.List.{IsAllAdjacentAnswer}
use Rattle.std.specs.List.Sorted.{IsStrictlySortedBy}
use Rattle.cedar_language.specs.Uid.{Text}
use Rattle.cedar_world.specs.Orders.{text_cmp}
use Rattle.cedar_replies.proofs.Rising.{adjacent_rise}
use Rattle.std.proofs.lemmas.List.Sorted.{answers_always}
use Rattle.cedar_replies.proofs.runs.rise.Goals as goal
use Rattle.std.proofs.Common.{rules, ◌≡◌}

by_answer : (ids : List Text) (b : Bool) → IsAllAdjacentAnswer (λ x y a. a ≡ is_lt (text_cmp x y)) ids b → IsTrue b → IsStrictlySortedBy text_cmp ids
by_answer ids true found t = adjacent_rise ids found
by_answer ids false found t = cc

pub returns : goal.returns
returns c = by_answer c.args.ids.now c.is_sorted_by.result (c.is_sorted_by.ensures.cases (λ x y. is_lt (text_cmp x y)) (answers_always _ _ _ (λ f a r q k. search rules)))

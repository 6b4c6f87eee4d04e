-- Ids of which one stands twice aren't apart.
use Rattle.std.proofs.Common.{List, sym, ◌∙◌, subst, true≢false}
use Rattle.std.specs.List.{IsDistinct}
use Rattle.cedar_language.specs.Order.{same_text}
use Rattle.cedar_language.specs.Uid.{Text}
use Rattle.cedar_policy_set.proofs.Distinct.{distinct_apart}
use Rattle.cedar_evaluator.specs.Reauthorizing.{IsFirstTwice}

pub not_apart : (ids : List Text) (id : Text) → IsFirstTwice ids id → IsDistinct same_text ids → ⊥
not_apart ids id twice apart = true≢false (sym twice.again ∙ distinct_apart twice.before id twice.after (subst (IsDistinct same_text) twice.order apart))

-- The names for which what is left of policies waits: until one of them has a value, a response says what it said.
use Rattle.std.specs.Prelude.{List, All}
use Rattle.cedar_language.specs.Uid.{Text}
use Rattle.cedar_partial_evaluation.specs.Waiting.{IsUntoldIn}
use Rattle.cedar_world.specs.Answer.{Answer}
use Rattle.cedar_world.specs.Asking.{Told}
use Rattle.cedar_replies.specs.declared.error_kind.ErrorKind.{ErrorKind}
use Rattle.cedar_evaluator.specs.Responses.{Holding}
use Rattle.cedar_asking.specs.Laws.{SaysHeld}

-- no name that stands in what is left of a policy has a value
abbrev pub LeftIsUntold : Holding → Told → Type 0
LeftIsUntold h told = All (λ e. IsUntoldIn told e.1) h.open_permits × All (λ e. IsUntoldIn told e.1) h.open_forbids

-- until one has, the answer is what the response says
abbrev pub SaysUntilTold : Holding → Told → Answer → Type 0
SaysUntilTold h told answer = LeftIsUntold h told → (listed : List (Text × ErrorKind)) × SaysHeld h listed answer

-- What failures of an evaluation are refused as.
use Rattle.cedar_extensions.specs.Failures.{Failure, OfKind, LimitMet, MemoryRanOut}
use Rattle.cedar_replies.specs.declared.refusal.Refusal.{Refusal}
use Rattle.cedar_replies.specs.declared.refusal.Refusal.TheVariants.{Depth, Evaluation, Memory}

abbrev pub refusal_by : Failure → Refusal
refusal_by (OfKind k) = Evaluation
refusal_by LimitMet = Depth
refusal_by MemoryRanOut = Memory

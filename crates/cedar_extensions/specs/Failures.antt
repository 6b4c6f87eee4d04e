-- What errors say of the meaning: an error of one of its kinds, or a bound of the evaluation's own that was met.
use Rattle.std.specs.Prelude.{Option, Some, None}
use Rattle.cedar_language.specs.Value as language
use Rattle.cedar_language.specs.Value.{Kind}
use Rattle.cedar_extensions.specs.Causes.{Cause, NoEntity, NoAttribute, NoTag, NoKey, NoFunction, OtherType, OtherCount, Overflow, Unlinked, NoAnswer, Residual, TooDeep, OutOfMemory, cause_of}
use Rattle.cedar_extensions.specs.declared.evaluation_error.EvaluationError.{EvaluationError}

pub data Failure : Type 0 where
  OfKind : Kind → Failure
  LimitMet : Failure
  MemoryRanOut : Failure

abbrev pub failure_by : Cause → Failure
failure_by (NoEntity u) = OfKind language.EntityDoesNotExist
failure_by (NoAttribute u a) = OfKind language.EntityAttrDoesNotExist
failure_by (NoTag u a) = OfKind language.EntityAttrDoesNotExist
failure_by (NoKey a) = OfKind language.RecordAttrDoesNotExist
failure_by (NoFunction f) = OfKind language.FailedExtensionFunctionLookup
failure_by (OtherType tys ty) = OfKind language.TypeError
failure_by (OtherCount f m n) = OfKind language.WrongNumArguments
failure_by (Overflow op vs) = OfKind language.IntegerOverflow
failure_by (Unlinked s) = OfKind language.UnlinkedSlot
failure_by (NoAnswer f s) = OfKind language.FailedExtensionFunctionExecution
failure_by (Residual t) = OfKind language.NonValue
failure_by TooDeep = LimitMet
failure_by OutOfMemory = MemoryRanOut

abbrev pub failure_of : EvaluationError → Failure
failure_of e = failure_by (cause_of e)

abbrev pub kind_in : Failure → Option Kind
kind_in (OfKind k) = Some k
kind_in LimitMet = None
kind_in MemoryRanOut = None

-- the kind that an answer may show; a limit that was met, or want of memory, has none
abbrev pub kind_of : EvaluationError → Option Kind
kind_of e = kind_in (failure_of e)

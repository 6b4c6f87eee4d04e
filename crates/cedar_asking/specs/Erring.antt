-- The errors of policies, by the names that an answer has for their kinds.
use Rattle.std.specs.Prelude.{◌≡◌, ⊤, true, Result, Ok, Err, List, Contains, map}
use Rattle.std.specs.Global.{Vec}
use Rattle.cedar_language.specs.Uid.{Text}
use Rattle.cedar_language.specs.Value as language
use Rattle.cedar_extensions.specs.Failures.{Failure, OfKind, LimitMet, MemoryRanOut}
use Rattle.cedar_replies.specs.Erring.{has_kind, have_kinds}
use Rattle.cedar_replies.specs.declared.error_kind.ErrorKind.{ErrorKind}
use Rattle.cedar_replies.specs.declared.error_kind.ErrorKind.TheVariants.{EntityDoesNotExist, EntityAttrDoesNotExist, RecordAttrDoesNotExist, FailedExtensionFunctionLookup, TypeError, WrongNumArguments, IntegerOverflow, UnlinkedSlot, FailedExtensionFunctionExecution, NonValue, RecursionLimit, Memory}
use Rattle.cedar_replies.specs.declared.refusal.Refusal.{Refusal}
use Rattle.cedar_replies.specs.declared.refusal.Refusal.TheVariants as refusal

-- the failure that has this name
abbrev pub failure_named : ErrorKind → Failure
failure_named EntityDoesNotExist = OfKind language.EntityDoesNotExist
failure_named EntityAttrDoesNotExist = OfKind language.EntityAttrDoesNotExist
failure_named RecordAttrDoesNotExist = OfKind language.RecordAttrDoesNotExist
failure_named FailedExtensionFunctionLookup = OfKind language.FailedExtensionFunctionLookup
failure_named TypeError = OfKind language.TypeError
failure_named WrongNumArguments = OfKind language.WrongNumArguments
failure_named IntegerOverflow = OfKind language.IntegerOverflow
failure_named UnlinkedSlot = OfKind language.UnlinkedSlot
failure_named FailedExtensionFunctionExecution = OfKind language.FailedExtensionFunctionExecution
failure_named NonValue = OfKind language.NonValue
failure_named RecursionLimit = LimitMet
failure_named Memory = MemoryRanOut

abbrev pub with_failure : Text × ErrorKind → Text × Failure
with_failure e = (e.0, failure_named e.1)

-- some error met the limit
abbrev pub SomeAtLimit : List (Text × Failure) → Type 0
SomeAtLimit errors = (id : Text) × Contains errors (id, LimitMet)

-- the error by the name of its kind, which an answer may show; or it met the limit, or memory ran out
abbrev pub ListsError : Text × Failure → Result (Text × ErrorKind) Refusal → Type 0
ListsError e (Ok named) = (has_kind named ≡ true) × (with_failure named ≡ e)
ListsError e (Err refusal.Depth) = e.1 ≡ LimitMet
ListsError e (Err refusal.Memory) = ⊤
ListsError e (Err r) = ⊥

-- the same of each error; or some met the limit
abbrev pub ListsErrors : List (Text × Failure) → Result (Vec (Text × ErrorKind)) Refusal → Type 0
ListsErrors errors (Ok listed) = (have_kinds listed.items ≡ true) × (map with_failure listed.items ≡ errors)
ListsErrors errors (Err refusal.Depth) = SomeAtLimit errors
ListsErrors errors (Err refusal.Memory) = ⊤
ListsErrors errors (Err r) = ⊥

-- Kinds of errors, as the definitions name them.
use Rattle.std.specs.Prelude.{ℕ, Option, Some, None, List, codes}
use Rattle.cedar_language.specs.Value as language
use Rattle.cedar_replies.specs.declared.error_kind.ErrorKind.{ErrorKind}
use Rattle.cedar_replies.specs.declared.error_kind.ErrorKind.TheVariants.{EntityDoesNotExist, EntityAttrDoesNotExist, RecordAttrDoesNotExist, FailedExtensionFunctionLookup, TypeError, WrongNumArguments, IntegerOverflow, UnlinkedSlot, FailedExtensionFunctionExecution, NonValue, RecursionLimit, Memory}

-- the kind that an answer may show; a limit that was met, or want of memory, is none
abbrev pub kind_of : ErrorKind → Option language.Kind
kind_of EntityDoesNotExist = Some language.EntityDoesNotExist
kind_of EntityAttrDoesNotExist = Some language.EntityAttrDoesNotExist
kind_of RecordAttrDoesNotExist = Some language.RecordAttrDoesNotExist
kind_of FailedExtensionFunctionLookup = Some language.FailedExtensionFunctionLookup
kind_of TypeError = Some language.TypeError
kind_of WrongNumArguments = Some language.WrongNumArguments
kind_of IntegerOverflow = Some language.IntegerOverflow
kind_of UnlinkedSlot = Some language.UnlinkedSlot
kind_of FailedExtensionFunctionExecution = Some language.FailedExtensionFunctionExecution
kind_of NonValue = Some language.NonValue
kind_of RecursionLimit = None
kind_of Memory = None

-- how a kind is written
abbrev pub error_name : ErrorKind → List ℕ
error_name EntityDoesNotExist = codes "EntityDoesNotExist"
error_name EntityAttrDoesNotExist = codes "EntityAttrDoesNotExist"
error_name RecordAttrDoesNotExist = codes "RecordAttrDoesNotExist"
error_name FailedExtensionFunctionLookup = codes "FailedExtensionFunctionLookup"
error_name TypeError = codes "TypeError"
error_name WrongNumArguments = codes "WrongNumArguments"
error_name IntegerOverflow = codes "IntegerOverflow"
error_name UnlinkedSlot = codes "UnlinkedSlot"
error_name FailedExtensionFunctionExecution = codes "FailedExtensionFunctionExecution"
error_name NonValue = codes "NonValue"
error_name RecursionLimit = codes "RecursionLimit"
error_name Memory = codes "Memory"

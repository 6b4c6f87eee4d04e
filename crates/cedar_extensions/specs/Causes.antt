-- What errors tell: what was met, and where.
use Rattle.std.specs.Prelude.{ℕ, List, [], ◌∷◌, map, Bool, true, false, Option, None}
use Rattle.std.specs.Rc.{rc_str_bytes}
use Rattle.std.specs.String.{string_bytes}
use Rattle.cedar_language.specs.Uid.{Text, Name, Uid}
use Rattle.cedar_language.specs.Tree.{SlotId, Tree, ValueType, Operator}
use Rattle.cedar_language.specs.Value.{Value}
use Rattle.cedar_literals.specs.Types.{value_type_of}
use Rattle.cedar_literals.specs.Operators.{unary_operator_of, binary_operator_of}
use Rattle.cedar_literals.specs.declared.types.Type as code
use Rattle.cedar_names.specs.declared.places.Place.{Place}
use Rattle.cedar_trees.specs.declared.unknowns.NonEmpty.{NonEmpty}
use Rattle.cedar_extensions.specs.Residuals.{residual_tree}
use Rattle.cedar_extensions.specs.declared.missing.Named.{Named}
use Rattle.cedar_extensions.specs.declared.missing.Named.TheVariants.{Attribute, Tag}
use Rattle.cedar_extensions.specs.declared.lookups.FuncDoesNotExistError.{FuncDoesNotExistError}
use Rattle.cedar_extensions.specs.declared.lookups.ExtensionFunctionLookupError.{ExtensionFunctionLookupError}
use Rattle.cedar_extensions.specs.declared.lookups.ExtensionFunctionLookupError.TheVariants as lookup
use Rattle.cedar_extensions.specs.declared.operands.BinaryOpOverflowError.{BinaryOpOverflowError}
use Rattle.cedar_extensions.specs.declared.operands.UnaryOpOverflowError.{UnaryOpOverflowError}
use Rattle.cedar_extensions.specs.declared.operands.IntegerOverflowError.{IntegerOverflowError}
use Rattle.cedar_extensions.specs.declared.operands.IntegerOverflowError.TheVariants as overflow
use Rattle.cedar_extensions.specs.declared.calls.WrongNumArgumentsError.{WrongNumArgumentsError}
use Rattle.cedar_extensions.specs.declared.calls.ExtensionFunctionExecutionError.{ExtensionFunctionExecutionError}
use Rattle.cedar_extensions.specs.declared.evaluation_error.EvaluationError.{EvaluationError}
use Rattle.cedar_extensions.specs.declared.evaluation_error.EvaluationError.TheVariants as error

-- what was met
pub data Cause : Type 0 where
  NoEntity : Uid → Cause
  NoAttribute : Uid → Text → Cause
  NoTag : Uid → Text → Cause
  NoKey : Text → Cause
  NoFunction : Name → Cause
  -- a value of the second type, where one of the first was asked for
  OtherType : List ValueType → ValueType → Cause
  -- of the function: how many arguments it takes, and how many it was given
  OtherCount : Name → ℕ → ℕ → Cause
  Overflow : Operator → List Value → Cause
  Unlinked : SlotId → Cause
  -- of the extension, with what its function said
  NoAnswer : Name → Text → Cause
  Residual : Tree → Cause
  TooDeep : Cause
  OutOfMemory : Cause

abbrev pub name_sought : FuncDoesNotExistError → Name
name_sought e = e.name

abbrev pub place_sought : FuncDoesNotExistError → Option Place
place_sought e = e.source_loc

abbrev pub miscounted : WrongNumArgumentsError → Cause
miscounted e = OtherCount e.function_name e.expected e.actual

abbrev pub place_miscounted : WrongNumArgumentsError → Option Place
place_miscounted e = e.source_loc

abbrev pub name_failed : ExtensionFunctionExecutionError → Name
name_failed e = e.extension_name

abbrev pub overflow_of_two : BinaryOpOverflowError → Cause
overflow_of_two e = Overflow (binary_operator_of e.op) (e.arg1 ∷ e.arg2 ∷ [])

abbrev pub place_of_two : BinaryOpOverflowError → Option Place
place_of_two e = e.source_loc

abbrev pub overflow_of_one : UnaryOpOverflowError → Cause
overflow_of_one e = Overflow (unary_operator_of e.op) (e.arg ∷ [])

abbrev pub place_of_one : UnaryOpOverflowError → Option Place
place_of_one e = e.source_loc

abbrev pub missing_of : Named → Uid → Text → Cause
missing_of Attribute u a = NoAttribute u a
missing_of Tag u a = NoTag u a

abbrev pub lookup_cause : ExtensionFunctionLookupError → Cause
lookup_cause (lookup.FuncDoesNotExist e) = NoFunction (name_sought e)
lookup_cause (lookup.Memory e) = OutOfMemory

abbrev pub overflow_cause : IntegerOverflowError → Cause
overflow_cause (overflow.BinaryOp e) = overflow_of_two e
overflow_cause (overflow.UnaryOp e) = overflow_of_one e

-- the types of a list
abbrev pub types_of : NonEmpty code.Type → List ValueType
types_of types = value_type_of types.head ∷ map value_type_of types.tail.items

abbrev pub cause_of : EvaluationError → Cause
cause_of (error.EntityDoesNotExist e) = NoEntity e.uid.value
cause_of (error.EntityAttrDoesNotExist e) = missing_of e.named e.entity.value (rc_str_bytes e.attr_or_tag)
cause_of (error.RecordAttrDoesNotExist e) = NoKey (rc_str_bytes e.attr)
cause_of (error.FailedExtensionFunctionLookup e) = lookup_cause e
cause_of (error.TypeError e) = OtherType (types_of e.expected) (value_type_of e.actual)
cause_of (error.WrongNumArguments e) = miscounted e
cause_of (error.IntegerOverflow e) = overflow_cause e
cause_of (error.UnlinkedSlot e) = Unlinked e.slot
cause_of (error.FailedExtensionFunctionExecution e) = NoAnswer e.extension_name (string_bytes e.msg)
cause_of (error.NonValue e) = Residual (residual_tree e.expr)
cause_of (error.RecursionLimit e) = TooDeep
cause_of error.Memory = OutOfMemory

abbrev pub lookup_place : ExtensionFunctionLookupError → Option Place
lookup_place (lookup.FuncDoesNotExist e) = place_sought e
lookup_place (lookup.Memory e) = None

abbrev pub overflow_place : IntegerOverflowError → Option Place
overflow_place (overflow.BinaryOp e) = place_of_two e
overflow_place (overflow.UnaryOp e) = place_of_one e

-- where it was met, if that is known
abbrev pub place_of : EvaluationError → Option Place
place_of (error.EntityDoesNotExist e) = e.source_loc
place_of (error.EntityAttrDoesNotExist e) = e.source_loc
place_of (error.RecordAttrDoesNotExist e) = e.source_loc
place_of (error.FailedExtensionFunctionLookup e) = lookup_place e
place_of (error.TypeError e) = e.source_loc
place_of (error.WrongNumArguments e) = place_miscounted e
place_of (error.IntegerOverflow e) = overflow_place e
place_of (error.UnlinkedSlot e) = e.source_loc
place_of (error.FailedExtensionFunctionExecution e) = e.source_loc
place_of (error.NonValue e) = e.source_loc
place_of (error.RecursionLimit e) = e.source_loc
place_of error.Memory = None

-- the error of a failed look-up; want of memory is none
abbrev pub by_lookup : ExtensionFunctionLookupError → EvaluationError
by_lookup (lookup.FuncDoesNotExist e) = error.FailedExtensionFunctionLookup (lookup.FuncDoesNotExist e)
by_lookup (lookup.Memory e) = error.Memory

-- a failed look-up that is want of memory
abbrev pub hides_memory : EvaluationError → Bool
hides_memory (error.FailedExtensionFunctionLookup (lookup.Memory e)) = true
hides_memory _ = false

-- the place of such an error that is met elsewhere; want of memory has none
abbrev pub place_kept : Cause → Option Place → Option Place
place_kept OutOfMemory place = None
place_kept _ place = place

-- What typing finds in code, as its definition has it.
use Rattle.std.specs.Prelude.{◌≡◌, ⊤, ℕ, ◌<◌, List, map, Result, Ok, Err}
use Rattle.cedar_language.specs.Height.{height, heights}
use Rattle.cedar_language.specs.Tree.{Tree, Trees}
use Rattle.cedar_typing.specs.Schema.{Environment}
use Rattle.cedar_typing.specs.Typing.{type_of, types_of}
use Rattle.cedar_typing.specs.Faults as typing
use Rattle.cedar_typing.specs.Results.{Typing, HasType, Faulty, Typings, HaveTypes, OneFaulty, plainly}
use Rattle.cedar_typechecker.specs.Types.{type_view}
use Rattle.cedar_typechecker.specs.Capabilities.{capabilities_view}
use Rattle.cedar_typechecker.specs.declared.capabilities.Capability.{Capability}
use Rattle.cedar_typechecker.specs.declared.types.ExprType.{ExprType}
use Rattle.cedar_typechecker.specs.declared.faults.TypingFault.{TypingFault}
use Rattle.cedar_typechecker.specs.declared.faults.TypingFault.TheVariants as fault
use Rattle.cedar_typechecker.specs.declared.faults.TypingError.{TypingError}
use Rattle.cedar_typechecker.specs.declared.faults.TypingError.TheVariants as error
use Rattle.cedar_typechecker.specs.declared.results.Typed.{Typed}
use Rattle.std.specs.Global.{Vec}

abbrev pub fault_view : TypingFault → typing.TypingFault
fault_view fault.UnrecognizedEntityType = typing.UnrecognizedEntityType
fault_view fault.UnrecognizedActionId = typing.UnrecognizedActionId
fault_view fault.InvalidEnumEntity = typing.InvalidEnumEntity
fault_view fault.UnexpectedType = typing.UnexpectedType
fault_view fault.IncompatibleTypes = typing.IncompatibleTypes
fault_view fault.UnsafeAttributeAccess = typing.UnsafeAttributeAccess
fault_view fault.UnsafeOptionalAttributeAccess = typing.UnsafeOptionalAttributeAccess
fault_view fault.UnsafeTagAccess = typing.UnsafeTagAccess
fault_view fault.NoTagsAllowed = typing.NoTagsAllowed
fault_view fault.UndefinedFunction = typing.UndefinedFunction
fault_view fault.WrongNumberArguments = typing.WrongNumberArguments
fault_view fault.FunctionArgumentValidation = typing.FunctionArgumentValidation
fault_view fault.NonLitExtConstructor = typing.NonLitExtConstructor
fault_view fault.EmptySetForbidden = typing.EmptySetForbidden
fault_view fault.UnboundSlot = typing.UnboundSlot
fault_view fault.UnknownNotAllowed = typing.UnknownNotAllowed
fault_view fault.DuplicateKeys = typing.DuplicateKeys

abbrev pub typing_view : Typed → Typing
typing_view t = HasType (type_view t.expr_type) (capabilities_view t.capabilities.items)

-- the fault is the one that typing finds; memory may run out, and `deep` says when depth may be refused
abbrev pub Lacks : Type 0 → Typing → TypingError → Type 0
Lacks deep x (error.Faulty k) = x ≡ Faulty (fault_view k)
Lacks deep x error.Memory = ⊤
Lacks deep x error.Depth = deep

-- what is found is what typing finds
abbrev pub Finds : Type 0 → Typing → Result Typed TypingError → Type 0
Finds deep x (Ok t) = x ≡ typing_view t
Finds deep x (Err e) = Lacks deep x e

-- of an expression that is no test: its type, which gives nothing
abbrev pub FindsType : Typing → Result ExprType TypingError → Type 0
FindsType x (Ok t) = x ≡ plainly (type_view t)
FindsType x (Err e) = Lacks ⊥ x e

-- of operands: the type of each, or the first fault
abbrev pub LackOne : Type 0 → Typings → TypingError → Type 0
LackOne deep x (error.Faulty k) = x ≡ OneFaulty (fault_view k)
LackOne deep x error.Memory = ⊤
LackOne deep x error.Depth = deep

abbrev pub FindAll : Type 0 → Typings → Result (Vec ExprType) TypingError → Type 0
FindAll deep x (Ok ts) = x ≡ HaveTypes (map type_view ts.items)
FindAll deep x (Err e) = LackOne deep x e

-- what is found is the typing of an expression under what is held; depth is refused only where it is higher than this
abbrev pub FindsWithin : ℕ → Environment → Tree → List Capability → Result Typed TypingError → Type 0
FindsWithin depth e t held = Finds (depth < height t) (type_of e t (capabilities_view held))

-- and that of a list of them
abbrev pub FindAllWithin : ℕ → Environment → Trees → List Capability → Result (Vec ExprType) TypingError → Type 0
FindAllWithin depth e ts held = FindAll (depth < heights ts) (types_of e ts (capabilities_view held))

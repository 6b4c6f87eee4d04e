-- Extension functions, as the definitions have them, and what calls give.
use Rattle.std.specs.Prelude.{◌≡◌, ⊤, ℕ, List, [], ◌∷◌, map, Bool, true, false, Option, Some, None}
use Rattle.std.specs.declared.alloc.Global.{Global}
use Rattle.std.specs.declared.rc.RcStr.{RcStr}
use Rattle.std.specs.Rc.{rc_str_bytes}
use Rattle.cedar_language.specs.Uid.{Name}
use Rattle.cedar_language.specs.Tree.{String, ValueType, StringType, ExtensionType}
use Rattle.cedar_language.specs.Value.{Value, Plain}
use Rattle.cedar_language.specs.Facts as facts
use Rattle.cedar_language.specs.Operators.{takes}
use Rattle.cedar_literals.specs.Types.{value_type_of}
use Rattle.cedar_literals.specs.declared.types.Type as code
use Rattle.cedar_extensions.specs.Answering.{FunctionAnswers}
use Rattle.cedar_extensions.specs.Causes.{Cause, OtherCount, NoAnswer, OutOfMemory}
use Rattle.cedar_trees.specs.Unknowns.{unknown_name, unknown_type}
use Rattle.cedar_grammar.specs.Functions as world
use Rattle.cedar_grammar.specs.Functions.{NamedFunction, unknown_function}
use Rattle.cedar_extensions.specs.declared.functions.CallStyle.{CallStyle}
use Rattle.cedar_extensions.specs.declared.functions.CallStyle.TheVariants.{FunctionStyle, MethodStyle}
use Rattle.cedar_extensions.specs.declared.functions.ExtensionOutputValue.{ExtensionOutputValue}
use Rattle.cedar_extensions.specs.declared.functions.ExtensionOutputValue.TheVariants as output
use Rattle.cedar_extensions.specs.declared.functions.Function.{Function}
use Rattle.cedar_extensions.specs.declared.functions.Function.TheVariants.{Unknown, Callers}
use Rattle.cedar_extensions.specs.declared.functions.CallersFunction.{CallersFunction}
use Rattle.cedar_extensions.specs.declared.functions.ExtensionFunction.{ExtensionFunction}

abbrev pub style_of : CallStyle → world.CallStyle
style_of FunctionStyle = world.as_function
style_of MethodStyle = world.as_method

abbrev pub function_name : {F : Type 0} → ExtensionFunction F → Name
function_name f = f.name

abbrev pub function_style : {F : Type 0} → ExtensionFunction F → world.CallStyle
function_style f = style_of f.style

-- a caller's function as the definitions have functions
abbrev pub answers_of : {F : Type 0} → (F → FunctionAnswers) → CallersFunction F → facts.Function
answers_of answers f = record { takes = f.takes; answer = (answers f.object).given }

abbrev pub meaning_in : {F : Type 0} → (F → FunctionAnswers) → Function F → facts.Function
meaning_in answers Unknown = unknown_function
meaning_in answers (Callers f) = answers_of answers f

-- how many arguments it takes, and what it answers
abbrev pub meaning_of : {F : Type 0} → (F → FunctionAnswers) → ExtensionFunction F → facts.Function
meaning_of answers f = meaning_in answers f.function

abbrev pub arity_in : {F : Type 0} → Function F → Option ℕ
arity_in Unknown = Some 1
arity_in (Callers f) = f.takes

-- how many arguments it takes, or none where it takes any number
abbrev pub arity_of : {F : Type 0} → ExtensionFunction F → Option ℕ
arity_of f = arity_in f.function

abbrev pub names_unknown : {F : Type 0} → Function F → Bool
names_unknown Unknown = true
names_unknown (Callers f) = false

-- whether it is the built-in function that names an unknown
abbrev pub is_unknown : {F : Type 0} → ExtensionFunction F → Bool
is_unknown f = names_unknown f.function

abbrev pub named_function : {F : Type 0} → (F → FunctionAnswers) → ExtensionFunction F → NamedFunction
named_function answers f = record { name = function_name f; style = function_style f; function = meaning_of answers f }

abbrev pub returned_type : {F : Type 0} → ExtensionFunction F → Option code.Type
returned_type f = f.return_type

abbrev pub argument_types : {F : Type 0} → ExtensionFunction F → List ValueType
argument_types f = map value_type_of f.arg_types.items

abbrev pub extension_type_in : Option ValueType → Option Name
extension_type_in (Some (ExtensionType n)) = Some n
extension_type_in _ = None

abbrev pub value_type_in : Option code.Type → Option ValueType
value_type_in None = None
value_type_in (Some ty) = Some (value_type_of ty)

-- the extension type of which it gives values
abbrev pub extension_type_of : {F : Type 0} → ExtensionFunction F → Option Name
extension_type_of f = extension_type_in (value_type_in (returned_type f))

abbrev pub is_constructor : Option ValueType → world.CallStyle → List ValueType → Bool
is_constructor (Some (ExtensionType n)) world.as_function (StringType ∷ []) = true
is_constructor _ _ _ = false

-- whether it makes values of an extension type from one text, and is no method
abbrev pub is_single_argument_constructor : {F : Type 0} → ExtensionFunction F → Bool
is_single_argument_constructor f = is_constructor (value_type_in (returned_type f)) (function_style f) (argument_types f)

abbrev pub string_value : RcStr Global → Value
string_value s = Plain (String (rc_str_bytes s))

-- the value that is given, where an unknown stands for the text that names it
abbrev pub output_value : ExtensionOutputValue → Value
output_value (output.Known v) = v
output_value (output.Unknown u) = Plain (String (unknown_name u))

-- the built-in function gives an unknown of which no type is stated, and any other function a value
abbrev pub IsOutput : Bool → ExtensionOutputValue → Type 0
IsOutput true (output.Unknown u) = unknown_type u ≡ None
IsOutput true (output.Known v) = ⊥
IsOutput false (output.Unknown u) = ⊥
IsOutput false (output.Known v) = ⊤

-- the number of arguments that are taken, where it isn't this one
abbrev pub IsOtherCount : Option ℕ → ℕ → Option ℕ → Type 0
IsOtherCount taken n None = takes taken n ≡ true
IsOtherCount taken n (Some m) = (taken ≡ Some m) × (takes taken n ≡ false)

-- what a refused call tells: the function, how many arguments it takes, and how many it was given; or that it has no answer
abbrev pub TellsOfCall : Name → Option ℕ → ℕ → Cause → Type 0
TellsOfCall f taken given (OtherCount g m n) = (g ≡ f) × (Some m ≡ taken) × (n ≡ given)
TellsOfCall f taken given (NoAnswer g msg) = g ≡ f
TellsOfCall f taken given OutOfMemory = ⊤
TellsOfCall f taken given _ = ⊥

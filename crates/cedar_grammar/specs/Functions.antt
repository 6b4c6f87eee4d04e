-- The table of extension functions, from which texts are read and trees are evaluated.
-- (Cedar language reference, "Operators and functions".)
use Rattle.std.specs.Prelude.{Bool, not, Option, Some, None, List, [], ◌∷◌, filter, codes, if◌then◌else◌}
use Rattle.cedar_language.specs.Uid.{Text, Name}
use Rattle.cedar_language.specs.Tree.{String}
use Rattle.cedar_language.specs.Value.{Value, Plain, Values, no_values, a_value}
use Rattle.cedar_language.specs.Facts.{Function}
use Rattle.cedar_language.specs.Constructing.{or_constructor}
use Rattle.cedar_grammar.specs.Names.{Names, is_name}

-- how a function is called: by its name before all its arguments, or behind the first one
pub data CallStyle : Type 0 where
  as_function : CallStyle
  as_method : CallStyle

pub record NamedFunction : Type 0 where
  pub name : Name
  pub style : CallStyle
  pub function : Function

-- the caller's functions, and whether the built-in `unknown` stands beside them
pub record Functions : Type 0 where
  pub table : List NamedFunction
  pub has_unknown : Bool

-- ---- the function by which an unknown is named

abbrev pub the_unknown : Name
the_unknown = codes "unknown" ∷ []

abbrev pub is_the_unknown : Name → Bool
is_the_unknown name = is_name name the_unknown

-- of one string it gives this string, and of anything else nothing
abbrev pub one_string : Values → Option Value
one_string (a_value (Plain (String s)) no_values) = Some (Plain (String s))
one_string vs = None

abbrev pub unknown_function : Function
unknown_function = record { takes = Some 1; answer = one_string }

-- ---- what is read from the table

-- of the functions with this name only the built-in one counts
abbrev pub callers_functions : Functions → List NamedFunction
callers_functions fs = filter (λ (f : NamedFunction). not (is_the_unknown f.name)) fs.table

abbrev pub with_function : CallStyle → Name → List Name → List Name
with_function as_function name rest = name ∷ rest
with_function as_method name rest = rest

abbrev pub function_names : List NamedFunction → List Name
function_names [] = []
function_names (f ∷ fs) = with_function f.style f.name (function_names fs)

-- a method has no namespace
abbrev pub with_method : CallStyle → Name → List Text → List Text
with_method as_method (m ∷ []) rest = m ∷ rest
with_method style name rest = rest

abbrev pub method_names : List NamedFunction → List Text
method_names [] = []
method_names (f ∷ fs) = with_method f.style f.name (method_names fs)

-- the names that policies may call
abbrev pub policy_names : Functions → Names
policy_names fs = record { functions = function_names (callers_functions fs); methods = method_names (callers_functions fs) }

-- the names that bodies may call
abbrev pub body_names : Functions → Names
body_names fs = if fs.has_unknown then record (policy_names fs) { functions = the_unknown ∷ (policy_names fs).functions } else policy_names fs

abbrev pub first_named : Name → List NamedFunction → Option Function
first_named name [] = None
first_named name (f ∷ fs) = if is_name name f.name then Some f.function else first_named name fs

-- the function of the table that a name calls
abbrev pub function_of : Functions → Name → Option Function
function_of fs name =
    if is_the_unknown name then (if fs.has_unknown then Some unknown_function else None)
    else first_named name (callers_functions fs)

-- what a name calls in an evaluation
abbrev pub evaluated_function : Functions → Name → Option Function
evaluated_function fs = or_constructor (function_of fs)

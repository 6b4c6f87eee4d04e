-- What texts may call, by the table that an evaluation knows.
use Rattle.std.specs.Prelude.{Bool, false}
use Rattle.cedar_language.specs.Uid.{Name}
use Rattle.cedar_names.specs.Names.{is_unqualified}
use Rattle.cedar_grammar.specs.Functions.{Functions, CallStyle, as_function, as_method}
use Rattle.cedar_extensions.specs.Answering.{FunctionAnswers}
use Rattle.cedar_extensions.specs.Defining.{defined}
use Rattle.cedar_extensions.specs.Tables.{functions_in}
use Rattle.cedar_extensions.specs.declared.extensions.Extensions.{Extensions}

-- the functions of the table
abbrev pub functions_of : {F : Type 0} → (F → FunctionAnswers) → Extensions F → Functions
functions_of answers extensions = defined answers (functions_in extensions)

-- what is called behind its first argument; a method has no namespace
abbrev pub is_method : CallStyle → Name → Bool
is_method as_method name = is_unqualified name
is_method as_function name = false

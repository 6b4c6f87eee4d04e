-- Functions of a table, as the definitions have them.
use Rattle.std.specs.Prelude.{List, map}
use Rattle.std.specs.List.{list_any}
use Rattle.cedar_grammar.specs.Functions.{Functions}
use Rattle.cedar_extensions.specs.Answering.{FunctionAnswers}
use Rattle.cedar_extensions.specs.Functions.{is_unknown, named_function}
use Rattle.cedar_extensions.specs.declared.functions.ExtensionFunction.{ExtensionFunction}

abbrev pub defined : {F : Type 0} → (F → FunctionAnswers) → List (ExtensionFunction F) → Functions
defined answers fs = record { table = map (named_function answers) fs; has_unknown = list_any is_unknown fs }

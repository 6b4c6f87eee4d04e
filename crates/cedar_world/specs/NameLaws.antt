-- What texts may call, and do call, is what the table answers.
use Rattle.std.specs.Prelude.{◌≡◌, Bool, true, false, not, ◌&&◌, [], ◌∷◌, is_some, IsSome, None, List}
use Rattle.std.specs.List.{list_all}
use Rattle.cedar_language.specs.Uid.{Text, Name}
use Rattle.cedar_language.specs.Tree.{Tree}
use Rattle.cedar_language.specs.Constructing.{the_constructor}
use Rattle.cedar_partial_evaluation.specs.ReadUnknowns.{read_unknowns}
use Rattle.cedar_grammar.specs.Calls.{calls_only}
use Rattle.cedar_grammar.specs.Names.{is_among, is_function}
use Rattle.cedar_grammar.specs.UnknownCalls.{named}
use Rattle.cedar_world.specs.Bodies.{is_restricted}
use Rattle.cedar_grammar.specs.Functions.{Functions, the_unknown, is_the_unknown, policy_names, body_names, function_of, evaluated_function}
use Rattle.cedar_world.specs.Setting.{Setting, ArePolicies, IsBody}
use Rattle.cedar_grammar.specs.Syntax.{PolicySyntax, condition}

-- the table has no function under the name of the language's own constructor of extension values
abbrev pub HasNoConstructor : Functions → Type 0
HasNoConstructor functions = function_of functions the_constructor ≡ None

-- Each function and each method that policies or bodies may call is found; where none has the constructor's name, what is
-- found is what an evaluation calls. No policy calls `unknown`.
pub record NamesAreFound (functions : Functions) : Type 0 where
  pub policy_function : (name : Name) → is_function (policy_names functions) name ≡ true → IsSome (function_of functions name)
  pub policy_method : (m : Text) → is_among m (policy_names functions).methods ≡ true → IsSome (function_of functions (m ∷ []))
  pub body_function : (name : Name) → is_function (body_names functions) name ≡ true → IsSome (function_of functions name)
  pub body_method : (m : Text) → is_among m (body_names functions).methods ≡ true → IsSome (function_of functions (m ∷ []))
  pub evaluated : HasNoConstructor functions → (name : Name) → IsSome (function_of functions name)
      → evaluated_function functions name ≡ function_of functions name
  pub no_unknown : is_function (policy_names functions) the_unknown ≡ false

-- the names of data are its calls of `unknown`, read as everywhere
abbrev pub NamesAreRead : Type 0
NamesAreRead = (t : Tree) → is_restricted t ≡ true → named t ≡ read_unknowns t

-- the table has a function of this name
abbrev pub is_answered : Functions → Name → Bool
is_answered functions name = is_some (function_of functions name)

-- Each function that a text calls is found. No policy calls `unknown`, and no text holds an unknown but by a call.
pub record CallsAreFound (by : Setting) : Type 0 where
  pub policies : (text : Text) (ss : List PolicySyntax) → ArePolicies by text ss → list_all (λ s. calls_only (λ name. is_answered by.functions name && not (is_the_unknown name)) (condition s)) ss ≡ true
  pub bodies : (text : Text) (tree : Tree) → IsBody by text tree → calls_only (is_answered by.functions) tree ≡ true

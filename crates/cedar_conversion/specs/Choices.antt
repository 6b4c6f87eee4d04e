-- Which fault a name has that can't be used as it is.
use Rattle.std.specs.Prelude.{◌≡◌, ◌≢◌, ◌⊎◌, ◌&&◌, ◌||◌, ℕ, List, [], ◌∷◌, cond, codes, Option, Some, None, MatchOption, Bool, false}
use Rattle.std.specs.Rc.{rc_str_bytes}
use Rattle.cedar_language.specs.Uid.{Text, Name}
use Rattle.cedar_language.specs.Tree.{Variable}
use Rattle.cedar_grammar.specs.Names.{Names, is_text, is_among, is_function}
use Rattle.cedar_grammar.specs.Loose as loose
use Rattle.cedar_grammar.specs.Converting.{name_path, name_variable}
use Rattle.cedar_names.specs.Names.{is_unqualified, basename_of, name_text}
use Rattle.cedar_literals.specs.Variables.{variable_of}
use Rattle.cedar_faults.specs.declared.kinds.ToASTErrorKind.{ToASTErrorKind}
use Rattle.cedar_faults.specs.declared.kinds.ToASTErrorKind.TheVariants as kinds
use Rattle.cedar_conversion.specs.Shown.{name_shows}
use Rattle.cedar_conversion.specs.declared.heads.Use.{Use}
use Rattle.cedar_conversion.specs.declared.heads.Use.TheVariants as use_

-- ---- what is called

-- (Cedar language reference, "Operators and functions")
abbrev pub own_methods : List Text
own_methods = codes "contains" ∷ codes "containsAll" ∷ codes "containsAny" ∷ codes "getTag" ∷ codes "hasTag" ∷ codes "isEmpty" ∷ []

-- a method of the language, or of the table
abbrev pub is_method : Names → Text → Bool
is_method names s = is_among s own_methods || is_among s names.methods

-- no function, and no variable either: told as the method that it is, or else as unknown
abbrev pub IsUnknownCall : Names → Name → ToASTErrorKind → Type 0
IsUnknownCall names path kind =
    cond (is_unqualified path && is_method names (basename_of path)) (kind ≡ kinds.FunctionCallOnMethod (basename_of path)) (kind ≡ kinds.UnknownFunction path)

abbrev pub IsVariableCall : Variable → ToASTErrorKind → Type 0
IsVariableCall v (kinds.VariableCall var) = variable_of var ≡ v
IsVariableCall v kind = ⊥

-- of what is called before its arguments, and is no function: the variable that it is, if it is one
abbrev pub IsNoFunction : Names → Option Variable → Name → ToASTErrorKind → Type 0
IsNoFunction names (Some v) path kind = IsVariableCall v kind
IsNoFunction names None path kind = IsUnknownCall names path kind

-- of what is called behind its first argument, and is no method
abbrev pub IsNoMethod : Names → Text → ToASTErrorKind → Type 0
IsNoMethod names s kind = cond (is_function names (s ∷ [])) (kind ≡ kinds.MethodCallOnFunction s) (kind ≡ kinds.UnknownMethod s)

-- how many arguments a method of the language takes
abbrev pub arity : Text → Option ℕ
arity s = cond (is_text s (codes "isEmpty")) (Some 0) (cond (is_among s own_methods) (Some 1) None)

-- a method of the language that takes another number of arguments than it was given
abbrev pub IsWrongArity : Text → ℕ → ℕ → ToASTErrorKind → Type 0
IsWrongArity s expected got (kinds.WrongArity name e g) = (name.now ≡ s) × (e ≡ expected) × (g ≡ got) × (got ≢ expected)
IsWrongArity s expected got kind = ⊥

-- of a name that is called
abbrev pub function_shows : Names → loose.Name → ToASTErrorKind → Type 0
function_shows names n kind =
    name_shows n kind ⊎ MatchOption (name_path n) ⊥ (λ path. (is_function names path ≡ false) × IsNoFunction names (name_variable n) path kind)

-- of a method that is called with so many arguments
abbrev pub method_shows : Names → Text → ℕ → ToASTErrorKind → Type 0
method_shows names s got kind =
    MatchOption (arity s) ((is_among s names.methods ≡ false) × IsNoMethod names s kind) (λ expected. IsWrongArity s expected got kind)

-- ---- what should be a variable

-- how a name is used where a variable should stand
pub data Used : Type 0 where
  -- nothing of it is accessed
  by_itself : Used
  -- this attribute of it is accessed
  by_attribute : Text → Used
  -- this method of it is called
  by_method : Text → Used
  -- this attribute of it is accessed by its text
  by_text : Text → Used

abbrev pub used_as : Use → Used
used_as use_.Alone = by_itself
used_as (use_.Attribute id) = by_attribute id.now
used_as (use_.Method id) = by_method id.now
used_as (use_.Index text) = by_text (rc_str_bytes text.now)

-- of a name that is none, by how it is used
abbrev pub IsMisused : Name → Used → ToASTErrorKind → Type 0
IsMisused name by_itself (kinds.ArbitraryVariable text) = rc_str_bytes text ≡ name_text name
IsMisused name (by_attribute s) (kinds.InvalidAccess lhs field) = (lhs ≡ name) × (rc_str_bytes field ≡ s)
IsMisused name (by_method s) (kinds.NoMethods lhs method) = (lhs ≡ name) × (method ≡ s)
IsMisused name (by_text s) (kinds.InvalidIndex lhs field) = (lhs ≡ name) × (rc_str_bytes field ≡ s)
IsMisused name used kind = ⊥

abbrev pub IsNoVariable : Name → Use → ToASTErrorKind → Type 0
IsNoVariable name used kind = IsMisused name (used_as used) kind

-- of a name that is none, where it is written as a name is
abbrev pub no_variable_shows : loose.Name → Used → ToASTErrorKind → Type 0
no_variable_shows n used kind = name_shows n kind ⊎ MatchOption (name_path n) ⊥ (λ path. IsMisused path used kind)

-- of a name that is used where a variable should stand
abbrev pub misuse_shows : loose.Name → Used → ToASTErrorKind → Type 0
misuse_shows n used kind = (name_variable n ≡ None) × no_variable_shows n used kind

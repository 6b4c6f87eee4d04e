-- What texts may call.
use Rattle.std.proofs.Common.{◌≡◌, ap, sym, not, List, [], ◌∷◌, ◌++◌, true, false, cond, length, refl, true≢false, arith, Ok, Err, Result, ◌∙◌}
use Rattle.std.proofs.lemmas.Bool.{ne_eqb}
use Rattle.std.proofs.lemmas.List.{append_assoc}
use Rattle.std.specs.Prelude.{IfOk}
use Rattle.cedar_language.specs.Uid.{Text, Name}
use Rattle.cedar_language.specs.Tree.{Tree}
use Rattle.cedar_grammar.specs.UnknownCalls.{holds_call}
use Rattle.cedar_names.specs.Names.{basename_of}
use Rattle.cedar_grammar.specs.Functions.{CallStyle, as_function, as_method, is_the_unknown, with_function, function_names, with_method, method_names}
use Rattle.cedar_extensions.specs.Answering.{FunctionAnswers}
use Rattle.cedar_extensions.specs.Functions.{function_name, function_style, is_unknown, named_function}
use Rattle.cedar_extensions.specs.Holding.{is_named, are_named}
use Rattle.cedar_extensions.proofs.Defined.{and_left, and_right, named_so, callers}
use Rattle.cedar_extensions.specs.declared.functions.ExtensionFunction.{ExtensionFunction}
use Rattle.cedar_restricted.specs.Views.{restricted_tree}
use Rattle.cedar_restricted.specs.declared.restricted.RestrictedExpr.{RestrictedExpr}
use Rattle.cedar_parser.specs.Settings.{is_method}
use Rattle.cedar_parser.specs.Strict.{Keeps}
use Rattle.cedar_parser.specs.declared.restricted.RestrictedExpressionParseError.{RestrictedExpressionParseError}

method_next : (style : CallStyle) (name : Name) (rest : List Text) → is_method style name ≡ true → with_method style name rest ≡ basename_of name ∷ rest
method_next as_function name rest h = cc
method_next as_method [] rest h = cc
method_next as_method (m ∷ []) rest h = refl
method_next as_method (k ∷ (m ∷ name)) rest h = absurd (true≢false (sym h ∙ ne_eqb (length (k ∷ (m ∷ name))) 1 (λ e. absurd (omega (arith, e)))))

-- what the next one adds to the names of the callers' functions
module _ {F : Type 0} (answers : F → FunctionAnswers) (f : ExtensionFunction F) (fs : List (ExtensionFunction F)) (named : are_named (f ∷ fs) ≡ true) where
  pub rest_named : are_named fs ≡ true
  rest_named = and_right (is_named f) (are_named fs) named

  module _ (other : is_unknown f ≡ false) where
    apart : not (is_the_unknown (function_name f)) ≡ true
    apart = ap not (named_so f false other (and_left (is_named f) (are_named fs) named))

    listed : callers answers (f ∷ fs) ≡ named_function answers f ∷ callers answers fs
    listed = ap (λ b. cond b (named_function answers f ∷ callers answers fs) (callers answers fs)) apart

    pub function_listed : function_style f ≡ as_function → function_names (callers answers (f ∷ fs)) ≡ function_name f ∷ function_names (callers answers fs)
    function_listed style = ap function_names listed ∙ ap (λ s. with_function s (function_name f) (function_names (callers answers fs))) style

    pub method_listed : is_method (function_style f) (function_name f) ≡ true → method_names (callers answers (f ∷ fs)) ≡ basename_of (function_name f) ∷ method_names (callers answers fs)
    method_listed method = ap method_names listed ∙ method_next (function_style f) (function_name f) (method_names (callers answers fs)) method

-- one that is pushed is of those to come no longer
pub pushed_next : {A : Type 0} (before after left rest total : List A) (x : A) → before ++ left ≡ total → left ≡ x ∷ rest → after ≡ before ++ x ∷ [] → after ++ rest ≡ total
pushed_next before after left rest total x all next pushed = ap (λ l. l ++ rest) pushed ∙ append_assoc before (x ∷ []) rest ∙ ap (λ l. before ++ l) (sym next) ∙ all

-- a tree that is kept calls `unknown` as little
pub kept_calls : {Lacks : Type 0} (t : Tree) (r : Result RestrictedExpr RestrictedExpressionParseError) → Keeps t r → (Lacks → holds_call t ≡ false) → IfOk r (λ body. Lacks → holds_call (restricted_tree body) ≡ false)
kept_calls t (Ok body) kept calls = λ lacks. ap holds_call kept ∙ calls lacks
kept_calls t (Err e) kept calls = tt

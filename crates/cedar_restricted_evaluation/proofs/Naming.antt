-- What names call in a table, and what calls of `unknown` name.
use Rattle.std.proofs.Common.{◌≡◌, ◌∙◌, refl, ap, sym, subst, List, [], ◌∷◌}
use Rattle.std.specs.Prelude.{Bool, true, false, cond, ◌||◌, Option, Some, None, option_map}
use Rattle.std.specs.List.{list_any}
use Rattle.cedar_language.specs.Uid.{Name}
use Rattle.cedar_language.specs.Order.{same_name}
use Rattle.cedar_language.specs.Tree.{Tree, Unknown}
use Rattle.cedar_language.specs.Constructing.{the_constructor, is_the_constructor, constructed, constructor_function, or_constructor}
use Rattle.cedar_language.specs.Value.{Value, Values, FailedExtensionFunctionExecution, Gives}
use Rattle.cedar_language.specs.Facts as facts
use Rattle.cedar_language.specs.Operators.{called, or_fails}
use Rattle.either.specs.declared.Either.{Either}
use Rattle.either.specs.declared.Either.TheVariants.{Left, Right}
use Rattle.cedar_names.proofs.Sameness.{names_same}
use Rattle.cedar_grammar.specs.Functions.{the_unknown, is_the_unknown, unknown_function}
use Rattle.cedar_extensions.specs.Answering.{FunctionAnswers}
use Rattle.cedar_extensions.specs.Functions.{function_name, meaning_of, is_unknown, output_value, IsOutput}
use Rattle.cedar_extensions.specs.Tables.{functions_in, function_called, holds_unknown}
use Rattle.cedar_extensions.proofs.Defined.{and_left, and_right, named_so, built_in}
use Rattle.cedar_extensions.specs.declared.extensions.Extensions.{Extensions}
use Rattle.cedar_extensions.specs.declared.functions.ExtensionOutputValue.{ExtensionOutputValue}
use Rattle.cedar_extensions.specs.declared.functions.ExtensionOutputValue.TheVariants as output
use Rattle.cedar_trees.specs.Unknowns.{unknown_name, unknown_type}
use Rattle.cedar_trees.specs.declared.unknowns.Unknown as code
use Rattle.cedar_restricted_evaluation.specs.Findings.{IsCalledBy}
use Rattle.cedar_extensions.specs.Holding.{found_in, is_named, are_named}
use Rattle.cedar_extensions.specs.declared.functions.Function.{Function}
use Rattle.cedar_extensions.specs.declared.functions.ExtensionFunction.{ExtensionFunction}
use Rattle.std.proofs.lemmas.Bool.{or_right}

-- ---- the functions of a table

module _ {F : Type 0} (n : Name) (f : ExtensionFunction F) where
  named_here : (u : Bool) → is_unknown f ≡ u → (g : ExtensionFunction F) (gs : List (ExtensionFunction F)) → is_named g ≡ true → (found_in gs n ≡ Some f → is_the_unknown n ≡ u) → (b : Bool) → same_name (function_name g) n ≡ b → cond b (Some g) (found_in gs n) ≡ Some f → is_the_unknown n ≡ u
  named_here u is g gs h below true i e =
      let same : g ≡ f = cc in
      ap is_the_unknown (sym ((names_same (function_name g) n).0 i)) ∙ named_so g u (ap is_unknown same ∙ is) h
  named_here u is g gs h below false i e = below e

  -- what is found is the built-in function exactly under its name
  pub found_is_named : (u : Bool) → is_unknown f ≡ u → (fs : List (ExtensionFunction F)) → are_named fs ≡ true → found_in fs n ≡ Some f → is_the_unknown n ≡ u
  found_is_named u is [] h e = cc
  found_is_named u is (g ∷ gs) h e = named_here u is g gs (and_left _ _ h) (found_is_named u is gs (and_right _ _ h)) (same_name (function_name g) n) refl e

  held_here : is_unknown f ≡ true → (g : ExtensionFunction F) (gs : List (ExtensionFunction F)) → (found_in gs n ≡ Some f → list_any is_unknown gs ≡ true) → (b : Bool) → cond b (Some g) (found_in gs n) ≡ Some f → (is_unknown g || list_any is_unknown gs) ≡ true
  held_here is g gs below true e =
      let same : g ≡ f = cc in
      ap (λ b. b || list_any is_unknown gs) (ap is_unknown same ∙ is)
  held_here is g gs below false e = or_right (is_unknown g) (list_any is_unknown gs) (below e)

  pub found_is_held : is_unknown f ≡ true → (fs : List (ExtensionFunction F)) → found_in fs n ≡ Some f → list_any is_unknown fs ≡ true
  found_is_held is [] e = cc
  found_is_held is (g ∷ gs) e = held_here is g gs (found_is_held is gs) (same_name (function_name g) n) e

-- ---- what a call gives

module _ {F : Type 0} (answers : F → FunctionAnswers) where
  shape_unknown : (b : Bool) (u : code.Unknown) → IsOutput b (output.Unknown u) → b ≡ true
  shape_unknown true u h = refl
  shape_unknown false u h = absurd h

  shape_known : (b : Bool) (v : Value) → IsOutput b (output.Known v) → b ≡ false
  shape_known true v h = absurd h
  shape_known false v h = refl

  -- the unknown that the built-in function gives
  pub unknown_called : (extensions : Extensions F) (n : Name) (vs : Values) (f : ExtensionFunction F) (o : ExtensionOutputValue) (u : code.Unknown) (p : Either Value Tree)
      → are_named (functions_in extensions) ≡ true → found_in (functions_in extensions) n ≡ Some f → called (Some (meaning_of answers f)) vs ≡ Gives (output_value o) → IsOutput (is_unknown f) o
      → o ≡ output.Unknown u → p ≡ Right (Unknown (unknown_name u) (unknown_type u)) → IsCalledBy (function_called answers extensions n) (holds_unknown extensions) n vs p
  unknown_called extensions n vs f o u p named found gives shape same is =
      let there : IsOutput (is_unknown f) (output.Unknown u) = subst (λ o. IsOutput (is_unknown f) o) same shape in
      let built_in : is_unknown f ≡ true = shape_unknown (is_unknown f) u there in
      let untyped : unknown_type u ≡ None = subst (λ b. IsOutput b (output.Unknown u)) built_in there in
      subst (λ q. IsCalledBy (function_called answers extensions n) (holds_unknown extensions) n vs q) (sym is) (record {
        name = unknown_name u;
        unknown = ap (λ ty. Unknown (unknown_name u) ty) untyped;
        gives = ap (λ g. called (option_map (meaning_of answers) g) vs) found ∙ gives ∙ ap (λ o. Gives (output_value o)) same;
        built_in = found_is_named n f true built_in (functions_in extensions) named found;
        held = found_is_held n f built_in (functions_in extensions) found;
      })

  -- the value that a caller's function gives
  pub value_called : (extensions : Extensions F) (n : Name) (vs : Values) (f : ExtensionFunction F) (o : ExtensionOutputValue) (v : Value) (p : Either Value Tree)
      → are_named (functions_in extensions) ≡ true → found_in (functions_in extensions) n ≡ Some f → called (Some (meaning_of answers f)) vs ≡ Gives (output_value o) → IsOutput (is_unknown f) o
      → o ≡ output.Known v → p ≡ Left v → IsCalledBy (function_called answers extensions n) (holds_unknown extensions) n vs p
  value_called extensions n vs f o v p named found gives shape same is =
      let there : IsOutput (is_unknown f) (output.Known v) = subst (λ o. IsOutput (is_unknown f) o) same shape in
      let other : is_unknown f ≡ false = shape_known (is_unknown f) v there in
      let given : called (Some (meaning_of answers f)) vs ≡ Gives v = gives ∙ ap (λ o. Gives (output_value o)) same in
      subst (λ q. IsCalledBy (function_called answers extensions n) (holds_unknown extensions) n vs q) (sym is) (record {
        gives = ap (λ g. called (option_map (meaning_of answers) g) vs) found ∙ given;
        other = found_is_named n f false other (functions_in extensions) named found;
      })

-- ---- the language's own constructor

-- it isn't `unknown`
pub constructs_no_unknown : (n : Name) → is_the_constructor n ≡ true → is_the_unknown n ≡ false
constructs_no_unknown n is = ap is_the_unknown ((names_same n the_constructor).0 is)

module _ (n : Name) (is : is_the_constructor n ≡ true) (function : Option facts.Function) (has_unknown : Bool) (found : function ≡ Some constructor_function) (vs : Values) where
  -- the value that it gives
  pub constructed_called : (v : Value) (p : Either Value Tree) → Some v ≡ constructed vs → p ≡ Left v → IsCalledBy function has_unknown n vs p
  constructed_called v p e same = subst (λ q. IsCalledBy function has_unknown n vs q) (sym same) (record {
    gives = ap (λ f. called f vs) found ∙ ap (or_fails FailedExtensionFunctionExecution) (sym e);
    other = constructs_no_unknown n is;
  })

-- a name calls the constructor, or a function of the table
pub calls_constructor : (n : Name) (function : Name → Option facts.Function) → is_the_constructor n ≡ true → or_constructor function n ≡ Some constructor_function
calls_constructor n function is = ap (λ b. cond b (Some constructor_function) (function n)) is

pub calls_declared : (n : Name) (function : Name → Option facts.Function) → is_the_constructor n ≡ false → or_constructor function n ≡ function n
calls_declared n function is = ap (λ b. cond b (Some constructor_function) (function n)) is

pub unknown_constructs_nothing : (n : Name) → is_the_unknown n ≡ true → is_the_constructor n ≡ false
unknown_constructs_nothing n is = ap is_the_constructor ((names_same n the_unknown).0 is)

-- `unknown` calls the built-in function where the table has it
pub unknown_is_found : {F : Type 0} (answers : F → FunctionAnswers) (n : Name) → is_the_unknown n ≡ true → (fs : List (ExtensionFunction F)) → are_named fs ≡ true → list_any is_unknown fs ≡ true
    → or_constructor (λ m. option_map (meaning_of answers) (found_in fs m)) n ≡ Some unknown_function
unknown_is_found answers n is fs named held =
    calls_declared n (λ m. option_map (meaning_of answers) (found_in fs m)) (unknown_constructs_nothing n is)
    ∙ sym (built_in answers n is fs named) ∙ ap (λ b. cond b (Some unknown_function) None) held

-- What a name calls is what the definitions say of the functions of a table.
use Rattle.std.proofs.Common.{◌≡◌, List, [], ◌∷◌, refl, ap, sym, ◌∙◌}
use Rattle.std.specs.Prelude.{Bool, true, false, not, cond, ◌&&◌, ◌||◌, Some, None, option_map, map, filter}
use Rattle.std.specs.List.{list_any}
use Rattle.cedar_language.specs.Uid.{Name}
use Rattle.cedar_language.specs.Order.{same_name}
use Rattle.cedar_names.specs.Laws.{same_name_equiv}
use Rattle.cedar_names.proofs.Sameness.{names_same}
use Rattle.cedar_grammar.specs.Functions.{NamedFunction, the_unknown, is_the_unknown, unknown_function, first_named, callers_functions, function_of}
use Rattle.cedar_extensions.specs.Answering.{FunctionAnswers}
use Rattle.cedar_extensions.specs.Functions.{function_name, meaning_in, meaning_of, names_unknown, is_unknown, named_function}
use Rattle.cedar_extensions.specs.Holding.{found_in, is_named, are_named}
use Rattle.cedar_extensions.specs.Defining.{defined}
use Rattle.cedar_extensions.specs.declared.functions.Function.{Function}
use Rattle.cedar_extensions.specs.declared.functions.Function.TheVariants.{Unknown, Callers}
use Rattle.cedar_extensions.specs.declared.functions.ExtensionFunction.{ExtensionFunction}
pub use Rattle.cedar_lemmas.proofs.Booleans.{and_first as and_left, and_second as and_right}
use Rattle.cedar_lemmas.proofs.Booleans.{not_is_true as not_true}

means_unknown : {F : Type 0} (answers : F → FunctionAnswers) (g : Function F) → names_unknown g ≡ true → meaning_in answers g ≡ unknown_function
means_unknown answers Unknown h = refl
means_unknown answers (Callers f) h = cc

-- a function is the built-in one exactly where it has its name
pub named_so : {F : Type 0} (f : ExtensionFunction F) (u : Bool) → is_unknown f ≡ u → is_named f ≡ true → is_the_unknown (function_name f) ≡ u
named_so f true is h = sym (ap (λ b. cond b (is_the_unknown (function_name f)) (not (is_the_unknown (function_name f)))) is) ∙ h
named_so f false is h = not_true (is_the_unknown (function_name f)) (sym (ap (λ b. cond b (is_the_unknown (function_name f)) (not (is_the_unknown (function_name f)))) is) ∙ h)

-- what the name that is looked up is, decides how each function's name compares with it
same_there : (m n : Name) → is_the_unknown n ≡ true → same_name m n ≡ is_the_unknown m
same_there m n h = ap (same_name m) ((names_same n the_unknown).0 h)

apart : (m n : Name) → is_the_unknown n ≡ false → is_the_unknown m ≡ true → (b : Bool) → same_name m n ≡ b → b ≡ false
apart m n h i false e = refl
apart m n h i true e = sym i ∙ (ap is_the_unknown ((names_same m n).0 e) ∙ h)

-- the built-in one
module _ {F : Type 0} (answers : F → FunctionAnswers) (n : Name) (is : is_the_unknown n ≡ true) where
  built_in_here : (f : ExtensionFunction F) (fs : List (ExtensionFunction F)) (u : Bool) → is_unknown f ≡ u → is_named f ≡ true
      → cond (list_any is_unknown fs) (Some unknown_function) None ≡ option_map (meaning_of answers) (found_in fs n)
      → cond (u || list_any is_unknown fs) (Some unknown_function) None ≡ option_map (meaning_of answers) (cond (same_name (function_name f) n) (Some f) (found_in fs n))
  built_in_here f fs true e h below =
      ap Some (sym (means_unknown answers f.function e))
      ∙ ap (λ b. option_map (meaning_of answers) (cond b (Some f) (found_in fs n))) (sym (same_there (function_name f) n is ∙ named_so f true e h))
  built_in_here f fs false e h below =
      below ∙ ap (λ b. option_map (meaning_of answers) (cond b (Some f) (found_in fs n))) (sym (same_there (function_name f) n is ∙ named_so f false e h))

  pub built_in : (fs : List (ExtensionFunction F)) → are_named fs ≡ true → cond (list_any is_unknown fs) (Some unknown_function) None ≡ option_map (meaning_of answers) (found_in fs n)
  built_in [] h = refl
  built_in (f ∷ fs) h = built_in_here f fs (is_unknown f) refl (and_left _ _ h) (built_in fs (and_right _ _ h))

-- the others
module _ {F : Type 0} (answers : F → FunctionAnswers) where
  abbrev pub callers : List (ExtensionFunction F) → List NamedFunction
  callers fs = filter (λ (f : NamedFunction). not (is_the_unknown f.name)) (map (named_function answers) fs)

module _ {F : Type 0} (answers : F → FunctionAnswers) (n : Name) (is : is_the_unknown n ≡ false) where
  abbrev listed : List (ExtensionFunction F) → List NamedFunction
  listed = callers answers

  other_here : (f : ExtensionFunction F) (fs : List (ExtensionFunction F)) (u : Bool) → is_the_unknown (function_name f) ≡ u
      → first_named n (listed fs) ≡ option_map (meaning_of answers) (found_in fs n)
      → first_named n (cond (not u) (named_function answers f ∷ listed fs) (listed fs)) ≡ option_map (meaning_of answers) (cond (same_name (function_name f) n) (Some f) (found_in fs n))
  other_here f fs true e below =
      below ∙ ap (λ b. option_map (meaning_of answers) (cond b (Some f) (found_in fs n))) (sym (apart (function_name f) n is e (same_name (function_name f) n) refl))
  other_here f fs false e below = first (same_name (function_name f) n) (same_name_equiv.symm n (function_name f)) where
    first : (b : Bool) → same_name n (function_name f) ≡ b → cond (same_name n (function_name f)) (Some (meaning_of answers f)) (first_named n (listed fs)) ≡ option_map (meaning_of answers) (cond b (Some f) (found_in fs n))
    first true i = ap (λ b. cond b (Some (meaning_of answers f)) (first_named n (listed fs))) i
    first false i = ap (λ b. cond b (Some (meaning_of answers f)) (first_named n (listed fs))) i ∙ below

  others : (fs : List (ExtensionFunction F)) → first_named n (listed fs) ≡ option_map (meaning_of answers) (found_in fs n)
  others [] = refl
  others (f ∷ fs) = other_here f fs (is_the_unknown (function_name f)) refl (others fs)

pub names_are_defined : {F : Type 0} (answers : F → FunctionAnswers) (fs : List (ExtensionFunction F)) → are_named fs ≡ true → (n : Name) → function_of (defined answers fs) n ≡ option_map (meaning_of answers) (found_in fs n)
names_are_defined answers fs named n = by_name (is_the_unknown n) refl where
  by_name : (u : Bool) → is_the_unknown n ≡ u → cond (is_the_unknown n) (cond (list_any is_unknown fs) (Some unknown_function) None) (first_named n (callers_functions (defined answers fs))) ≡ option_map (meaning_of answers) (found_in fs n)
  by_name true e = ap (λ b. cond b (cond (list_any is_unknown fs) (Some unknown_function) None) (first_named n (callers_functions (defined answers fs)))) e ∙ built_in answers n e fs named
  by_name false e = ap (λ b. cond b (cond (list_any is_unknown fs) (Some unknown_function) None) (first_named n (callers_functions (defined answers fs)))) e ∙ others answers n e fs

-- What the functions of several extensions state.
use Rattle.std.proofs.Common.{◌≡◌, List, [], ◌∷◌, ◌++◌, ◌||◌, map, Bool, true, false, not, cond, Some, None, length, refl, sym, ap, ◌∙◌, append-nil}
use Rattle.std.proofs.lemmas.List.{map-append}
use Rattle.std.proofs.lemmas.List.Folds.{list_all-map}
use Rattle.std.specs.List.{list_all, list_any, flat_map}
use Rattle.cedar_language.specs.Uid.{Name}
use Rattle.cedar_language.specs.Tree.{ValueType, StringType}
use Rattle.cedar_grammar.specs.Functions.{CallStyle, the_unknown, is_the_unknown, as_function, unknown_function}
use Rattle.cedar_literals.specs.Types.{value_type_of}
use Rattle.cedar_literals.specs.declared.types.Type as code
use Rattle.cedar_extensions.specs.Answering.{FunctionAnswers}
use Rattle.cedar_extensions.specs.Defining.{defined}
use Rattle.cedar_extensions.specs.Functions.{function_name, function_style, argument_types, returned_type, is_unknown}
use Rattle.cedar_extensions.specs.Functions.{names_unknown, meaning_in, meaning_of, value_type_in, named_function}
use Rattle.cedar_extensions.specs.Holding.{extension_functions, are_named}
use Rattle.cedar_extensions.specs.declared.functions.Function.{Function}
use Rattle.cedar_extensions.specs.declared.functions.Function.TheVariants.{Unknown, Callers}
use Rattle.cedar_extensions.specs.declared.functions.ExtensionFunction.{ExtensionFunction}
use Rattle.cedar_extensions.specs.declared.extension.Extension.{Extension}
use Rattle.cedar_extension_types.specs.Types.{datetime_type, duration_type}
use Rattle.cedar_extension_types.specs.Standard.{given_by}
use Rattle.cedar_extension_types.specs.Tables.{StatedFunction, stated, name_of, called, standard_function, stated_unknown, standard_table}
use Rattle.cedar_extension_types.specs.Tables.{decimal_functions, ip_functions, datetime_functions, standard_functions}
use Rattle.cedar_extension_types.specs.declared.functions.StandardFunction.{StandardFunction}

-- ---- the functions of several extensions, one after the other

module _ {F : Type 0} (answers : F → FunctionAnswers) where
  both_stated : (xs ys : List (ExtensionFunction F)) (p q : List StatedFunction) → map (stated answers) xs ≡ p → map (stated answers) ys ≡ q →
      map (stated answers) (xs ++ ys) ≡ p ++ q
  both_stated xs ys p q h k =
      map-append (stated answers) xs ys ∙ ap (λ a. a ++ map (stated answers) ys) h ∙ ap (λ a. p ++ a) k

  last_stated : (xs : List (ExtensionFunction F)) (p : List StatedFunction) → map (stated answers) xs ≡ p → map (stated answers) (xs ++ []) ≡ p
  last_stated xs p h = ap (map (stated answers)) (append-nil xs) ∙ h

  pub three_stated : (xs ys zs : List (ExtensionFunction F)) → map (stated answers) xs ≡ map standard_function decimal_functions →
      map (stated answers) ys ≡ map standard_function ip_functions → map (stated answers) zs ≡ map standard_function datetime_functions →
      map (stated answers) (xs ++ (ys ++ (zs ++ []))) ≡ map standard_function standard_functions
  three_stated xs ys zs h k l = both_stated xs (ys ++ (zs ++ [])) _ _ h (both_stated ys (zs ++ []) _ _ k (last_stated zs _ l))

  pub four_stated : (xs ys zs us : List (ExtensionFunction F)) → map (stated answers) xs ≡ map standard_function decimal_functions →
      map (stated answers) ys ≡ map standard_function ip_functions → map (stated answers) zs ≡ map standard_function datetime_functions →
      map (stated answers) us ≡ stated_unknown ∷ [] →
      map (stated answers) (xs ++ (ys ++ (zs ++ (us ++ [])))) ≡ map standard_function standard_functions ++ stated_unknown ∷ []
  four_stated xs ys zs us h k l m =
      both_stated xs (ys ++ (zs ++ (us ++ []))) _ _ h (both_stated ys (zs ++ (us ++ [])) _ _ k (both_stated zs (us ++ []) _ _ l (last_stated us _ m)))

  -- ---- a function that was made

  pub made_stated : (made : ExtensionFunction F) (f : StandardFunction) (style : CallStyle) (arguments : List ValueType) (answer : ValueType) (ty : code.Type) →
      meaning_of answers made ≡ record { takes = Some (length arguments); answer = given_by f } → is_unknown made ≡ false → function_name made ≡ name_of f ∷ [] →
      function_style made ≡ style → returned_type made ≡ Some ty → value_type_of ty ≡ answer → argument_types made ≡ arguments →
      stated answers made ≡ called style arguments answer f
  made_stated made f style arguments answer ty m u n s r v a = λ i. record {
    function = record { name = n i; style = s i; function = m i };
    arguments = a i;
    answer = (ap value_type_in r ∙ ap Some v) i;
    names_unknown = u i;
  }

  -- ---- they are named as they should be

  abbrev is_well_named : StatedFunction → Bool
  is_well_named s = cond s.names_unknown (is_the_unknown s.function.name) (not (is_the_unknown s.function.name))

  named_as_stated : (fs : List (ExtensionFunction F)) (p : List StatedFunction) → map (stated answers) fs ≡ p → list_all is_well_named p ≡ true → are_named fs ≡ true
  named_as_stated fs p h e = sym (list_all-map is_well_named (stated answers) fs) ∙ ap (list_all is_well_named) h ∙ e

  pub decimal_named : (fs : List (ExtensionFunction F)) → map (stated answers) fs ≡ map standard_function decimal_functions → are_named fs ≡ true
  decimal_named fs h = named_as_stated fs _ h refl

  pub ip_named : (fs : List (ExtensionFunction F)) → map (stated answers) fs ≡ map standard_function ip_functions → are_named fs ≡ true
  ip_named fs h = named_as_stated fs _ h refl

  pub datetime_named : (fs : List (ExtensionFunction F)) → map (stated answers) fs ≡ map standard_function datetime_functions → are_named fs ≡ true
  datetime_named fs h = named_as_stated fs _ h refl

  pub unknown_named : (fs : List (ExtensionFunction F)) → map (stated answers) fs ≡ stated_unknown ∷ [] → are_named fs ≡ true
  unknown_named fs h = named_as_stated fs _ h refl

  pub standard_named : (fs : List (ExtensionFunction F)) → map (stated answers) fs ≡ map standard_function standard_functions → are_named fs ≡ true
  standard_named fs h = named_as_stated fs _ h refl

  pub all_are_named : (fs : List (ExtensionFunction F)) → map (stated answers) fs ≡ map standard_function standard_functions ++ stated_unknown ∷ [] → are_named fs ≡ true
  all_are_named fs h = named_as_stated fs _ h refl

  -- ---- as the definitions have tables

  functions_stated : (fs : List (ExtensionFunction F)) → map (named_function answers) fs ≡ map (λ s. s.function) (map (stated answers) fs)
  functions_stated [] = refl
  functions_stated (f ∷ fs) = ap (λ ns. named_function answers f ∷ ns) (functions_stated fs)

  unknown_among : (fs : List (ExtensionFunction F)) → list_any is_unknown fs ≡ list_any (λ s. s.names_unknown) (map (stated answers) fs)
  unknown_among [] = refl
  unknown_among (f ∷ fs) = ap (λ b. is_unknown f || b) (unknown_among fs)

  pub table_defined : (fs : List (ExtensionFunction F)) → map (stated answers) fs ≡ map standard_function standard_functions ++ stated_unknown ∷ [] →
      defined answers fs ≡ standard_table
  table_defined fs h = λ i. record {
    table = (functions_stated fs ∙ ap (map (λ s. s.function)) h) i;
    has_unknown = (unknown_among fs ∙ ap (list_any (λ s. s.names_unknown)) h) i;
  }

  -- ---- the built-in function

  meaning_is : (f : Function F) → names_unknown f ≡ true → meaning_in answers f ≡ unknown_function
  meaning_is Unknown e = refl
  meaning_is (Callers f) e = cc

  pub unknown_stated : (f : ExtensionFunction F) → is_unknown f ≡ true → function_name f ≡ the_unknown → function_style f ≡ as_function →
      argument_types f ≡ StringType ∷ [] → returned_type f ≡ None → stated answers f ≡ stated_unknown
  unknown_stated f u n s a r = λ i. record {
    function = record { name = n i; style = s i; function = meaning_is f.function u i };
    arguments = a i;
    answer = value_type_in (r i);
    names_unknown = u i;
  }

  -- ---- a table of extensions

  pub stated_of_table : (ts es : List (Extension F)) → ts ≡ es →
      map (stated answers) (flat_map extension_functions es) ≡ map standard_function standard_functions ++ stated_unknown ∷ [] →
      map (stated answers) (flat_map extension_functions ts) ≡ map standard_function standard_functions ++ stated_unknown ∷ []
  stated_of_table ts es same h = ap (λ xs. map (stated answers) (flat_map extension_functions xs)) same ∙ h

  pub defined_of_table : (ts es : List (Extension F)) → ts ≡ es →
      map (stated answers) (flat_map extension_functions es) ≡ map standard_function standard_functions ++ stated_unknown ∷ [] →
      defined answers (flat_map extension_functions ts) ≡ standard_table
  defined_of_table ts es same h = table_defined (flat_map extension_functions ts) (stated_of_table ts es same h)

pub three_ordered : (a b c : List Name) → a ≡ [] → b ≡ [] → c ≡ datetime_type ∷ duration_type ∷ [] → a ++ (b ++ (c ++ [])) ≡ datetime_type ∷ duration_type ∷ []
three_ordered a b c p q r = ap (λ x. x ++ (b ++ (c ++ []))) p ∙ ap (λ x. x ++ (c ++ [])) q ∙ ap (λ x. x ++ []) r

pub four_ordered : (a b c d : List Name) → a ≡ [] → b ≡ [] → c ≡ datetime_type ∷ duration_type ∷ [] → d ≡ [] →
    a ++ (b ++ (c ++ (d ++ []))) ≡ datetime_type ∷ duration_type ∷ []
four_ordered a b c d p q r s =
    ap (λ x. x ++ (b ++ (c ++ (d ++ [])))) p
    ∙ ap (λ x. x ++ (c ++ (d ++ []))) q
    ∙ ap (λ x. x ++ (d ++ [])) r
    ∙ ap (λ x. datetime_type ∷ duration_type ∷ (x ++ [])) s

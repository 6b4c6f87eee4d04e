-- Values that are built are those that what writes them makes again.
use Rattle.std.proofs.Common.{◌≡◌, ◌∙◌, ◌<◌, ℕ, refl, ap, true, cond, List, [], ◌∷◌, Some, None, option_map}
use Rattle.std.proofs.lemmas.Bool.{lt-ltb}
use Rattle.std.specs.List.{AllByRecursion}
use Rattle.std.specs.Prelude.{nat_lt}
use Rattle.cedar_language.specs.Constructing.{the_constructor, and_byte, bytes_of, constructor_function}
use Rattle.cedar_language.specs.Facts.{Facts}
use Rattle.cedar_language.specs.Operators.{called, or_fails}
use Rattle.cedar_language.specs.Value.{Extension, Value, Plain, SetOf, RecordOf, ExtensionOf, Values, no_values, a_value, FailedExtensionFunctionExecution, Gives}
use Rattle.cedar_partial_evaluation.specs.MadeAgain.{long_values, parts_of, IsMadeAgain, AreMadeAgain}
use Rattle.cedar_extensions.specs.Answering.{FunctionAnswers}
use Rattle.cedar_extensions.specs.Table.{as_table, HasFunctions}
use Rattle.cedar_extensions.specs.declared.extensions.Extensions.{Extensions}
use Rattle.cedar_restricted_evaluation.specs.Built.{IsBuilt, AreBuilt}

-- bytes are read of their longs
byte_back : (b : ℕ) (bs : List ℕ) → nat_lt b 256 ≡ true → cond (nat_lt b 256) (Some (b ∷ bs)) None ≡ Some (b ∷ bs)
byte_back b bs small = ap (λ x. cond x (Some (b ∷ bs)) None) small

bytes_back : (bs : List ℕ) → AllByRecursion (λ b. b < 256) bs → bytes_of (long_values bs) ≡ Some bs
bytes_back [] h = refl
bytes_back (b ∷ bs) h = ap (and_byte b) (bytes_back bs h.1) ∙ byte_back b bs (lt-ltb b 256 h.0)

module _ (facts : Facts) (constructs : facts.function the_constructor ≡ Some constructor_function) where
  constructed_again : (e : Extension) → AllByRecursion (λ b. b < 256) e.key → called (facts.function the_constructor) (parts_of e) ≡ Gives (ExtensionOf e)
  constructed_again e h =
      ap (λ o. called o (parts_of e)) constructs
      ∙ ap (λ o. or_fails FailedExtensionFunctionExecution (option_map (λ key. ExtensionOf (record { type_name = e.type_name; ordered = e.ordered; key = key })) o)) (bytes_back e.key h)

  mutual
    pub built_is_made : (v : Value) → IsBuilt v → IsMadeAgain facts v
    built_is_made (Plain l) h = tt
    built_is_made (SetOf vs) h = (h.0, built_are_made vs h.1)
    built_is_made (RecordOf ks vs) h = built_are_made vs h
    built_is_made (ExtensionOf e) h = constructed_again e h

    pub built_are_made : (vs : Values) → AreBuilt vs → AreMadeAgain facts vs
    built_are_made no_values h = tt
    built_are_made (a_value v vs) h = (built_is_made v h.0, built_are_made vs h.1)

-- facts with the functions of a table of code have the constructor
pub table_constructs : {F : Type 0} (answers : F → FunctionAnswers) (extensions : Extensions F) (facts : Facts) → HasFunctions (as_table answers extensions) facts → facts.function the_constructor ≡ Some constructor_function
table_constructs answers extensions facts has = has the_constructor

-- No function of a table has the name of the language's own constructor of extension values.
use Rattle.std.proofs.Common.{◌≡◌, List, [], ◌∷◌, refl, ap, sym, ◌∙◌, true≢false}
use Rattle.std.specs.Prelude.{Bool, true, false, cond, Option, Some, None, map, is_some, IsSome}
use Rattle.std.specs.List.{AllByRecursion, IsDistinct}
use Rattle.std.proofs.lemmas.Map.Keys.{IsDistinct-head}
use Rattle.cedar_language.specs.Uid.{Name}
use Rattle.cedar_language.specs.Order.{same_name}
use Rattle.cedar_language.specs.Facts.{Function}
use Rattle.cedar_language.specs.Constructing.{the_constructor, is_the_constructor, constructor_function, or_constructor}
use Rattle.cedar_names.specs.Laws.{same_name_equiv}
use Rattle.cedar_names.proofs.Sameness.{names_same}
use Rattle.cedar_extensions.specs.Functions.{function_name}
use Rattle.cedar_extensions.specs.Holding.{found_in}
use Rattle.cedar_extensions.specs.Making.{names_taken}
use Rattle.cedar_extensions.specs.declared.functions.ExtensionFunction.{ExtensionFunction}

-- a name that no function has finds none
not_found : {F : Type 0} (n : Name) (fs : List (ExtensionFunction F)) → AllByRecursion (λ m. same_name n m ≡ false) (map function_name fs) → found_in fs n ≡ None
not_found n [] others = refl
not_found n (f ∷ fs) others = ap (λ b. cond b (Some f) (found_in fs n)) (same_name_equiv.symm (function_name f) n ∙ others.0) ∙ not_found n fs others.1

-- where the names that are taken differ
pub distinct_apart : {F : Type 0} (fs : List (ExtensionFunction F)) → IsDistinct same_name (names_taken fs) → found_in fs the_constructor ≡ None
distinct_apart fs distinct = not_found the_constructor fs (IsDistinct-head same_name the_constructor (map function_name fs) distinct)

-- what is found by a name is what that name calls in an evaluation
pub found_evaluated : (function : Name → Option Function) → function the_constructor ≡ None → (n : Name) → IsSome (function n) → or_constructor function n ≡ function n
found_evaluated function apart n found = by_name (is_the_constructor n) refl where
  by_name : (b : Bool) → is_the_constructor n ≡ b → cond b (Some constructor_function) (function n) ≡ function n
  by_name true is = absurd (true≢false (sym found ∙ ap is_some (ap function ((names_same n the_constructor).0 is) ∙ apart)))
  by_name false is = refl

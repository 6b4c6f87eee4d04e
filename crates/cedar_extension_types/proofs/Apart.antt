-- No name and no type of the standard functions stands twice.
use Rattle.std.proofs.Common.{◌≡◌, List, [], ◌∷◌, ◌++◌, ◌&&◌, ◌||◌, map, Bool, true, false, not, cond, Option, None, refl, sym, ap, ◌∙◌}
use Rattle.std.specs.List.{list_any, list_all, filter_map, cons_option}
use Rattle.cedar_language.specs.Uid.{Name}
use Rattle.cedar_language.specs.Tree.{ValueType, BooleanType, LongType, StringType, SetType, RecordType, EntityType, ExtensionType}
use Rattle.cedar_language.specs.Order.{same_name}
use Rattle.cedar_language.specs.Constructing.{the_constructor}
use Rattle.cedar_extensions.specs.Answering.{FunctionAnswers}
use Rattle.cedar_extensions.specs.Collecting.{IsFirstRepeated}
use Rattle.cedar_extensions.specs.Functions.{function_name, is_constructor, extension_type_in}
use Rattle.cedar_extensions.specs.Making.{names_taken, type_made, types_made, IsTypeRepeated}
use Rattle.cedar_extensions.specs.declared.functions.ExtensionFunction.{ExtensionFunction}
use Rattle.cedar_extension_types.specs.Tables.{StatedFunction, stated, standard_function, standard_functions, stated_unknown}

and_parts : (a b : Bool) → (a && b) ≡ true → (a ≡ true) × (b ≡ true)
and_parts true b e = (refl, e)
and_parts false b e = cc

not_true : (b : Bool) → not b ≡ true → b ≡ false
not_true true e = cc
not_true false e = refl

-- none is the same as one before it
abbrev are_apart : List Name → Bool
are_apart [] = true
are_apart (n ∷ ns) = list_all (λ m. not (same_name m n)) ns && are_apart ns

at_place : (test : Name → Bool) (before after : List Name) (n : Name) → list_all test (before ++ n ∷ after) ≡ true → test n ≡ true
at_place test [] after n e = (and_parts (test n) (list_all test after) e).0
at_place test (b ∷ bs) after n e = at_place test bs after n (and_parts (test b) (list_all test (bs ++ n ∷ after)) e).1

none_before : (before after : List Name) (n : Name) → are_apart (before ++ n ∷ after) ≡ true → list_any (same_name n) before ≡ true → ⊥
none_before [] after n apart found = cc
none_before (b ∷ bs) after n apart found =
    let parts = and_parts (list_all (λ m. not (same_name m b)) (bs ++ n ∷ after)) (are_apart (bs ++ n ∷ after)) apart in
    let other = not_true (same_name n b) (at_place (λ m. not (same_name m b)) bs after n parts.0) in
    none_before bs after n parts.1 (sym (ap (λ c. c || list_any (same_name n) bs) other) ∙ found)

never_repeated : (ns ms : List Name) (n : Name) → ns ≡ ms → are_apart ms ≡ true → IsFirstRepeated same_name ns n → ⊥
never_repeated ns ms n same apart r = none_before r.before r.after n (ap are_apart (sym r.whole ∙ same) ∙ apart) r.repeated

-- ---- the names, and the types that are made of texts

abbrev all_stated : List StatedFunction
all_stated = map standard_function standard_functions ++ stated_unknown ∷ []

abbrev type_stated : StatedFunction → Option Name
type_stated s = cond (is_constructor s.answer s.function.style s.arguments) (extension_type_in s.answer) None

module _ {F : Type 0} (answers : F → FunctionAnswers) where
  names_stated : (fs : List (ExtensionFunction F)) → map function_name fs ≡ map (λ s. s.function.name) (map (stated answers) fs)
  names_stated [] = refl
  names_stated (f ∷ fs) = ap (λ ns. function_name f ∷ ns) (names_stated fs)

  types_stated : (fs : List (ExtensionFunction F)) → types_made fs ≡ filter_map type_stated (map (stated answers) fs)
  types_stated [] = refl
  types_stated (f ∷ fs) = ap (cons_option (type_made f)) (types_stated fs)

  pub no_name_repeats : (fs : List (ExtensionFunction F)) (n : Name) → map (stated answers) fs ≡ map standard_function standard_functions ++ stated_unknown ∷ [] →
      IsFirstRepeated same_name (names_taken fs) n → ⊥
  no_name_repeats fs n h r =
      never_repeated (names_taken fs) (the_constructor ∷ map (λ s. s.function.name) all_stated) n
      (ap (λ ns. the_constructor ∷ ns) (names_stated fs ∙ ap (map (λ s. s.function.name)) h)) refl r

  pub no_type_repeats : (fs : List (ExtensionFunction F)) (ty : ValueType) → map (stated answers) fs ≡ map standard_function standard_functions ++ stated_unknown ∷ [] →
      IsTypeRepeated (types_made fs) ty → ⊥
  no_type_repeats fs (ExtensionType n) h r =
      never_repeated (types_made fs) (filter_map type_stated all_stated) n (types_stated fs ∙ ap (filter_map type_stated) h) refl r
  no_type_repeats fs BooleanType h r = r
  no_type_repeats fs LongType h r = r
  no_type_repeats fs StringType h r = r
  no_type_repeats fs SetType h r = r
  no_type_repeats fs RecordType h r = r
  no_type_repeats fs (EntityType t) h r = r

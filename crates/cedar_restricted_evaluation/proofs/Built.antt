-- The values that restricted trees are evaluated to are built.
use Rattle.std.proofs.lemmas.Bool.{ltb-true, and_parts}
use Rattle.std.specs.Prelude.{nat_lt, Result, Err, IfOk}
use Rattle.std.proofs.Common.{◌≡◌, ◌∙◌, ◌<◌, pos, ℕ, refl, ap, sym, subst, Bool, true, false, cond, Option, Some, None, option_map, List, ◌∷◌, Ordering, Ok}
use Rattle.std.specs.FinMap.{get-empty}
use Rattle.std.specs.List.{AllByRecursion}
use Rattle.std.specs.declared.cmp.Ordering.TheVariants as ordering
use Rattle.either.specs.declared.Either.{Either}
use Rattle.either.specs.declared.Either.TheVariants.{Left, Right}
use Rattle.cedar_language.proofs.Rising.{rising_rises}
use Rattle.cedar_language.specs.Facts as language
use Rattle.cedar_language.specs.Facts.{Facts}
use Rattle.cedar_language.specs.Operators.{called, count, or_fails, takes}
use Rattle.cedar_language.specs.Order.{text_cmp, value_cmp, placed, put, rising}
use Rattle.cedar_language.specs.Restricted.{is_restricted, are_restricted}
use Rattle.cedar_language.specs.Constructing.{is_the_constructor, and_byte, bytes_of, constructed, constructor_function}
use Rattle.cedar_language.specs.Tree.{Boolean, Long, Entity, String, MakeSet, MakeRecord, Call, Tree, Lit, Unknown, Apply, Trees, no_trees, a_tree, ValueType}
use Rattle.cedar_language.specs.Uid.{Text, Name}
use Rattle.cedar_language.specs.Value.{Value, Plain, ExtensionOf, Values, no_values, a_value, WrongNumArguments, FailedExtensionFunctionExecution, Outcome, Gives, Fails}
use Rattle.cedar_partial_evaluation.specs.Partial.{Answer, Evaluated, ResidualTree, Failed, Answers, AllEvaluated, SomeResiduals, SomeFailed, answer_of, and_next, apply_answer, partial_in}
use Rattle.cedar_partial_evaluation.specs.Question.{name_held}
use Rattle.cedar_grammar.specs.Functions.{one_string}
use Rattle.cedar_extensions.specs.Answering.{FunctionAnswers}
use Rattle.cedar_extensions.specs.Functions.{meaning_in, meaning_of}
use Rattle.cedar_extensions.specs.Holding.{found_in}
use Rattle.cedar_extensions.specs.Table.{Table, as_table, HasFunctions, functions_of}
use Rattle.cedar_extensions.specs.Tables.{functions_in}
use Rattle.cedar_extensions.specs.declared.evaluation_error.EvaluationError.{EvaluationError}
use Rattle.cedar_extensions.specs.declared.extensions.Extensions.{Extensions}
use Rattle.cedar_extensions.specs.declared.functions.ExtensionFunction.{ExtensionFunction}
use Rattle.cedar_extensions.specs.declared.functions.Function.{Function}
use Rattle.cedar_extensions.specs.declared.functions.Function.TheVariants as function
use Rattle.cedar_restricted.specs.PartialValues.{partial_of}
use Rattle.cedar_restricted.specs.declared.partial_values.PartialValue.{PartialValue}
use Rattle.cedar_restricted_evaluation.specs.Evaluations as evaluation
use Rattle.cedar_restricted_evaluation.specs.Evaluations.{nothing_told, name_called, named_or, answer_in, answers_in, part_answer}
use Rattle.cedar_restricted_evaluation.specs.Built.{IsBuilt, AreBuilt, IsBuiltPart, GivesBuilt}

-- ---- sets

placed_built : (o : Ordering) (v w : Value) (ws vs : Values) → IsBuilt v → IsBuilt w → AreBuilt ws → AreBuilt vs → AreBuilt (placed o v w ws vs)
placed_built ordering.Less v w ws vs h i j k = (h, (i, j))
placed_built ordering.Equal v w ws vs h i j k = (i, j)
placed_built ordering.Greater v w ws vs h i j k = (i, k)

put_built : (v : Value) (ws : Values) → IsBuilt v → AreBuilt ws → AreBuilt (put v ws)
put_built v no_values h k = (h, tt)
put_built v (a_value w ws) h k = placed_built (value_cmp v w) v w ws (put v ws) h k.0 k.1 (put_built v ws h k.1)

rising_built : (vs : Values) → AreBuilt vs → AreBuilt (rising vs)
rising_built no_values h = tt
rising_built (a_value v vs) h = put_built v (rising vs) h.0 (rising_built vs h.1)

-- ---- calls

abbrev pub IsBuiltOption : Option Value → Type 0
IsBuiltOption (Some v) = IsBuilt v
IsBuiltOption None = Unit {0}

-- what the constructor gives
abbrev AreBytes : Option (List ℕ) → Type 0
AreBytes (Some bs) = AllByRecursion (λ b. b < 256) bs
AreBytes None = Unit {0}

byte_more : (b : ℕ) (small : Bool) → nat_lt b 256 ≡ small → (bs : List ℕ) → AllByRecursion (λ c. c < 256) bs → AreBytes (cond small (Some (b ∷ bs)) None)
byte_more b true is bs h = (ltb-true b 256 is, h)
byte_more b false is bs h = tt

and_byte_is : (b : ℕ) (o : Option (List ℕ)) → AreBytes o → AreBytes (and_byte b o)
and_byte_is b (Some bs) h = byte_more b (nat_lt b 256) refl bs h
and_byte_is b None h = tt

are_bytes : (vs : Values) → AreBytes (bytes_of vs)
are_bytes no_values = tt
are_bytes (a_value (Plain (Long (pos b))) vs) = and_byte_is b (bytes_of vs) (are_bytes vs)
are_bytes (a_value v vs) = tt

of_bytes : (n : Name) (b : Bool) (o : Option (List ℕ)) → AreBytes o → IsBuiltOption (option_map (λ key. ExtensionOf (record { type_name = n; ordered = b; key = key })) o)
of_bytes n b (Some bs) h = h
of_bytes n b None h = tt

constructed_built : (vs : Values) → IsBuiltOption (constructed vs)
constructed_built (a_value (Plain (Entity u)) (a_value (Plain (Boolean b)) vs)) = of_bytes u.type_name b (bytes_of vs) (are_bytes vs)
constructed_built vs = tt

text_built : (vs : Values) → IsBuiltOption (one_string vs)
text_built (a_value (Plain (String s)) no_values) = tt
text_built vs = tt

each_built : (o : Option Value) → ((v : Value) → o ≡ Some v → IsBuilt v) → IsBuiltOption o
each_built None h = tt
each_built (Some v) h = h v refl

module _ {F : Type 0} (answers : F → FunctionAnswers) where
  -- the built-in function gives a text, and a caller's a built value
  answer_built : (g : Function F) (vs : Values) → IsBuiltOption ((meaning_in answers g).answer vs)
  answer_built function.Unknown vs = text_built vs
  answer_built (function.Callers f) vs = each_built ((answers f.object).given vs) ((answers f.object).built vs)

  given_built : (o : Option (ExtensionFunction F)) (f : language.Function) (vs : Values) (v : Value) → option_map (meaning_of answers) o ≡ Some f → f.answer vs ≡ Some v → IsBuilt v
  given_built None f vs v is h = cc
  given_built (Some g) f vs v is h =
      let same : meaning_of answers g ≡ f = cc in
      subst IsBuiltOption (ap (λ (x : language.Function). x.answer vs) same ∙ h) (answer_built g.function vs)

  by_name : (b : Bool) (o : Option (ExtensionFunction F)) (f : language.Function) (vs : Values) (v : Value) → cond b (Some constructor_function) (option_map (meaning_of answers) o) ≡ Some f → f.answer vs ≡ Some v → IsBuilt v
  by_name true o f vs v is h =
      let same : constructor_function ≡ f = cc in
      subst IsBuiltOption (ap (λ (x : language.Function). x.answer vs) same ∙ h) (constructed_built vs)
  by_name false o f vs v is h = given_built o f vs v is h

  pub gives_built : (extensions : Extensions F) → GivesBuilt (as_table answers extensions)
  gives_built extensions n f vs v is h = by_name (is_the_constructor n) (found_in (functions_in extensions) n) f vs v is h

abbrev IsBuiltOutcome : Outcome → Type 0
IsBuiltOutcome (Gives v) = IsBuilt v
IsBuiltOutcome (Fails k) = Unit {0}

either_built : (b : Bool) (o p : Outcome) → IsBuiltOutcome o → IsBuiltOutcome p → IsBuiltOutcome (cond b o p)
either_built true o p h k = h
either_built false o p h k = k

option_built : (o : Option Value) → ((v : Value) → o ≡ Some v → IsBuilt v) → IsBuiltOutcome (or_fails FailedExtensionFunctionExecution o)
option_built None h = tt
option_built (Some v) h = h v refl

outcome_of : (o : Option language.Function) (vs : Values) → ((f : language.Function) (v : Value) → o ≡ Some f → f.answer vs ≡ Some v → IsBuilt v) → IsBuiltOutcome (called o vs)
outcome_of None vs h = tt
outcome_of (Some f) vs h = either_built (takes f.takes (count vs)) (or_fails FailedExtensionFunctionExecution (f.answer vs)) (Fails WrongNumArguments) (option_built (f.answer vs) (λ v is. h f v refl is)) tt

call_built : (table : Table) → GivesBuilt table → (n : Name) (vs : Values) → IsBuiltOutcome (called (table.function n) vs)
call_built table gives n vs = outcome_of (table.function n) vs (λ f v is h. gives n f vs v is h)

-- ---- answers

abbrev IsBuiltAnswer : Answer → Type 0
IsBuiltAnswer (Evaluated v) = IsBuilt v
IsBuiltAnswer (ResidualTree r) = Unit {0}
IsBuiltAnswer (Failed k) = Unit {0}

abbrev AreBuiltAnswers : Answers → Type 0
AreBuiltAnswers (AllEvaluated vs) = AreBuilt vs
AreBuiltAnswers (SomeResiduals rs) = Unit {0}
AreBuiltAnswers (SomeFailed k) = Unit {0}

outcome_built : (o : Outcome) → IsBuiltOutcome o → IsBuiltAnswer (answer_of o)
outcome_built (Gives v) h = h
outcome_built (Fails k) h = tt

module _ (table : Table) (gives : GivesBuilt table) (facts : Facts) (has : HasFunctions table facts) where
  unknown_built : (n : Text) (ty : Option ValueType) → IsBuiltAnswer (partial_in facts nothing_told (Unknown n ty))
  unknown_built n ty = subst (λ o. IsBuiltAnswer (name_held o n ty)) (sym (get-empty text_cmp n)) tt

  next_built : (a : Answer) (as_ : Answers) → IsBuiltAnswer a → AreBuiltAnswers as_ → AreBuiltAnswers (and_next facts a as_)
  next_built (Evaluated v) (AllEvaluated vs) h k = (h, k)
  next_built (Evaluated v) (SomeResiduals rs) h k = tt
  next_built (Evaluated v) (SomeFailed e) h k = tt
  next_built (ResidualTree r) (AllEvaluated vs) h k = tt
  next_built (ResidualTree r) (SomeResiduals rs) h k = tt
  next_built (ResidualTree r) (SomeFailed e) h k = tt
  next_built (Failed e) as_ h k = tt

  set_built : (as_ : Answers) → AreBuiltAnswers as_ → IsBuiltAnswer (apply_answer facts nothing_told MakeSet as_)
  set_built (AllEvaluated vs) h = (rising_rises vs, rising_built vs h)
  set_built (SomeResiduals rs) h = tt
  set_built (SomeFailed k) h = tt

  record_built : (ks : List Text) (as_ : Answers) → AreBuiltAnswers as_ → IsBuiltAnswer (apply_answer facts nothing_told (MakeRecord ks) as_)
  record_built ks (AllEvaluated vs) h = h
  record_built ks (SomeResiduals rs) h = tt
  record_built ks (SomeFailed k) h = tt

  function_built : (f : Name) (as_ : Answers) → IsBuiltAnswer (apply_answer facts nothing_told (Call f) as_)
  function_built f (AllEvaluated vs) =
      outcome_built (called (facts.function f) vs) (subst (λ o. IsBuiltOutcome (called o vs)) (sym (has f)) (call_built table gives f vs))
  function_built f (SomeResiduals rs) = tt
  function_built f (SomeFailed k) = tt

  named_built : (o : Option Text) (a : Answer) → IsBuiltAnswer a → IsBuiltAnswer (named_or o a)
  named_built (Some n) a h = tt
  named_built None a h = h

  mutual
    tree_built : (t : Tree) → is_restricted t ≡ true → IsBuiltAnswer (answer_in table facts t)
    tree_built (Lit l) h = tt
    tree_built (Unknown n ty) h = unknown_built n ty
    tree_built (Apply MakeSet ts) h = set_built (answers_in table facts ts) (trees_built ts h)
    tree_built (Apply (MakeRecord ks) ts) h = record_built ks (answers_in table facts ts) (trees_built ts h)
    tree_built (Apply (Call f) ts) h =
        named_built (name_called table (Call f) (answers_in table facts ts)) (apply_answer facts nothing_told (Call f) (answers_in table facts ts)) (function_built f (answers_in table facts ts))
    tree_built t h = cc

    trees_built : (ts : Trees) → are_restricted ts ≡ true → AreBuiltAnswers (answers_in table facts ts)
    trees_built no_trees h = tt
    trees_built (a_tree t ts) h = next_built (answer_in table facts t) (answers_in table facts ts) (tree_built t (and_parts _ _ h).0) (trees_built ts (and_parts _ _ h).1)

-- ---- what an evaluation gives

part_built : (a : Answer) → IsBuiltAnswer a → (p : Either Value Tree) → a ≡ part_answer p → IsBuiltPart p
part_built a h (Left v) is = subst IsBuiltAnswer is h
part_built a h (Right r) is = tt

value_built : (table : Table) → GivesBuilt table → (depth : ℕ) (t : Tree) → is_restricted t ≡ true → (p : PartialValue) → evaluation.Answers table depth t (Ok p) → IsBuiltPart (partial_of p)
value_built table gives depth t restricted p h =
    part_built (answer_in table (functions_of table) t)
    (tree_built table gives (functions_of table) (λ n. refl) t restricted) (partial_of p) (h (functions_of table) (λ n. refl))

pub result_built : (table : Table) → GivesBuilt table → (depth : ℕ) (t : Tree) → is_restricted t ≡ true → (r : Result PartialValue EvaluationError) → evaluation.Answers table depth t r → IfOk r (λ p. IsBuiltPart (partial_of p))
result_built table gives depth t restricted (Ok p) h = value_built table gives depth t restricted p h
result_built table gives depth t restricted (Err e) h = tt

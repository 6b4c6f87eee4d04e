-- Restricted trees, whose names of unknowns are such: what is answered of them, of the parts first.
use Rattle.std.proofs.Common.{◌≡◌, ◌∙◌, refl, ap, sym, subst, suc, true≢false, arith}
use Rattle.std.proofs.lemmas.Bool.{ne_eqb}
use Rattle.std.specs.FinMap as map
use Rattle.std.specs.FinMap.{get-empty}
use Rattle.std.specs.Prelude.{Bool, true, false, cond, not, nat_eq, ◌&&◌, ◌||◌, Option, Some, None}
use Rattle.cedar_language.specs.Uid.{Text, Name}
use Rattle.cedar_language.specs.Tree.{Literal, String, ValueType, Operator, MakeSet, MakeRecord, Call, Tree, Lit, Unknown, Apply, Trees, no_trees, a_tree}
use Rattle.cedar_language.specs.Value.{Value, Plain, RecordOf, Values, no_values, a_value, Kind, WrongNumArguments, FailedExtensionFunctionExecution, Outcome, Gives, Fails}
use Rattle.cedar_language.specs.Facts.{Facts}
use Rattle.cedar_language.specs.Meaning.{Request, GivesAll, meaning, meanings, more_of, apply_of}
use Rattle.cedar_language.specs.Operators.{applied, called, count, or_fails}
use Rattle.cedar_language.specs.Order.{text_cmp, set_of}
use Rattle.cedar_language.specs.Restricted.{is_restricted, are_restricted}
use Rattle.cedar_partial_evaluation.specs.Filling.{names_told}
use Rattle.cedar_partial_evaluation.specs.Partial.{Answer, Evaluated, ResidualTree, Failed, Answers, AllEvaluated, SomeResiduals, SomeFailed, answer_of, and_next, residual_answer, apply_answer, partial_in}
use Rattle.cedar_partial_evaluation.specs.Question.{name_held}
use Rattle.cedar_grammar.specs.UnknownCalls.{unknown_or, named_call, named, all_named, calls_unknown, holds_call, hold_call}
use Rattle.cedar_world.specs.Bodies.{some_name, some_name_of, some_part, some_part_of}
use Rattle.cedar_grammar.specs.Functions.{is_the_unknown, one_string, unknown_function}
use Rattle.cedar_world.specs.Setting.{Setting, functions_alone, value_of}
use Rattle.cedar_world.specs.Values.{fails, holds_open}
use Rattle.cedar_extensions.specs.Table.{Table, HasFunctions}
use Rattle.cedar_restricted_evaluation.specs.Evaluations.{nothing_told, one_text, name_called, named_or, answer_in, answers_in}
use Rattle.cedar_held.specs.Reading.{HasUnknown, IsRead, TreesAreRead}
use Rattle.cedar_lemmas.proofs.Booleans.{or_true, and_nothing as and_false, and_first as and_left, and_second as and_right, or_first as or_left, or_second as or_right}
use Rattle.std.proofs.lemmas.Bool.{or_from as or_false}

abbrev any_name : Text → Bool
any_name n = true

-- ---- calls of `unknown`

module _ (P : Tree → Type 0) (f : Name) where
  by_test : (t : Tree) (ts : Trees) (b : Bool) → is_the_unknown f ≡ b → ((n : Text) → a_tree t ts ≡ a_tree (Lit (String n)) no_trees → is_the_unknown f ≡ true → P (Unknown n None)) → P (Apply (Call f) (a_tree t ts)) → P (unknown_or b f t ts)
  by_test (Lit (String n)) no_trees true is k h = k n refl is
  by_test t ts false is k h = h
  by_test t ts true is k h = h

  by_naming : (us : Trees) → ((n : Text) → us ≡ a_tree (Lit (String n)) no_trees → is_the_unknown f ≡ true → P (Unknown n None)) → P (Apply (Call f) us) → P (named_call (Call f) us)
  by_naming no_trees k h = h
  by_naming (a_tree t ts) k h = by_test t ts (is_the_unknown f) refl k h

others_refused : (b : Bool) (o : Outcome) (v : Value) → b ≡ false → cond b o (Fails WrongNumArguments) ≡ Gives v → ⊥
others_refused true o v e h = cc
others_refused false o v e h = cc

two_arguments : (v w : Value) (ws : Values) (u : Value) → called (Some unknown_function) (a_value v (a_value w ws)) ≡ Gives u → ⊥
two_arguments v w ws u h = others_refused (nat_eq 1 (suc (suc (count ws)))) (or_fails FailedExtensionFunctionExecution (one_string (a_value v (a_value w ws)))) u (ne_eqb 1 (suc (suc (count ws))) (λ e. absurd (omega (arith, e)))) h

-- `unknown` gives a value of one text alone
gives_none : (vs : Values) (v : Value) → one_text vs ≡ None → called (Some unknown_function) vs ≡ Gives v → ⊥
gives_none no_values v e h = cc
gives_none (a_value (Plain (String t)) no_values) v e h = cc
gives_none (a_value w no_values) v e h = cc
gives_none (a_value v (a_value w ws)) u e h = two_arguments v w ws u h

gives_text : (vs : Values) (n : Text) → one_text vs ≡ Some n → called (Some unknown_function) vs ≡ Gives (Plain (String n))
gives_text (a_value (Plain (String s)) no_values) n e = let same : s ≡ n = cc in ap (λ t. Gives (Plain (String t))) same
gives_text vs n e = cc

-- ---- what is found of a tree, and of trees one after another

module _ (by : Setting) where
  abbrev facts : Facts
  facts = functions_alone by.functions

  abbrev asked : Request
  asked = names_told map.empty

  -- a part without unknown names errs here
  abbrev errs_here : Tree → Bool
  errs_here p = not (holds_open any_name p) && fails (value_of by.functions map.empty p)

  record IsValue (t : Tree) (v : Value) : Type 0 where
    means : meaning facts asked t ≡ Gives v
    known : some_name any_name t ≡ false
    uncalled : holds_call t ≡ false
    fine : some_part errs_here t ≡ false

  abbrev Found : Tree → Answer → Type 0
  Found t (Evaluated v) = IsValue t v
  Found t (ResidualTree r) = ((some_name any_name t || holds_call t) ≡ true) × (some_part errs_here t ≡ false)
  Found t (Failed k) = some_part errs_here t ≡ true

  record AreValues (ts : Trees) (vs : Values) : Type 0 where
    mean : meanings facts asked ts ≡ GivesAll vs
    known : some_name_of any_name ts ≡ false
    uncalled : hold_call ts ≡ false
    fine : some_part_of errs_here ts ≡ false

  abbrev AllFound : Trees → Answers → Type 0
  AllFound ts (AllEvaluated vs) = AreValues ts vs
  AllFound ts (SomeResiduals rs) = ((some_name_of any_name ts || hold_call ts) ≡ true) × (some_part_of errs_here ts ≡ false)
  AllFound ts (SomeFailed k) = some_part_of errs_here ts ≡ true

  -- ---- leaves

  literal_found : (l : Literal) → Found (Lit l) (Evaluated (Plain l))
  literal_found l = record { means = refl; known = refl; uncalled = refl; fine = refl }

  unknown_found : (n : Text) (ty : Option ValueType) → Found (Unknown n ty) (partial_in facts nothing_told (Unknown n ty))
  unknown_found n ty = subst (λ o. Found (Unknown n ty) (name_held o n ty)) (sym (get-empty text_cmp n)) (refl, refl)

  -- ---- trees one after another

  none_found : AllFound no_trees (AllEvaluated no_values)
  none_found = record { mean = refl; known = refl; uncalled = refl; fine = refl }

  -- one of them holds an unknown
  first_open : (a b c d : Bool) → (a || c) ≡ true → ((a || b) || (c || d)) ≡ true
  first_open true b c d h = refl
  first_open false b true d h = or_true b
  first_open false b false d h = cc

  later_open : (a b c d : Bool) → (b || d) ≡ true → ((a || b) || (c || d)) ≡ true
  later_open true b c d h = refl
  later_open false true c d h = refl
  later_open false false c d h = ap (λ e. c || e) h ∙ or_true c

  next_found : (t : Tree) (ts : Trees) (a : Answer) (as_ : Answers) → Found t a → AllFound ts as_ → AllFound (a_tree t ts) (and_next facts a as_)
  next_found t ts (Evaluated v) (AllEvaluated vs) h k = record {
    mean = ap (λ o. more_of o (meanings facts asked ts)) h.means ∙ ap (more_of (Gives v)) k.mean;
    known = or_false _ _ h.known k.known;
    uncalled = or_false _ _ h.uncalled k.uncalled;
    fine = or_false _ _ h.fine k.fine;
  }
  next_found t ts (Evaluated v) (SomeResiduals rs) h k = (later_open (some_name any_name t) (some_name_of any_name ts) (holds_call t) (hold_call ts) k.0, or_false _ _ h.fine k.1)
  next_found t ts (Evaluated v) (SomeFailed e) h k = ap (λ b. some_part errs_here t || b) k ∙ or_true (some_part errs_here t)
  next_found t ts (ResidualTree r) (AllEvaluated vs) h k = (first_open (some_name any_name t) (some_name_of any_name ts) (holds_call t) (hold_call ts) h.0, or_false _ _ h.1 k.fine)
  next_found t ts (ResidualTree r) (SomeResiduals rs) h k = (first_open (some_name any_name t) (some_name_of any_name ts) (holds_call t) (hold_call ts) h.0, or_false _ _ h.1 k.1)
  next_found t ts (ResidualTree r) (SomeFailed e) h k = ap (λ b. some_part errs_here t || b) k ∙ or_true (some_part errs_here t)
  next_found t ts (Failed e) as_ h k = ap (λ b. b || some_part_of errs_here ts) h

  -- ---- what is made of operands

  -- an operator that leaves a residual where an operand is one
  record Waits (op : Operator) : Type 0 where
    waits : (rs : Trees) → residual_answer facts nothing_told op rs ≡ ResidualTree (Apply op rs)

  module _ (op : Operator) (ts : Trees) where
    still_open : (some_name_of any_name ts || hold_call ts) ≡ true → errs_here (Apply op ts) ≡ false
    still_open h = ap (λ b. not b && fails (value_of by.functions map.empty (Apply op ts))) h

    holds_inside : (some_name_of any_name ts || hold_call ts) ≡ true → (some_name any_name (Apply op ts) || holds_call (Apply op ts)) ≡ true
    holds_inside h = later_open false (some_name_of any_name ts) (calls_unknown op) (hold_call ts) h

    residuals_found : (rs : Trees) → Waits op → AllFound ts (SomeResiduals rs) → Found (Apply op ts) (residual_answer facts nothing_told op rs)
    residuals_found rs w h = subst (Found (Apply op ts)) (sym (w.waits rs)) (holds_inside h.0, or_false _ _ (still_open h.0) h.1)

    failed_found : (k : Kind) → AllFound ts (SomeFailed k) → Found (Apply op ts) (Failed k)
    failed_found k h = ap (λ b. errs_here (Apply op ts) || b) h ∙ or_true (errs_here (Apply op ts))

    module _ (vs : Values) (h : AreValues ts vs) where
      applied_means : meaning facts asked (Apply op ts) ≡ applied facts op vs
      applied_means = ap (apply_of facts op) h.mean

      closed : not (holds_open any_name (Apply op ts)) ≡ true
      closed = ap not (or_false _ _ h.known h.uncalled)

      -- nothing errs where a value is given
      given_fine : (v : Value) → applied facts op vs ≡ Gives v → some_part errs_here (Apply op ts) ≡ false
      given_fine v is = or_false _ _ (ap (λ o. not (holds_open any_name (Apply op ts)) && fails o) (applied_means ∙ is) ∙ and_false _) h.fine

      outcome_found : (o : Outcome) → applied facts op vs ≡ o → ((v : Value) → o ≡ Gives v → calls_unknown op ≡ false) → Found (Apply op ts) (answer_of o)
      outcome_found (Gives v) is call = record {
        means = applied_means ∙ is;
        known = h.known;
        uncalled = or_false _ _ (call v refl) h.uncalled;
        fine = given_fine v is;
      }
      outcome_found (Fails k) is call =
          ap (λ b. b || some_part_of errs_here ts) (ap (λ o. not (holds_open any_name (Apply op ts)) && fails o) (applied_means ∙ is) ∙ ap (λ b. b && true) closed)

  set_found : (ts : Trees) (as_ : Answers) → AllFound ts as_ → Found (Apply MakeSet ts) (apply_answer facts nothing_told MakeSet as_)
  set_found ts (AllEvaluated vs) h = outcome_found MakeSet ts vs h (Gives (set_of vs)) refl (λ v e. refl)
  set_found ts (SomeResiduals rs) h = residuals_found MakeSet ts rs (record { waits = λ rs. refl }) h
  set_found ts (SomeFailed k) h = failed_found MakeSet ts k h

  record_found : (ks : _) (ts : Trees) (as_ : Answers) → AllFound ts as_ → Found (Apply (MakeRecord ks) ts) (apply_answer facts nothing_told (MakeRecord ks) as_)
  record_found ks ts (AllEvaluated vs) h = outcome_found (MakeRecord ks) ts vs h (Gives (RecordOf ks vs)) refl (λ v e. refl)
  record_found ks ts (SomeResiduals rs) h = residuals_found (MakeRecord ks) ts rs (record { waits = λ rs. refl }) h
  record_found ks ts (SomeFailed k) h = failed_found (MakeRecord ks) ts k h

  -- ---- calls

  module _ (table : Table) (functions : HasFunctions table facts) (unknown_is : HasUnknown table) where
    module _ (f : Name) (held : table.has_unknown ≡ false → is_the_unknown f ≡ false) where
      abbrev call_answer : Answers → Answer
      call_answer as_ = named_or (name_called table (Call f) as_) (apply_answer facts nothing_told (Call f) as_)

      -- where it is `unknown`, the table has it
      has_it : (b : Bool) → table.has_unknown ≡ b → is_the_unknown f ≡ true → table.has_unknown ≡ true
      has_it true is u = is
      has_it false is u = absurd (true≢false (sym u ∙ held is))

      built_in : is_the_unknown f ≡ true → facts.function f ≡ Some unknown_function
      built_in u = functions f ∙ unknown_is (has_it table.has_unknown refl u) f u

      names : is_the_unknown f ≡ true → (vs : Values) → name_called table (Call f) (AllEvaluated vs) ≡ one_text vs
      names u vs = ap (λ b. cond (b && is_the_unknown f) (one_text vs) None) (has_it table.has_unknown refl u) ∙ ap (λ b. cond b (one_text vs) None) u

      names_none : is_the_unknown f ≡ false → (vs : Values) → name_called table (Call f) (AllEvaluated vs) ≡ None
      names_none u vs = ap (λ b. cond (table.has_unknown && b) (one_text vs) None) u ∙ ap (λ b. cond b (one_text vs) None) (and_false table.has_unknown)

      module _ (us : Trees) where
        -- a call of `unknown` on one text is an unknown, and holds one; on anything else it errs
        unknown_called : is_the_unknown f ≡ true → (vs : Values) → AreValues us vs → (o : Option Text) → one_text vs ≡ o → Found (Apply (Call f) us) (named_or o (answer_of (called (facts.function f) vs)))
        unknown_called u vs h (Some n) is = (
          ap (λ b. some_name_of any_name us || (b || hold_call us)) u ∙ or_true (some_name_of any_name us),
          given_fine (Call f) us vs h (Plain (String n)) (ap (λ g. called g vs) (built_in u) ∙ gives_text vs n is),
        )
        unknown_called u vs h None is =
            outcome_found (Call f) us vs h (called (facts.function f) vs) refl
            (λ v e. absurd (gives_none vs v is (ap (λ g. called g vs) (sym (built_in u)) ∙ e)))

        call_by_name : (b : Bool) → is_the_unknown f ≡ b → (vs : Values) → AreValues us vs → Found (Apply (Call f) us) (call_answer (AllEvaluated vs))
        call_by_name true u vs h =
            subst (λ o. Found (Apply (Call f) us) (named_or o (answer_of (called (facts.function f) vs)))) (sym (names u vs)) (unknown_called u vs h (one_text vs) refl)
        call_by_name false u vs h =
            subst (λ o. Found (Apply (Call f) us) (named_or o (answer_of (called (facts.function f) vs)))) (sym (names_none u vs))
            (outcome_found (Call f) us vs h (called (facts.function f) vs) refl (λ v e. u))

        call_found : (as_ : Answers) → AllFound us as_ → Found (Apply (Call f) us) (call_answer as_)
        call_found (AllEvaluated vs) h = call_by_name (is_the_unknown f) refl vs h
        call_found (SomeResiduals rs) h = residuals_found (Call f) us rs (record { waits = λ rs. refl }) h
        call_found (SomeFailed k) h = failed_found (Call f) us k h

        -- one that names an unknown is this unknown
        literal_called : (n : Text) → us ≡ a_tree (Lit (String n)) no_trees → is_the_unknown f ≡ true → (as_ : Answers) → AllFound us as_ → Found (Unknown n None) (call_answer as_)
        literal_called n e u (AllEvaluated vs) h =
            let one : vs ≡ a_value (Plain (String n)) no_values = given_all vs (a_value (Plain (String n)) no_values) (sym h.mean ∙ ap (meanings facts asked) e) in
            subst (λ o. Found (Unknown n None) (named_or o (answer_of (called (facts.function f) vs)))) (sym (names u vs ∙ ap one_text one)) (refl, refl)
          where
            given_all : (vs ws : Values) → GivesAll vs ≡ GivesAll ws → vs ≡ ws
            given_all vs ws e = cc
        literal_called n e u (SomeResiduals rs) h = absurd (true≢false (sym h.0 ∙ ap (λ ts. some_name_of any_name ts || hold_call ts) e))
        literal_called n e u (SomeFailed k) h = absurd (true≢false (sym h ∙ ap (some_part_of errs_here) e))

    -- ---- restricted trees

    abbrev Held : Bool → Type 0
    Held calls = table.has_unknown ≡ false → calls ≡ false

    mutual
      tree_found : (t : Tree) → is_restricted t ≡ true → Held (holds_call t) → Found (named t) (answer_in table facts t)
      tree_found (Lit l) h held = literal_found l
      tree_found (Unknown n ty) h held = unknown_found n ty
      tree_found (Apply MakeSet ts) h held = set_found (all_named ts) (answers_in table facts ts) (trees_found ts h held)
      tree_found (Apply (MakeRecord ks) ts) h held = record_found ks (all_named ts) (answers_in table facts ts) (trees_found ts h held)
      tree_found (Apply (Call f) ts) h held =
          let here : Held (is_the_unknown f) = λ lacks. or_left (is_the_unknown f) (hold_call ts) (held lacks) in
          let found = trees_found ts h (λ lacks. or_right (is_the_unknown f) (hold_call ts) (held lacks)) in
          by_naming (λ t. Found t (answer_in table facts (Apply (Call f) ts))) f (all_named ts)
          (λ n e u. literal_called f here (all_named ts) n e u (answers_in table facts ts) found)
          (call_found f here (all_named ts) (answers_in table facts ts) found)
      tree_found t h held = cc

      trees_found : (ts : Trees) → are_restricted ts ≡ true → Held (hold_call ts) → AllFound (all_named ts) (answers_in table facts ts)
      trees_found no_trees h held = none_found
      trees_found (a_tree t ts) h held =
          next_found (named t) (all_named ts) (answer_in table facts t) (answers_in table facts ts)
          (tree_found t (and_left _ _ h) (λ lacks. or_left (holds_call t) (hold_call ts) (held lacks)))
          (trees_found ts (and_right _ _ h) (λ lacks. or_right (holds_call t) (hold_call ts) (held lacks)))

  read : (t : Tree) (a : Answer) → Found t a → IsRead by t a
  read t (Evaluated v) h = (h.means, or_false _ _ h.known h.uncalled, h.fine)
  read t (ResidualTree r) h = h
  read t (Failed k) h = h

pub trees_are_read : TreesAreRead
trees_are_read by table unknown_is t serves restricted =
    read by (named t) (answer_in table (functions_alone by.functions) t) (tree_found by table serves.functions unknown_is t restricted serves.held)

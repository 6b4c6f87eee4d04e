-- Trees of literals and of records of them: each means its value, whatever is asked and held, and names nothing.
use Rattle.std.proofs.Common.{◌≡◌, ◌∙◌, refl, sym, ap, subst, Bool, true, false, not, ◌&&◌, ◌||◌, is_some, true≢false}
use Rattle.std.proofs.lemmas.Bool.{and_parts}
use Rattle.std.specs.FinMap as finite
use Rattle.cedar_language.specs.Facts.{Facts}
use Rattle.cedar_language.specs.Meaning.{Request, meaning, meanings, GivesAll}
use Rattle.cedar_language.specs.Restricted.{is_restricted, are_restricted}
use Rattle.cedar_language.specs.Tree.{MakeRecord, Tree, Lit, Apply, Trees, no_trees, a_tree}
use Rattle.cedar_language.specs.Uid.{Text}
use Rattle.cedar_language.specs.Value.{Value, Plain, SetOf, RecordOf, ExtensionOf, Values, no_values, a_value, Gives}
use Rattle.cedar_partial_evaluation.specs.Partial.{Evaluated, AllEvaluated}
use Rattle.cedar_grammar.specs.UnknownCalls.{named, all_named, holds_call, hold_call}
use Rattle.cedar_extensions.specs.Table.{Table}
use Rattle.cedar_restricted_evaluation.specs.Evaluations.{answer_in, answers_in}
use Rattle.cedar_restricted.specs.Expressing.{Expresses, ExpressAll}
use Rattle.cedar_world.specs.Asking.{Told}
use Rattle.cedar_world.specs.Bodies.{some_name, some_name_of, some_part, some_part_of}
use Rattle.cedar_world.specs.Setting.{Setting, value_of}
use Rattle.cedar_world.specs.Values.{fails, holds_open, errs}
use Rattle.cedar_data.specs.Simple.{tree_of, trees_of, is_simple, are_simple}

-- ---- their trees

mutual
  pub calls_nothing : (t : Tree) → is_simple t ≡ true → holds_call t ≡ false
  calls_nothing (Lit l) h = refl
  calls_nothing (Apply (MakeRecord ks) ts) h = call_nothing ts h
  calls_nothing t h = absurd (true≢false (sym h))

  pub call_nothing : (ts : Trees) → are_simple ts ≡ true → hold_call ts ≡ false
  call_nothing no_trees h = refl
  call_nothing (a_tree t ts) h =
      let both = and_parts (is_simple t) (are_simple ts) h in
      rw (calls_nothing t both.0, call_nothing ts both.1)

mutual
  pub is_data : (t : Tree) → is_simple t ≡ true → is_restricted t ≡ true
  is_data (Lit l) h = refl
  is_data (Apply (MakeRecord ks) ts) h = are_data ts h
  is_data t h = absurd (true≢false (sym h))

  pub are_data : (ts : Trees) → are_simple ts ≡ true → are_restricted ts ≡ true
  are_data no_trees h = refl
  are_data (a_tree t ts) h =
      let both = and_parts (is_simple t) (are_simple ts) h in
      rw (is_data t both.0, are_data ts both.1)

mutual
  pub named_itself : (t : Tree) → is_simple t ≡ true → named t ≡ t
  named_itself (Lit l) h = refl
  named_itself (Apply (MakeRecord ks) ts) h = ap (Apply (MakeRecord ks)) (all_themselves ts h)
  named_itself t h = absurd (true≢false (sym h))

  pub all_themselves : (ts : Trees) → are_simple ts ≡ true → all_named ts ≡ ts
  all_themselves no_trees h = refl
  all_themselves (a_tree t ts) h =
      let both = and_parts (is_simple t) (are_simple ts) h in
      ap (λ u. a_tree u (all_named ts)) (named_itself t both.0) ∙ ap (a_tree t) (all_themselves ts both.1)

module _ (test : Text → Bool) where
  mutual
    pub names_nothing : (t : Tree) → is_simple t ≡ true → some_name test t ≡ false
    names_nothing (Lit l) h = refl
    names_nothing (Apply (MakeRecord ks) ts) h = name_nothing ts h
    names_nothing t h = absurd (true≢false (sym h))

    pub name_nothing : (ts : Trees) → are_simple ts ≡ true → some_name_of test ts ≡ false
    name_nothing no_trees h = refl
    name_nothing (a_tree t ts) h =
        let both = and_parts (is_simple t) (are_simple ts) h in
        rw (names_nothing t both.0, name_nothing ts both.1)

-- ---- they are what writes their values
mutual
  pub is_written : (v : Value) (t : Tree) → Expresses v t → is_simple (tree_of v) ≡ true → t ≡ tree_of v
  is_written (Plain l) t e h = e
  is_written (RecordOf ks vs) t e h = e.1 ∙ ap (Apply (MakeRecord ks)) (are_written vs e.0 e.2 h)
  is_written (SetOf vs) t e h = absurd (true≢false (sym h))
  is_written (ExtensionOf x) t e h = absurd (true≢false (sym h))

  are_written : (vs : Values) (ts : Trees) → ExpressAll vs ts → are_simple (trees_of vs) ≡ true → ts ≡ trees_of vs
  are_written no_values no_trees e h = refl
  are_written no_values (a_tree t ts) e h = absurd e
  are_written (a_value v vs) no_trees e h = absurd e
  are_written (a_value v vs) (a_tree t ts) e h =
      let both = and_parts (is_simple (tree_of v)) (are_simple (trees_of vs)) h in
      ap (λ u. a_tree u ts) (is_written v t e.0 both.0) ∙ ap (a_tree (tree_of v)) (are_written vs ts e.1 both.1)

-- ---- what they mean

module _ (facts : Facts) (request : Request) where
  mutual
    pub means : (v : Value) → is_simple (tree_of v) ≡ true → meaning facts request (tree_of v) ≡ Gives v
    means (Plain l) h = refl
    means (RecordOf ks vs) h = rw (all_mean vs h) refl
    means (SetOf vs) h = absurd (true≢false (sym h))
    means (ExtensionOf e) h = absurd (true≢false (sym h))

    pub all_mean : (vs : Values) → are_simple (trees_of vs) ≡ true → meanings facts request (trees_of vs) ≡ GivesAll vs
    all_mean no_values h = refl
    all_mean (a_value v vs) h =
        let both = and_parts (is_simple (tree_of v)) (are_simple (trees_of vs)) h in
        rw (means v both.0, all_mean vs both.1) refl

module _ (table : Table) (facts : Facts) where
  mutual
    pub answered : (v : Value) → is_simple (tree_of v) ≡ true → answer_in table facts (tree_of v) ≡ Evaluated v
    answered (Plain l) h = refl
    answered (RecordOf ks vs) h = rw (all_answered vs h) refl
    answered (SetOf vs) h = absurd (true≢false (sym h))
    answered (ExtensionOf e) h = absurd (true≢false (sym h))

    pub all_answered : (vs : Values) → are_simple (trees_of vs) ≡ true → answers_in table facts (trees_of vs) ≡ AllEvaluated vs
    all_answered no_values h = refl
    all_answered (a_value v vs) h =
        let both = and_parts (is_simple (tree_of v)) (are_simple (trees_of vs)) h in
        rw (answered v both.0, all_answered vs both.1) refl

-- ---- no part of them errs

pub never : (a : Bool) → (a && false) ≡ false
never true = refl
never false = refl

module _ (by : Setting) (told : Told) where
  abbrev open_name : Text → Bool
  open_name n = not (is_some (finite.get told n))

  part_fine : (v : Value) → is_simple (tree_of v) ≡ true → (not (holds_open open_name (tree_of v)) && fails (value_of by.functions told (tree_of v))) ≡ false
  part_fine v h = ap (λ o. not (holds_open open_name (tree_of v)) && fails o) (means _ _ v h) ∙ never (not (holds_open open_name (tree_of v)))

  mutual
    pub is_fine : (v : Value) → is_simple (tree_of v) ≡ true → errs by told (tree_of v) ≡ false
    is_fine (Plain l) h = part_fine (Plain l) h
    is_fine (RecordOf ks vs) h = rw (part_fine (RecordOf ks vs) h) (are_fine vs h)
    is_fine (SetOf vs) h = absurd (true≢false (sym h))
    is_fine (ExtensionOf e) h = absurd (true≢false (sym h))

    are_fine : (vs : Values) → are_simple (trees_of vs) ≡ true → some_part_of (λ p. not (holds_open open_name p) && fails (value_of by.functions told p)) (trees_of vs) ≡ false
    are_fine no_values h = refl
    are_fine (a_value v vs) h =
        let both = and_parts (is_simple (tree_of v)) (are_simple (trees_of vs)) h in
        rw (is_fine v both.0, are_fine vs both.1)

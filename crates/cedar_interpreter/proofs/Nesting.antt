-- How deep an evaluation nests, from the parts of a construct to it, and parts one after another.
use Rattle.std.proofs.Common.{◌≡◌, ◌∙◌, ℕ, ◌≤◌, ◌<◌, ◌+◌, refl, ap, sym, subst, List, [], ◌∷◌, ◌++◌, append_assoc, length-append, length, suc, map, arith, Bool, true}
use Rattle.std.proofs.Common.{inl, inr}
use Rattle.std.proofs.lemmas.List.{append-nil, map-append}
use Rattle.std.specs.Prelude.{⊤, ◌⊎◌, Result}
use Rattle.either.specs.declared.Either.{Either}
use Rattle.cedar_language.specs.Tree.{Operator, Tree, Lit, Var, Slot, Unknown, If, And, Or, Apply, Trees, no_trees, a_tree}
use Rattle.cedar_language.specs.Value.{Value, Kind}
use Rattle.cedar_language.specs.Facts.{Facts}
use Rattle.cedar_partial_evaluation.specs.Alike.{gathered}
use Rattle.cedar_partial_evaluation.specs.Partial.{Failed, SomeFailed, and_next, LeafAnswers}
use Rattle.cedar_policy_parts.specs.Bindings.{Bindings}
use Rattle.cedar_grammar.specs.Build.{trees}
use Rattle.cedar_shapes.specs.Parts.{listed, parts}
use Rattle.cedar_restricted.specs.declared.partial_values.PartialValue.{PartialValue}
use Rattle.cedar_extensions.specs.Answering.{FunctionAnswers}
use Rattle.cedar_extensions.specs.Failures.{Failure}
use Rattle.cedar_extensions.specs.Giving.{FailsBy, fails_on}
use Rattle.cedar_extensions.specs.declared.evaluation_error.EvaluationError.{EvaluationError}
use Rattle.cedar_interpreter.specs.Forms.{is_of_list}
use Rattle.cedar_interpreter.specs.Holding.{held_by, Knows, is_naming, NestsBeyond, SomeNestsBeyond}
use Rattle.cedar_interpreter.specs.Meeting.{part_answer, MeetsAt}
use Rattle.cedar_interpreter.specs.Naming.{construct_answer, naming_in, all_naming_in, naming_depth, naming_depths}
use Rattle.cedar_interpreter.specs.Operating.{operated}
use Rattle.cedar_interpreter.specs.declared.evaluator.Evaluator.{Evaluator}
use Rattle.cedar_interpreter.specs.Depths.{branch_depth}
use Rattle.cedar_interpreter.proofs.Branches.{behind_part}
use Rattle.cedar_interpreter.proofs.Constructs.{construct_fails}
use Rattle.cedar_interpreter.proofs.Gathering.{fails_behind, gathered_all}
use Rattle.cedar_interpreter.proofs.Steps.{meets_anyhow}

pub either_deep : {A B C : Type 0} → A ⊎ B → (A → C) → (B → C) → C
either_deep (inl a) f g = f a
either_deep (inr b) f g = g b

-- ---- depth

module _ {F : Type 0} (answers : F → FunctionAnswers) (ev : Evaluator F) (slots : Bindings) (depth : ℕ) where
  module _ (l r : Tree) where
    pub deep_and_left : NestsBeyond answers ev slots depth l → NestsBeyond answers ev slots (suc depth) (And l r)
    deep_and_left d facts has = omega (arith, d facts has)

    -- the right operand, where it is evaluated
    pub deep_and_right : ((facts : Facts) → Knows answers ev facts → naming_depth (is_naming answers ev) facts (held_by ev slots) r ≤ branch_depth (naming_in (is_naming answers ev) facts (held_by ev slots) l) (naming_depth (is_naming answers ev) facts (held_by ev slots) r) 0) → NestsBeyond answers ev slots depth r → NestsBeyond answers ev slots (suc depth) (And l r)
    deep_and_right taken d facts has = omega (arith, d facts has, taken facts has)

    pub deep_or_left : NestsBeyond answers ev slots depth l → NestsBeyond answers ev slots (suc depth) (Or l r)
    deep_or_left d facts has = omega (arith, d facts has)

    pub deep_or_right : ((facts : Facts) → Knows answers ev facts → naming_depth (is_naming answers ev) facts (held_by ev slots) r ≤ branch_depth (naming_in (is_naming answers ev) facts (held_by ev slots) l) 0 (naming_depth (is_naming answers ev) facts (held_by ev slots) r)) → NestsBeyond answers ev slots depth r → NestsBeyond answers ev slots (suc depth) (Or l r)
    deep_or_right taken d facts has = omega (arith, d facts has, taken facts has)

  module _ (t y n : Tree) where
    pub deep_if_test : NestsBeyond answers ev slots depth t → NestsBeyond answers ev slots (suc depth) (If t y n)
    deep_if_test d facts has = omega (arith, d facts has)

    pub deep_if_yes : ((facts : Facts) → Knows answers ev facts → naming_depth (is_naming answers ev) facts (held_by ev slots) y ≤ branch_depth (naming_in (is_naming answers ev) facts (held_by ev slots) t) (naming_depth (is_naming answers ev) facts (held_by ev slots) y) (naming_depth (is_naming answers ev) facts (held_by ev slots) n)) → NestsBeyond answers ev slots depth y → NestsBeyond answers ev slots (suc depth) (If t y n)
    deep_if_yes taken d facts has = omega (arith, d facts has, taken facts has)

    pub deep_if_no : ((facts : Facts) → Knows answers ev facts → naming_depth (is_naming answers ev) facts (held_by ev slots) n ≤ branch_depth (naming_in (is_naming answers ev) facts (held_by ev slots) t) (naming_depth (is_naming answers ev) facts (held_by ev slots) y) (naming_depth (is_naming answers ev) facts (held_by ev slots) n)) → NestsBeyond answers ev slots depth n → NestsBeyond answers ev slots (suc depth) (If t y n)
    deep_if_no taken d facts has = omega (arith, d facts has, taken facts has)

  pub deep_operand : (op : Operator) (t : Tree) → NestsBeyond answers ev slots depth t → NestsBeyond answers ev slots (suc depth) (Apply op (a_tree t no_trees))
  deep_operand op t d facts has = omega (arith, d facts has)

  module _ (op : Operator) (l r : Tree) where
    pub deep_left : NestsBeyond answers ev slots depth l → NestsBeyond answers ev slots (suc depth) (Apply op (a_tree l (a_tree r no_trees)))
    deep_left d facts has = omega (arith, d facts has)

    -- the right operand, where the left one doesn't err
    pub deep_right : (p : Either Value Tree) → ((facts : Facts) → Knows answers ev facts → naming_in (is_naming answers ev) facts (held_by ev slots) l ≡ part_answer p) → NestsBeyond answers ev slots depth r → NestsBeyond answers ev slots (suc depth) (Apply op (a_tree l (a_tree r no_trees)))
    deep_right p found d facts has =
        let rest = naming_depths (is_naming answers ev) facts (held_by ev slots) (a_tree r no_trees) in
        omega (arith, d facts has, behind_part p (naming_in (is_naming answers ev) facts (held_by ev slots) l) rest (found facts has))

  later_deep : (t : Tree) (ts : List Tree) (p : Either Value Tree) → ((facts : Facts) → Knows answers ev facts → naming_in (is_naming answers ev) facts (held_by ev slots) t ≡ part_answer p) → SomeNestsBeyond answers ev slots depth ts → SomeNestsBeyond answers ev slots depth (t ∷ ts)
  later_deep t ts p found d facts has =
      omega (arith, d facts has, behind_part p (naming_in (is_naming answers ev) facts (held_by ev slots) t) (naming_depths (is_naming answers ev) facts (held_by ev slots) (trees ts)) (found facts has))

  pub first_deep : (t : Tree) (ts : List Tree) → NestsBeyond answers ev slots depth t → SomeNestsBeyond answers ev slots depth (t ∷ ts)
  first_deep t ts d facts has = omega (arith, d facts has)

pub positive : (naming : Bool) (facts : Facts) (holds : LeafAnswers) (t : Tree) → 0 < naming_depth naming facts holds t
positive naming facts holds (Lit l) = omega arith
positive naming facts holds (Var v) = omega arith
positive naming facts holds (Slot s) = omega arith
positive naming facts holds (Unknown n ty) = omega arith
positive naming facts holds (If t y n) = omega arith
positive naming facts holds (And l r) = omega arith
positive naming facts holds (Or l r) = omega arith
positive naming facts holds (Apply op ts) = omega arith

-- what is deep below one level is deep at it
pub lowered : {F : Type 0} (answers : F → FunctionAnswers) (ev : Evaluator F) (slots : Bindings) (depth below : ℕ) (t u : Tree) → t ≡ u → depth ≡ below + 1 → NestsBeyond answers ev slots (suc below) u → NestsBeyond answers ev slots depth t
lowered answers ev slots depth below t u is step h facts has =
    subst (λ x. depth < naming_depth (is_naming answers ev) facts (held_by ev slots) x) (sym is) (omega (arith, h facts has, step))

-- ---- calls, sets and records

listed_again : (ts : Trees) → trees (listed ts) ≡ ts
listed_again no_trees = refl
listed_again (a_tree t ts) = ap (a_tree t) (listed_again ts)

module _ (naming : Bool) (facts : Facts) (holds : LeafAnswers) where
  list_is : (t : Tree) → is_of_list t ≡ true → operated naming facts holds t (gathered facts (map (naming_in naming facts holds) (parts t))) ≡ naming_in naming facts holds t
  list_is (Apply op ts) s = ap (construct_answer naming facts holds op) (gathered_all facts naming holds (listed ts) ∙ ap (all_naming_in naming facts holds) (listed_again ts))
  list_is (Lit l) s = cc
  list_is (Var v) s = cc
  list_is (Slot i) s = cc
  list_is (Unknown n ty) s = cc
  list_is (If t y n) s = cc
  list_is (And l r) s = cc
  list_is (Or l r) s = cc

  pub list_meets : (t : Tree) → is_of_list t ≡ true → (ps : List (Either Value Tree)) (r : Result PartialValue EvaluationError) → map (naming_in naming facts holds) (parts t) ≡ map part_answer ps →
      MeetsAt ⊥ (operated naming facts holds t (gathered facts (map part_answer ps))) r → MeetsAt ⊤ (naming_in naming facts holds t) r
  list_meets t s ps r found h =
      meets_anyhow r _ (subst (λ b. MeetsAt ⊥ b r) (ap (λ bs. operated naming facts holds t (gathered facts bs)) (sym found) ∙ list_is t s) h)

  pub list_fails : (t : Tree) (k : Kind) → is_of_list t ≡ true → gathered facts (map (naming_in naming facts holds) (parts t)) ≡ SomeFailed k → naming_in naming facts holds t ≡ Failed k
  list_fails (Apply op ts) k s h = sym (list_is (Apply op ts) s) ∙ ap (construct_answer naming facts holds op) h ∙ construct_fails naming facts holds op k
  list_fails (Lit l) k s h = cc
  list_fails (Var v) k s h = cc
  list_fails (Slot i) k s h = cc
  list_fails (Unknown n ty) k s h = cc
  list_fails (If t y n) k s h = cc
  list_fails (And l r) k s h = cc
  list_fails (Or l r) k s h = cc

pub list_deep : {F : Type 0} (answers : F → FunctionAnswers) (ev : Evaluator F) (slots : Bindings) (depth : ℕ) (t : Tree) → is_of_list t ≡ true → SomeNestsBeyond answers ev slots depth (parts t) → NestsBeyond answers ev slots (suc depth) t
list_deep answers ev slots depth (Apply op ts) s d = λ facts has.
    let k : depth < naming_depths (is_naming answers ev) facts (held_by ev slots) ts = subst (λ us. depth < naming_depths (is_naming answers ev) facts (held_by ev slots) us) (listed_again ts) (d facts has) in
    omega (arith, k)
list_deep answers ev slots depth (Lit l) s d = cc
list_deep answers ev slots depth (Var v) s d = cc
list_deep answers ev slots depth (Slot j) s d = cc
list_deep answers ev slots depth (Unknown n ty) s d = cc
list_deep answers ev slots depth (If t y n) s d = cc
list_deep answers ev slots depth (And l q) s d = cc
list_deep answers ev slots depth (Or l q) s d = cc

-- ---- parts one by one

-- these parts are answered, and those are to come
pub record Goes {F : Type 0} (answers : F → FunctionAnswers) (ev : Evaluator F) (slots : Bindings) (depth : ℕ) (rest : List Tree) (done : List (Either Value Tree)) (all : List Tree) : Type 0 where
  pub found : (facts : Facts) → Knows answers ev facts → map (naming_in (is_naming answers ev) facts (held_by ev slots)) all ≡ map part_answer done ++ map (naming_in (is_naming answers ev) facts (held_by ev slots)) rest
  pub deep : SomeNestsBeyond answers ev slots depth rest → SomeNestsBeyond answers ev slots depth all
  pub count : length all ≡ length done + length rest

module _ {F : Type 0} (answers : F → FunctionAnswers) (ev : Evaluator F) (slots : Bindings) (depth : ℕ) where
  pub goes_first : (all : List Tree) → Goes answers ev slots depth all [] all
  goes_first all = record { found = λ facts s. refl; deep = λ d. d; count = omega arith }

  module _ (later all : List Tree) (t : Tree) (done : List (Either Value Tree)) (goes : Goes answers ev slots depth (t ∷ later) done all) where
    pub goes_next : (p : Either Value Tree) → ((facts : Facts) → Knows answers ev facts → naming_in (is_naming answers ev) facts (held_by ev slots) t ≡ part_answer p) → Goes answers ev slots depth later (done ++ p ∷ []) all
    goes_next p found = record {
      found = λ facts s.
          let others = map (naming_in (is_naming answers ev) facts (held_by ev slots)) later in
          goes.found facts s
          ∙ ap (λ b. map part_answer done ++ b ∷ others) (found facts s)
          ∙ sym (append_assoc (map part_answer done) (part_answer p ∷ []) others)
          ∙ ap (λ bs. bs ++ others) (sym (map-append part_answer done (p ∷ [])));
      deep = λ d. goes.deep (later_deep answers ev slots depth t later p found d);
      count = omega (arith, goes.count, length-append done (p ∷ []));
    }

    pub goes_fails : (f : Failure) (facts : Facts) → Knows answers ev facts → (Knows answers ev facts → FailsBy ⊤ (λ k. naming_in (is_naming answers ev) facts (held_by ev slots) t ≡ Failed k) f) → FailsBy ⊤ (λ k. gathered facts (map (naming_in (is_naming answers ev) facts (held_by ev slots)) all) ≡ SomeFailed k) f
    goes_fails f facts s h =
        fails_on f
        (λ k e.
        ap (gathered facts) (goes.found facts s)
        ∙ fails_behind facts done (map (naming_in (is_naming answers ev) facts (held_by ev slots)) (t ∷ later)) k (ap (λ a. and_next facts a (gathered facts (map (naming_in (is_naming answers ev) facts (held_by ev slots)) later))) e))
        (λ d. d) (h s)

    pub goes_deep : NestsBeyond answers ev slots depth t → SomeNestsBeyond answers ev slots depth all
    goes_deep d = goes.deep (first_deep answers ev slots depth t later d)

  module _ (all : List Tree) (done : List (Either Value Tree)) (goes : Goes answers ev slots depth [] done all) where
    pub goes_end : (facts : Facts) → Knows answers ev facts → map (naming_in (is_naming answers ev) facts (held_by ev slots)) all ≡ map part_answer done
    goes_end facts s = goes.found facts s ∙ append-nil (map part_answer done)

    pub goes_count : length done ≡ length all
    goes_count = omega (arith, goes.count)

  -- the same, by how the rest is cut
  module _ (rest later all : List Tree) (t : Tree) (done : List (Either Value Tree)) (goes : Goes answers ev slots depth rest done all) (cut : rest ≡ t ∷ later) where
    goes_cut : Goes answers ev slots depth (t ∷ later) done all
    goes_cut = subst (λ r. Goes answers ev slots depth r done all) cut goes

    pub goes_on : (p : Either Value Tree) (more : List (Either Value Tree)) → ((facts : Facts) → Knows answers ev facts → naming_in (is_naming answers ev) facts (held_by ev slots) t ≡ part_answer p) → more ≡ done ++ p ∷ [] → Goes answers ev slots depth later more all
    goes_on p more found is = subst (λ m. Goes answers ev slots depth later m all) (sym is) (goes_next later all t done goes_cut p found)

    pub cut_fails : (f : Failure) (facts : Facts) → Knows answers ev facts → (Knows answers ev facts → FailsBy ⊤ (λ k. naming_in (is_naming answers ev) facts (held_by ev slots) t ≡ Failed k) f) → FailsBy ⊤ (λ k. gathered facts (map (naming_in (is_naming answers ev) facts (held_by ev slots)) all) ≡ SomeFailed k) f
    cut_fails = goes_fails later all t done goes_cut

    pub cut_deep : NestsBeyond answers ev slots depth t → SomeNestsBeyond answers ev slots depth all
    cut_deep = goes_deep later all t done goes_cut

  module _ (rest all : List Tree) (done : List (Either Value Tree)) (goes : Goes answers ev slots depth rest done all) (none : rest ≡ []) where
    pub ends : (facts : Facts) → Knows answers ev facts → map (naming_in (is_naming answers ev) facts (held_by ev slots)) all ≡ map part_answer done
    ends = goes_end all done (subst (λ r. Goes answers ev slots depth r done all) none goes)

    pub ends_count : length done ≡ length all
    ends_count = goes_count all done (subst (λ r. Goes answers ev slots depth r done all) none goes)

-- The answers of trees one after another.
use Rattle.std.proofs.Common.{◌≡◌, ◌≤◌, ◌∙◌, ℕ, refl, ap, sym, subst, List, [], ◌∷◌, ◌++◌, append_assoc, length, suc, map, arith}
use Rattle.std.proofs.lemmas.List.{append-nil, length-map}
use Rattle.std.specs.List.{list_any}
use Rattle.std.specs.Prelude.{Bool, true, false, ◌&&◌, ◌<◌, Result, Ok, Err, IfOk}
use Rattle.std.specs.Result.{IsErr, IsErrAnd}
use Rattle.either.specs.declared.Either.{Either}
use Rattle.either.specs.declared.Either.TheVariants.{Left, Right}
use Rattle.cedar_language.specs.Tree.{MakeSet, MakeRecord, Tree, Apply, Trees, no_trees, a_tree}
use Rattle.cedar_language.specs.Value.{Value, Plain, SetOf, RecordOf, ExtensionOf, Values, no_values, a_value, Kind}
use Rattle.cedar_language.specs.Facts.{Facts}
use Rattle.cedar_language.specs.Height.{height, heights}
use Rattle.cedar_language.specs.Order.{all_of}
use Rattle.cedar_language.specs.Restricted.{is_restricted, are_restricted}
use Rattle.cedar_partial_evaluation.specs.MadeAgain.{tree_of, trees_of}
use Rattle.cedar_partial_evaluation.specs.Partial.{Evaluated, ResidualTree, Answers, AllEvaluated, SomeResiduals, SomeFailed, and_next}
use Rattle.cedar_grammar.specs.Build.{trees}
use Rattle.cedar_extensions.specs.Failures.{Failure, failure_of}
use Rattle.cedar_extensions.specs.Giving.{FailsBy, GivesBy, fails_on}
use Rattle.cedar_extensions.specs.declared.evaluation_error.EvaluationError.{EvaluationError}
use Rattle.cedar_extensions.specs.Table.{Table}
use Rattle.cedar_restricted.specs.Expressing.{is_ground, are_ground, Expresses, ExpressAll}
use Rattle.cedar_restricted.specs.Splitting.{ExpressEach, is_residual}
use Rattle.cedar_restricted.proofs.ReadBack.{ground, restricted}
use Rattle.cedar_restricted_evaluation.specs.Evaluations.{HasFunctions, answer_in, answers_in, part_answer}
use Rattle.cedar_restricted_evaluation.specs.Findings.{IsFound, Errs, AreFound, SomeErrs}

-- ---- what writes a value is the tree for it

module _ (facts : Facts) where
  mutual
    writes : (v : Value) (t : Tree) → Expresses v t → t ≡ tree_of facts v
    writes (Plain l) t h = h
    writes (SetOf vs) t h = h.1 ∙ ap (Apply MakeSet) (write_all vs h.0 h.2)
    writes (RecordOf ks vs) t h = h.1 ∙ ap (Apply (MakeRecord ks)) (write_all vs h.0 h.2)
    writes (ExtensionOf e) t h = h

    write_all : (vs : Values) (ts : Trees) → ExpressAll vs ts → ts ≡ trees_of facts vs
    write_all no_values no_trees h = refl
    write_all no_values (a_tree t ts) h = absurd h
    write_all (a_value v vs) no_trees h = absurd h
    write_all (a_value v vs) (a_tree t ts) h = ap (λ u. a_tree u ts) (writes v t h.0) ∙ ap (a_tree (tree_of facts v)) (write_all vs ts h.1)

-- ---- the answers of parts

abbrev gather : Facts → List (Either Value Tree) → Answers
gather facts [] = AllEvaluated no_values
gather facts (p ∷ ps) = and_next facts (part_answer p) (gather facts ps)

module _ (table : Table) where
  pub part_is : (t : Tree) (p : Either Value Tree) → IsFound table t p → (facts : Facts) → HasFunctions table facts → answer_in table facts t ≡ part_answer p
  part_is t (Left v) h facts has = h facts has
  part_is t (Right r) h facts has = h.answer facts has

  -- ---- parts, the rest of which is to be found

  pub record Remains (rest : List Tree) (done : List (Either Value Tree)) (all : List Tree) : Type 0 where
    pub found : (ps : List (Either Value Tree)) → AreFound table rest ps → AreFound table all (done ++ ps)
    pub errs : (k : Kind) → SomeErrs table rest k → SomeErrs table all k
    pub restricted : are_restricted (trees rest) ≡ true
    pub deep : heights (trees rest) ≤ heights (trees all)

  module _ (facts : Facts) where
    answers_are : HasFunctions table facts → (ts : List Tree) (ps : List (Either Value Tree)) → AreFound table ts ps → answers_in table facts (trees ts) ≡ gather facts ps
    answers_are has [] [] h = refl
    answers_are has [] (p ∷ ps) h = absurd h
    answers_are has (t ∷ ts) [] h = absurd h
    answers_are has (t ∷ ts) (p ∷ ps) h =
        ap (λ a. and_next facts a (answers_in table facts (trees ts))) (part_is t p h.0 facts has)
        ∙ ap (and_next facts (part_answer p)) (answers_are has ts ps h.1)

    -- an error behind what is found stays the error
    later_errs : (p : Either Value Tree) (k : Kind) → and_next facts (part_answer p) (SomeFailed k) ≡ SomeFailed k
    later_errs (Left v) k = refl
    later_errs (Right r) k = refl

  -- ---- all values

  values_gather : (facts : Facts) (vs : List Value) → gather facts (map Left vs) ≡ AllEvaluated (all_of vs)
  values_gather facts [] = refl
  values_gather facts (v ∷ vs) = ap (and_next facts (Evaluated v)) (values_gather facts vs)

  module _ (ts : List Tree) (ps : List (Either Value Tree)) (vs : List Value) (found : AreFound table ts ps) (is : ps ≡ map Left vs) where
    found_values : AreFound table ts (map Left vs)
    found_values = subst (AreFound table ts) is found

    pub all_values : (facts : Facts) → HasFunctions table facts → answers_in table facts (trees ts) ≡ AllEvaluated (all_of vs)
    all_values facts has = answers_are facts has ts (map Left vs) found_values ∙ values_gather facts vs

  -- ---- as many as there are

  found_length : (ts : List Tree) (ps : List (Either Value Tree)) → AreFound table ts ps → length ps ≡ length ts
  found_length [] [] h = refl
  found_length [] (p ∷ ps) h = absurd h
  found_length (t ∷ ts) [] h = absurd h
  found_length (t ∷ ts) (p ∷ ps) h = ap suc (found_length ts ps h.1)

  pub values_length : (ts : List Tree) (ps : List (Either Value Tree)) (vs : List Value) → AreFound table ts ps → ps ≡ map Left vs → length vs ≡ length ts
  values_length ts ps vs found is = sym (length-map vs Left) ∙ ap length (sym is) ∙ found_length ts ps found

  each_length : (ps : List (Either Value Tree)) (us : List Tree) → ExpressEach ps us → length us ≡ length ps
  each_length [] [] h = refl
  each_length [] (u ∷ us) h = absurd h
  each_length (p ∷ ps) [] h = absurd h
  each_length (p ∷ ps) (u ∷ us) h = ap suc (each_length ps us h.1)

  pub exprs_length : (ts : List Tree) (ps : List (Either Value Tree)) (us : List Tree) → AreFound table ts ps → ExpressEach ps us → length us ≡ length ts
  exprs_length ts ps us found split = each_length ps us split ∙ found_length ts ps found

  -- ---- residuals among them

  -- what is gathered where some are residuals, and where none is
  abbrev Gathered : Facts → Bool → Trees → Answers → Type 0
  Gathered facts true us a = a ≡ SomeResiduals us
  Gathered facts false us a = (vs : Values) × (a ≡ AllEvaluated vs) × (us ≡ trees_of facts vs)

  module _ (facts : Facts) where
    value_before : (b : Bool) (v : Value) (u : Tree) (us : Trees) (a : Answers) → u ≡ tree_of facts v → Gathered facts b us a → Gathered facts b (a_tree u us) (and_next facts (Evaluated v) a)
    value_before true v u us a w h = ap (and_next facts (Evaluated v)) h ∙ ap (λ t. SomeResiduals (a_tree t us)) (sym w)
    value_before false v u us a w h = (a_value v h.0, ap (and_next facts (Evaluated v)) h.1, ap (λ t. a_tree t us) w ∙ ap (a_tree (tree_of facts v)) h.2)

    residual_before : (b : Bool) (r u : Tree) (us : Trees) (a : Answers) → u ≡ r → Gathered facts b us a → and_next facts (ResidualTree r) a ≡ SomeResiduals (a_tree u us)
    residual_before true r u us a w h = ap (and_next facts (ResidualTree r)) h ∙ ap (λ t. SomeResiduals (a_tree t us)) (sym w)
    residual_before false r u us a w h = ap (and_next facts (ResidualTree r)) h.1 ∙ ap (λ us. SomeResiduals (a_tree r us)) (sym h.2) ∙ ap (λ t. SomeResiduals (a_tree t us)) (sym w)

    gathered : (ts : List Tree) (ps : List (Either Value Tree)) (us : List Tree) → AreFound table ts ps → ExpressEach ps us → Gathered facts (list_any is_residual ps) (trees us) (gather facts ps)
    gathered ts [] [] h w = (no_values, refl, refl)
    gathered ts [] (u ∷ us) h w = absurd w
    gathered ts (p ∷ ps) [] h w = absurd w
    gathered [] (p ∷ ps) (u ∷ us) h w = absurd h
    gathered (t ∷ ts) (Left v ∷ ps) (u ∷ us) h w = value_before (list_any is_residual ps) v u (trees us) (gather facts ps) (writes facts v u w.0) (gathered ts ps us h.1 w.1)
    gathered (t ∷ ts) (Right r ∷ ps) (u ∷ us) h w = residual_before (list_any is_residual ps) r u (trees us) (gather facts ps) w.0 (gathered ts ps us h.1 w.1)

  exprs_restricted : (ts : List Tree) (ps : List (Either Value Tree)) (us : List Tree) → AreFound table ts ps → ExpressEach ps us → are_restricted (trees us) ≡ true
  exprs_restricted ts [] [] h w = refl
  exprs_restricted ts [] (u ∷ us) h w = absurd w
  exprs_restricted ts (p ∷ ps) [] h w = absurd w
  exprs_restricted [] (p ∷ ps) (u ∷ us) h w = absurd h
  exprs_restricted (t ∷ ts) (Left v ∷ ps) (u ∷ us) h w = rw (restricted u (ground v u w.0)) (exprs_restricted ts ps us h.1 w.1)
  exprs_restricted (t ∷ ts) (Right r ∷ ps) (u ∷ us) h w = rw (ap is_restricted w.0 ∙ h.0.restricted) (exprs_restricted ts ps us h.1 w.1)

  and_false : (a : Bool) → (a && false) ≡ false
  and_false true = refl
  and_false false = refl

  exprs_wait : (ts : List Tree) (ps : List (Either Value Tree)) (us : List Tree) → AreFound table ts ps → ExpressEach ps us → list_any is_residual ps ≡ true → are_ground (trees us) ≡ false
  exprs_wait ts [] us h w some = cc
  exprs_wait ts (p ∷ ps) [] h w some = absurd w
  exprs_wait [] (p ∷ ps) (u ∷ us) h w some = absurd h
  exprs_wait (t ∷ ts) (Left v ∷ ps) (u ∷ us) h w some = ap (λ b. is_ground u && b) (exprs_wait ts ps us h.1 w.1 some) ∙ and_false (is_ground u)
  exprs_wait (t ∷ ts) (Right r ∷ ps) (u ∷ us) h w some = ap (λ b. b && are_ground (trees us)) (ap is_ground w.0 ∙ h.0.waits)

  module _ (ts : List Tree) (ps : List (Either Value Tree)) (us : List Tree) (found : AreFound table ts ps) (split : (list_any is_residual ps ≡ true) × ExpressEach ps us) where
    pub some_residuals : (facts : Facts) → HasFunctions table facts → answers_in table facts (trees ts) ≡ SomeResiduals (trees us)
    some_residuals facts has =
        answers_are facts has ts ps found
        ∙ subst (λ b. Gathered facts b (trees us) (gather facts ps)) split.0 (gathered facts ts ps us found split.1)

    pub all_restricted : are_restricted (trees us) ≡ true
    all_restricted = exprs_restricted ts ps us found split.1

    pub some_waits : are_ground (trees us) ≡ false
    some_waits = exprs_wait ts ps us found split.1 split.0

  -- ---- parts one by one

  restricted_first : (a b : Bool) → (a && b) ≡ true → a ≡ true
  restricted_first true b h = refl
  restricted_first false b h = h

  restricted_later : (a b : Bool) → (a && b) ≡ true → b ≡ true
  restricted_later true b h = h
  restricted_later false b h = cc

  module _ (rest later : List Tree) (t : Tree) (done : List (Either Value Tree)) (all : List Tree) (goes : Remains rest done all) (cut : rest ≡ t ∷ later) where
    pub next_restricted : is_restricted t ≡ true
    next_restricted = restricted_first _ _ (sym (ap (λ r. are_restricted (trees r)) cut) ∙ goes.restricted)

    pub next_fails : (depth : ℕ) (f : Failure) → FailsBy (depth < height t) (Errs table t) f → FailsBy (depth < heights (trees all)) (SomeErrs table all) f
    next_fails depth f h =
        let deep : heights (trees (t ∷ later)) ≤ heights (trees all) = subst (λ r. heights (trees r) ≤ heights (trees all)) cut goes.deep in
        fails_on f
        (λ k e. goes.errs k (subst (λ r. SomeErrs table r k) (sym cut) (λ facts has. ap (λ a. and_next facts a (answers_in table facts (trees later))) (e facts has))))
        (λ d. omega (arith, d, deep)) h

    pub remains_next : (p : Either Value Tree) (more : List (Either Value Tree)) → IsFound table t p → more ≡ done ++ p ∷ [] → Remains later more all
    remains_next p more found is = record {
      found = λ ps k. rw (is, append_assoc done (p ∷ []) ps) (goes.found (p ∷ ps) (rw cut (found, k)));
      errs = λ k e. goes.errs k (subst (λ r. SomeErrs table r k) (sym cut) (λ facts has. ap (λ a. and_next facts a (answers_in table facts (trees later))) (part_is t p found facts has) ∙ ap (and_next facts (part_answer p)) (e facts has) ∙ later_errs facts p k));
      restricted = restricted_later _ _ (sym (ap (λ r. are_restricted (trees r)) cut) ∙ goes.restricted);
      deep =
          let deep : heights (trees (t ∷ later)) ≤ heights (trees all) = subst (λ r. heights (trees r) ≤ heights (trees all)) cut goes.deep in
          omega (arith, deep);
    }

  pub remains_end : (rest : List Tree) (done : List (Either Value Tree)) (all : List Tree) → Remains rest done all → rest ≡ [] → AreFound table all done
  remains_end rest done all goes none = rw (append-nil done) at (goes.found [] (rw none tt))

-- ---- heights within a limit

pub within_next : (depth : ℕ) (rest later all : List Tree) (t : Tree) → rest ≡ t ∷ later → (heights (trees rest) ≤ depth → heights (trees all) ≤ depth) → height t ≤ depth → heights (trees later) ≤ depth → heights (trees all) ≤ depth
within_next depth rest later all t cut goes first others =
    let whole : heights (trees (t ∷ later)) ≤ depth = omega (arith, first, others) in
    goes (subst (λ r. heights (trees r) ≤ depth) (sym cut) whole)

pub within_end : (depth : ℕ) (rest all : List Tree) → rest ≡ [] → (heights (trees rest) ≤ depth → heights (trees all) ≤ depth) → heights (trees all) ≤ depth
within_end depth rest all none goes =
    let nothing : heights (trees []) ≤ depth = omega arith in
    goes (subst (λ r. heights (trees r) ≤ depth) (sym none) nothing)

-- what holds of what is answered, where it follows from what holds of the answer of a part
pub answered : {X : Type 0} {Below Above : Type 0} (result : Result X EvaluationError) → (Below → Above) → IfOk result (λ x. Below) → IfOk result (λ x. Above)
answered (Ok x) follows h = follows h
answered (Err e) follows h = tt

pub always : {X : Type 0} {Above : Type 0} (result : Result X EvaluationError) → Above → IfOk result (λ x. Above)
always (Ok x) h = h
always (Err e) h = tt

-- ---- errors that are handed on

pub passed : {X : Type 0} (Is : X → Type 0) (Stands : Kind → Type 0) (deep : Type 0) (b : EvaluationError) (result : Result X EvaluationError) → IsErr result × IsErrAnd result (λ y. y ≡ b) → FailsBy deep Stands (failure_of b) → GivesBy Is Stands deep result
passed Is Stands deep b (Ok x) err given = absurd err.1
passed Is Stands deep b (Err y) err given = subst (λ z. FailsBy deep Stands (failure_of z)) (sym err.1) given

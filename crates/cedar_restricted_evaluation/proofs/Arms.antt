-- What is found of each kind of expression.
use Rattle.std.proofs.Common.{◌≡◌, ◌∙◌, ℕ, ◌<◌, refl, ap, sym, subst, List, [], ◌∷◌, length, suc, map, true≢false, arith, Vec, BTreeMap, Global}
use Rattle.std.proofs.lemmas.Bool.{ne_eqb}
use Rattle.std.specs.FinMap.{get-empty}
use Rattle.std.specs.List.{list_any}
use Rattle.std.specs.Prelude.{Bool, true, false, cond, ◌&&◌, nat_eq, Option, Some, None, Result, Ok, Err}
use Rattle.std.specs.declared.rc.Rc.{Rc}
use Rattle.std.specs.declared.rc.RcStr.{RcStr}
use Rattle.either.specs.declared.Either.{Either}
use Rattle.either.specs.declared.Either.TheVariants.{Left, Right}
use Rattle.cedar_language.specs.Uid.{Text, Name}
use Rattle.cedar_language.specs.Tree.{Literal, String, ValueType, Operator, MakeSet, MakeRecord, Call, Tree, Lit, Unknown, Apply, Trees}
use Rattle.cedar_language.specs.Value.{Value, Plain, RecordOf, Values, no_values, a_value, Kind, WrongNumArguments, FailedExtensionFunctionExecution, Outcome, Gives, Fails}
use Rattle.cedar_language.specs.Facts.{Facts}
use Rattle.cedar_language.specs.Height.{height}
use Rattle.cedar_language.specs.Operators.{applied, called, count, or_fails}
use Rattle.cedar_language.specs.Order.{text_cmp, all_of, set_of}
use Rattle.cedar_language.specs.Restricted.{is_restricted, are_restricted}
use Rattle.cedar_partial_evaluation.specs.Partial.{ResidualTree, Answers, AllEvaluated, SomeResiduals, SomeFailed, answer_of, residual_answer, apply_answer, partial_in}
use Rattle.cedar_partial_evaluation.specs.Question.{name_held}
use Rattle.cedar_grammar.specs.Build.{trees, keys}
use Rattle.cedar_grammar.specs.Functions.{is_the_unknown, one_string, unknown_function}
use Rattle.cedar_trees.specs.Bare.{bare, bare_kind, bare_entries, record_tree}
use Rattle.cedar_trees.specs.declared.expr.Expr.{Expr}
use Rattle.cedar_trees.specs.declared.expr.ExprKind.TheVariants as kind
use Rattle.cedar_trees.specs.Unknowns.{unknown_name, unknown_type}
use Rattle.cedar_trees.specs.declared.unknowns.Unknown as code
use Rattle.cedar_trees.proofs.Bares.{bare_is, bare-Unknown, bare-Set, bare-Record, bare-ExtensionFunctionApp}
use Rattle.cedar_extensions.specs.Failures.{failure_of}
use Rattle.cedar_extensions.specs.Giving.{fails_on}
use Rattle.cedar_extensions.specs.declared.evaluation_error.EvaluationError.{EvaluationError}
use Rattle.cedar_names.specs.declared.places.Place.{Place}
use Rattle.cedar_extensions.specs.Table.{Table}
use Rattle.cedar_values.specs.Kinds.{keys_of, values_of}
use Rattle.cedar_restricted.proofs.Rising.{texts, keys_are}
use Rattle.cedar_restricted.specs.Expressing.{is_ground, are_ground}
use Rattle.cedar_restricted.specs.PartialValues.{partial_of}
use Rattle.cedar_restricted.specs.Splitting.{ExpressEach, is_residual}
use Rattle.cedar_restricted.specs.declared.partial_values.PartialValue.{PartialValue}
use Rattle.cedar_restricted_evaluation.specs.Evaluations.{HasFunctions, nothing_told, one_text, name_called, named_or, answer_in, answers_in}
use Rattle.cedar_restricted_evaluation.specs.Findings.{IsCalled, Calls, IsFound, Errs, Evaluates, AreFound, SomeErrs}
use Rattle.cedar_restricted_evaluation.proofs.Gathering.{all_values, some_residuals, all_restricted, some_waits}
use Rattle.cedar_lemmas.proofs.Booleans.{and_both as both_true}

-- ---- leaves

pub still_unknown : (facts : Facts) (n : Text) (ty : Option ValueType) → partial_in facts nothing_told (Unknown n ty) ≡ ResidualTree (Unknown n ty)
still_unknown facts n ty = ap (λ o. name_held o n ty) (get-empty text_cmp n)

module _ (table : Table) where
  pub literal_found : (l : Literal) → IsFound table (Lit l) (Left (Plain l))
  literal_found l = λ facts has. refl

  pub unknown_found : (n : Text) (ty : Option ValueType) → IsFound table (Unknown n ty) (Right (Unknown n ty))
  unknown_found n ty = record { answer = λ facts has. still_unknown facts n ty; restricted = refl; waits = refl }

-- ---- sets and records

-- what is asked of an operator that builds a value of all that it is given
pub record Builds (op : Operator) : Type 0 where
  pub names_nothing : (table : Table) (as_ : Answers) → name_called table op as_ ≡ None
  pub waits : (facts : Facts) (rs : Trees) → residual_answer facts nothing_told op rs ≡ ResidualTree (Apply op rs)
  pub restricted : (rs : Trees) → is_restricted (Apply op rs) ≡ are_restricted rs
  pub ground : (rs : Trees) → is_ground (Apply op rs) ≡ are_ground rs

pub set_builds : Builds MakeSet
set_builds = record { names_nothing = λ table as_. refl; waits = λ facts rs. refl; restricted = λ rs. refl; ground = λ rs. refl }

pub record_builds : (ks : List Text) → Builds (MakeRecord ks)
record_builds ks = record { names_nothing = λ table as_. refl; waits = λ facts rs. refl; restricted = λ rs. refl; ground = λ rs. refl }

-- ---- what is answered of parts

module _ (table : Table) (facts : Facts) (op : Operator) where
  -- parts that are answered so, which name nothing
  pub parts_answered : (us : Trees) (as_ : Answers) → answers_in table facts us ≡ as_ → name_called table op as_ ≡ None → answer_in table facts (Apply op us) ≡ apply_answer facts nothing_told op as_
  parts_answered us as_ is none =
      ap (λ ps. named_or (name_called table op ps) (apply_answer facts nothing_told op ps)) is ∙ ap (λ o. named_or o (apply_answer facts nothing_told op as_)) none

-- only values name something
failed_name_nothing : (table : Table) (op : Operator) (k : Kind) → name_called table op (SomeFailed k) ≡ None
failed_name_nothing table (Call f) k = refl
failed_name_nothing table op k = refl

residuals_name_nothing : (table : Table) (op : Operator) (rs : Trees) → name_called table op (SomeResiduals rs) ≡ None
residuals_name_nothing table (Call f) rs = refl
residuals_name_nothing table op rs = refl

module _ (table : Table) (op : Operator) (ts : List Tree) where
  pub parts_err : (k : Kind) → SomeErrs table ts k → Errs table (Apply op (trees ts)) k
  parts_err k e = λ facts has. parts_answered table facts op (trees ts) (SomeFailed k) (e facts has) (failed_name_nothing table op k)

  module _ (ps : List (Either Value Tree)) (found : AreFound table ts ps) (us : List Tree) (split : (list_any is_residual ps ≡ true) × ExpressEach ps us) where
    parts_wait : (facts : Facts) → HasFunctions table facts → answer_in table facts (Apply op (trees ts)) ≡ residual_answer facts nothing_told op (trees us)
    parts_wait facts has = parts_answered table facts op (trees ts) (SomeResiduals (trees us)) (some_residuals table ts ps us found split facts has) (residuals_name_nothing table op (trees us))

    pub build_waits : Builds op → IsFound table (Apply op (trees ts)) (Right (Apply op (trees us)))
    build_waits builds = record {
      answer = λ facts has. parts_wait facts has ∙ builds.waits facts (trees us);
      restricted = builds.restricted (trees us) ∙ all_restricted table ts ps us found split;
      waits = builds.ground (trees us) ∙ some_waits table ts ps us found split;
    }

  module _ (ps : List (Either Value Tree)) (found : AreFound table ts ps) (vs : List Value) (is : ps ≡ map Left vs) where
    values_answered : name_called table op (AllEvaluated (all_of vs)) ≡ None → (facts : Facts) → HasFunctions table facts → answer_in table facts (Apply op (trees ts)) ≡ answer_of (applied facts op (all_of vs))
    values_answered none facts has = parts_answered table facts op (trees ts) (AllEvaluated (all_of vs)) (all_values table ts ps vs found is facts has) none

pub set_found : (table : Table) (ts : List Tree) (ps : List (Either Value Tree)) → AreFound table ts ps → (vs : List Value) → ps ≡ map Left vs → IsFound table (Apply MakeSet (trees ts)) (Left (set_of (all_of vs)))
set_found table ts ps found vs is = values_answered table MakeSet ts ps found vs is refl

pub record_found : (table : Table) (ks : List Text) (ts : List Tree) (ps : List (Either Value Tree)) → AreFound table ts ps → (vs : List Value) → ps ≡ map Left vs → IsFound table (Apply (MakeRecord ks) (trees ts)) (Left (RecordOf ks (all_of vs)))
record_found table ks ts ps found vs is = values_answered table (MakeRecord ks) ts ps found vs is refl

-- ---- calls

others_refused : (b : Bool) (o : Outcome) (s : Text) → b ≡ false → cond b o (Fails WrongNumArguments) ≡ Gives (Plain (String s)) → ⊥
others_refused true o s e h = cc
others_refused false o s e h = cc

two_arguments : (v w : Value) (ws : Values) (s : Text) → called (Some unknown_function) (a_value v (a_value w ws)) ≡ Gives (Plain (String s)) → ⊥
two_arguments v w ws s h = others_refused (nat_eq 1 (suc (suc (count ws)))) (or_fails FailedExtensionFunctionExecution (one_string (a_value v (a_value w ws)))) s (ne_eqb 1 (suc (suc (count ws))) (λ e. absurd (omega (arith, e)))) h

-- `unknown` gives the one text that it is called with
called_text : (vs : Values) (s : Text) → called (Some unknown_function) vs ≡ Gives (Plain (String s)) → one_text vs ≡ Some s
called_text no_values s h = cc
called_text (a_value (Plain (String t)) no_values) s h = let same : t ≡ s = cc in ap Some same
called_text (a_value v no_values) s h = cc
called_text (a_value v (a_value w ws)) s h = absurd (two_arguments v w ws s h)

text_called : (vs : Values) (n : Text) (k : Kind) → one_text vs ≡ Some n → called (Some unknown_function) vs ≡ Fails k → ⊥
text_called (a_value (Plain (String s)) no_values) n k e h = cc
text_called vs n k e h = cc

none_named : (b : Bool) (o : Option Text) → ((n : Text) → b ≡ true → o ≡ Some n → ⊥) → cond b o None ≡ None
none_named false o h = refl
none_named true None h = refl
none_named true (Some n) h = absurd (h n refl refl)

module _ (table : Table) (f : Name) (ts : List Tree) (ps : List (Either Value Tree)) (found : AreFound table ts ps) where
  pub call_waits : (us : List Tree) → (list_any is_residual ps ≡ true) × ExpressEach ps us → IsFound table (Apply (Call f) (trees ts)) (Right (Apply (Call f) (trees us)))
  call_waits us split = record {
    answer = parts_wait table (Call f) ts ps found us split;
    restricted = all_restricted table ts ps us found split;
    waits = some_waits table ts ps us found split;
  }

  module _ (vs : List Value) (is : ps ≡ map Left vs) (held : is_the_unknown f ≡ true → table.has_unknown ≡ true → table.function f ≡ Some unknown_function) where
    function_answered : (o : Outcome) → called (table.function f) (all_of vs) ≡ o → name_called table (Call f) (AllEvaluated (all_of vs)) ≡ None → (facts : Facts) → HasFunctions table facts → answer_in table facts (Apply (Call f) (trees ts)) ≡ answer_of o
    function_answered o e none facts has = values_answered table (Call f) ts ps found vs is none facts has ∙ ap (λ g. answer_of (called g (all_of vs))) (has f) ∙ ap answer_of e

    pub call_fails : (k : Kind) → called (table.function f) (all_of vs) ≡ Fails k → Errs table (Apply (Call f) (trees ts)) k
    call_fails k e = function_answered (Fails k) e
        (none_named (table.has_unknown && is_the_unknown f) (one_text (all_of vs)) (λ n b text.
        let both = both_true table.has_unknown (is_the_unknown f) b in
        text_called (all_of vs) n k text (ap (λ o. called o (all_of vs)) (sym (held both.1 both.0)) ∙ e)))

    pub call_found : (p : Either Value Tree) → IsCalled table f (all_of vs) p → IsFound table (Apply (Call f) (trees ts)) p
    call_found (Left v) h = function_answered (Gives v) h.gives
        (none_named (table.has_unknown && is_the_unknown f) (one_text (all_of vs)) (λ n b text.
        true≢false (sym (both_true table.has_unknown (is_the_unknown f) b).1 ∙ h.other)))
    call_found (Right r) h =
        let gives : called (Some unknown_function) (all_of vs) ≡ Gives (Plain (String h.name)) = ap (λ o. called o (all_of vs)) (sym (held h.built_in h.held)) ∙ h.gives in
        let names : name_called table (Call f) (AllEvaluated (all_of vs)) ≡ Some h.name =
        ap (λ b. cond (b && is_the_unknown f) (one_text (all_of vs)) None) h.held ∙ ap (λ b. cond b (one_text (all_of vs)) None) h.built_in ∙ called_text (all_of vs) h.name gives in
        record {
          answer = λ facts has.
              ap (λ as_. named_or (name_called table (Call f) as_) (apply_answer facts nothing_told (Call f) as_)) (all_values table ts ps vs found is facts has)
              ∙ ap (λ o. named_or o (apply_answer facts nothing_told (Call f) (AllEvaluated (all_of vs)))) names
              ∙ ap ResidualTree (sym h.unknown);
          restricted = ap is_restricted h.unknown;
          waits = ap is_ground h.unknown;
        }

-- ---- records by their maps

bare_values : (es : List (RcStr Global × Expr (Unit {0}))) → map (λ e. e.1) (bare_entries es) ≡ map bare (map (λ e. e.1) es)
bare_values [] = refl
bare_values (e ∷ es) = ap (λ ts. bare e.1 ∷ ts) (bare_values es)

pub entries_length : (es : List (RcStr Global × Expr (Unit {0}))) → length (map (λ e. e.1) (bare_entries es)) ≡ length es
entries_length [] = refl
entries_length (e ∷ es) = ap suc (entries_length es)

module _ (entries : List (RcStr Global × Expr (Unit {0}))) where
  pub expr_record : (made : List (RcStr Global × Expr (Unit {0}))) (items : List (Expr (Unit {0}))) → texts made ≡ texts entries → map (λ e. e.1) made ≡ items → record_tree (bare_entries made) ≡ Apply (MakeRecord (keys (bare_entries entries))) (trees (map bare items))
  expr_record made items ks is =
      ap (λ ks. Apply (MakeRecord ks) (trees (map (λ e. e.1) (bare_entries made)))) (keys_are made ∙ ks ∙ sym (keys_are entries))
      ∙ ap (λ ts. Apply (MakeRecord (keys (bare_entries entries))) (trees ts)) (bare_values made ∙ ap (map bare) is)

  pub value_record : (made : List (RcStr Global × Value)) (items : List Value) → texts made ≡ texts entries → map (λ e. e.1) made ≡ items → RecordOf (keys_of made) (values_of made) ≡ RecordOf (keys (bare_entries entries)) (all_of items)
  value_record made items ks is = ap (λ ks. RecordOf ks (values_of made)) (ks ∙ sym (keys_are entries)) ∙ ap (λ vs. RecordOf (keys (bare_entries entries)) (all_of vs)) is

-- ---- what is made of the parts

module _ (table : Table) where
  pub unknown_kept : (e : Expr (Unit {0})) (u v : code.Unknown) (p q : Either Value Tree) → e.expr_kind ≡ kind.Unknown u → unknown_name v ≡ unknown_name u → unknown_type v ≡ unknown_type u → q ≡ Right (Unknown (unknown_name v) (unknown_type v)) → p ≡ q → IsFound table (bare e) p
  unknown_kept e u v p q is name ty made same =
      let whole : bare e ≡ Unknown (unknown_name v) (unknown_type v) = bare_is (Unit {0}) e ∙ ap bare_kind is ∙ bare-Unknown (Unit {0}) u ∙ ap (λ n. Unknown n (unknown_type u)) (sym name) ∙ ap (Unknown (unknown_name v)) (sym ty) in
      subst (λ t. IsFound table t p) (sym whole) (subst (λ r. IsFound table (Unknown (unknown_name v) (unknown_type v)) r) (sym (same ∙ made)) (unknown_found table (unknown_name v) (unknown_type v)))

  -- what a function of the table answers is found of its call
  pub call_made : (f : Name) (ts : List Tree) (ps : List (Either Value Tree)) → AreFound table ts ps → (vs : List Value) → ps ≡ map Left vs → (is_the_unknown f ≡ true → table.has_unknown ≡ true → table.function f ≡ Some unknown_function) → (deep : Type 0) (r : Result PartialValue EvaluationError) → Calls table f (all_of vs) r → Evaluates table (Apply (Call f) (trees ts)) deep r
  call_made f ts ps found vs is held deep (Ok p) h = call_found table f ts ps found vs is held (partial_of p) h
  call_made f ts ps found vs is held deep (Err e) h = fails_on (failure_of e) (call_fails table f ts ps found vs is held) (λ d. absurd d) h

  -- another way to write what is found
  pub found_as : (t : Tree) (p q : Either Value Tree) → p ≡ q → IsFound table t q → IsFound table t p
  found_as t p q is h = subst (IsFound table t) (sym is) h

-- ---- from the parts of an expression to the expression

pub kept_tree : (e f : Expr (Unit {0})) (place : Option Place) → f ≡ record e { source_loc = place } → bare f ≡ bare e
kept_tree e f place is = ap bare is ∙ bare_is (Unit {0}) (record e { source_loc = place }) ∙ sym (bare_is (Unit {0}) e)

module _ (e : Expr (Unit {0})) where
  pub tree-Set : (v : Rc (Vec (Expr (Unit {0})) Global) Global) (items : List (Expr (Unit {0}))) → e.expr_kind ≡ kind.Set v → items ≡ v.value.items → bare e ≡ Apply MakeSet (trees (map bare items))
  tree-Set v items is same = bare_is (Unit {0}) e ∙ ap bare_kind is ∙ bare-Set (Unit {0}) v ∙ ap (λ es. Apply MakeSet (trees (map bare es))) (sym same)

  pub tree-Record : (m : Rc (BTreeMap (RcStr Global) (Expr (Unit {0}))) Global) (entries : List (RcStr Global × Expr (Unit {0}))) → e.expr_kind ≡ kind.Record m → entries ≡ m.value.entries → bare e ≡ record_tree (bare_entries entries)
  tree-Record m entries is same = bare_is (Unit {0}) e ∙ ap bare_kind is ∙ bare-Record (Unit {0}) m ∙ ap (λ es. record_tree (bare_entries es)) (sym same)

  pub tree-Call : (n : Name) (v : Rc (Vec (Expr (Unit {0})) Global) Global) (items : List (Expr (Unit {0}))) → e.expr_kind ≡ kind.ExtensionFunctionApp n v → items ≡ v.value.items → bare e ≡ Apply (Call n) (trees (map bare items))
  tree-Call n v items is same = bare_is (Unit {0}) e ∙ ap bare_kind is ∙ bare-ExtensionFunctionApp (Unit {0}) n v ∙ ap (λ es. Apply (Call n) (trees (map bare es))) (sym same)

module _ (table : Table) (t u : Tree) (deep : Type 0) (depth : ℕ) (is : t ≡ u) (below : deep → depth < height u) where
  pub lifted : (r : Result PartialValue EvaluationError) → Evaluates table u deep r → Evaluates table t (depth < height t) r
  lifted (Ok p) h = subst (λ x. IsFound table x (partial_of p)) (sym is) h
  lifted (Err e) h = fails_on (failure_of e) (λ k f. subst (λ x. Errs table x k) (sym is) f) (λ d. subst (λ x. depth < height x) (sym is) (below d)) h

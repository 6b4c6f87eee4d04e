-- Trees that are evaluated, and fields whose trees are evaluated in turn.
use Rattle.std.proofs.Common.{◌≡◌, ◌∙◌, ◌<◌, ℕ, refl, ap, sym, subst, Bool, true, false, ◌||◌, Some, option_map, List, [], ◌∷◌, ◌++◌, map, Global, Ok, Err}
use Rattle.std.proofs.lemmas.List.{map-append}
use Rattle.std.proofs.lemmas.Bool.{lt-ltb}
use Rattle.std.specs.BTreeMap.{insert_entry}
use Rattle.std.specs.List.Sorted.{IsStrictlySortedBy}
use Rattle.std.specs.Rc.{rc_str_bytes}
use Rattle.std.specs.declared.rc.RcStr.{RcStr}
use Rattle.either.specs.declared.Either.{Either}
use Rattle.either.specs.declared.Either.TheVariants.{Left, Right}
use Rattle.cedar_language.specs.Uid.{Text}
use Rattle.cedar_language.specs.Height.{height}
use Rattle.cedar_language.specs.Facts.{Facts}
use Rattle.cedar_language.specs.Restricted.{is_restricted}
use Rattle.cedar_language.specs.Tree.{Tree}
use Rattle.cedar_language.specs.Value.{Value}
use Rattle.cedar_partial_evaluation.specs.Partial.{Answer, Failed}
use Rattle.cedar_grammar.specs.UnknownCalls.{named, holds_call}
use Rattle.cedar_world.specs.Setting.{Setting, functions_alone}
use Rattle.cedar_world.specs.Fillings.{given_value}
use Rattle.cedar_world.specs.Values.{some_field, holds_unknown, errs_alone, values}
use Rattle.cedar_trees.specs.Bare.{bare, bare_entries}
use Rattle.cedar_trees.specs.declared.expr.Expr.{Expr}
use Rattle.cedar_extensions.specs.Failures.{Failure, OfKind, LimitMet, MemoryRanOut, failure_of}
use Rattle.cedar_extensions.specs.Giving.{FailsBy}
use Rattle.cedar_extensions.specs.declared.evaluation_error.EvaluationError.{EvaluationError}
use Rattle.cedar_extensions.specs.Answering.{FunctionAnswers}
use Rattle.cedar_extensions.specs.Holding.{are_named}
use Rattle.cedar_extensions.specs.Table.{Table, as_table, HasFunctions, functions_of}
use Rattle.cedar_extensions.specs.Tables.{functions_in}
use Rattle.cedar_extensions.specs.declared.extensions.Extensions.{Extensions}
use Rattle.cedar_restricted.proofs.Rising.{key_cmp, texts, put_next, texts_next}
use Rattle.cedar_restricted.specs.PartialValues.{partial_of}
use Rattle.cedar_restricted.specs.Splitting.{is_residual}
use Rattle.cedar_restricted.specs.declared.partial_values.PartialValue.{PartialValue}
use Rattle.cedar_replies.specs.declared.refusal.Refusal.{Refusal}
use Rattle.cedar_replies.specs.declared.refusal.Refusal.TheVariants as refusal
use Rattle.cedar_restricted_evaluation.specs.Evaluations as evaluation
use Rattle.cedar_restricted_evaluation.specs.Evaluations.{answer_in, part_answer}
use Rattle.cedar_restricted_evaluation.proofs.Naming.{unknown_is_found}
use Rattle.cedar_entities.specs.Attributes.{Entries, seen_entries}
use Rattle.cedar_held.specs.Built.{IsBuiltPart}
use Rattle.cedar_held.specs.Entities.{named_all}
use Rattle.cedar_held.specs.Reading.{HasUnknown, TreesAreRead, IsRead}
use Rattle.cedar_held.specs.BodyRefusals.{refusal_by}
use Rattle.cedar_held.specs.Fields.{deeper, Serves, IsEvaluated, as_entries, HoldValues, err, hold_unknowns, AreValues, AreOpen, AreFound, AreEvaluated}
use Rattle.cedar_held.proofs.Built.{built_append}
use Rattle.cedar_held.proofs.Carrying.{or_left, or_right, or_true, false_back, Carries, at_first, next_value, next_open, all_fine, all_unknowns, all_given}

-- ---- one tree

-- the table of extensions has the built-in function alone under its name
pub has_unknown : {F : Type 0} (answers : F → FunctionAnswers) (extensions : Extensions F) → are_named (functions_in extensions) ≡ true → HasUnknown (as_table answers extensions)
has_unknown answers extensions named held n is = unknown_is_found answers n is (functions_in extensions) named held

module _ (read : TreesAreRead) (table : Table) (unknown_is : HasUnknown table) (depth : ℕ) (t : Tree) (restricted : is_restricted t ≡ true) where
  answered : (by : Setting) → Serves table by (holds_call t) → (a : Answer) → answer_in table (functions_alone by.functions) t ≡ a → IsRead by (named t) a
  answered by serves a is = subst (IsRead by (named t)) is (read by table unknown_is t serves restricted)

  pub part_read : (by : Setting) → Serves table by (holds_call t) → (p : Either Value Tree) → answer_in table (functions_alone by.functions) t ≡ part_answer p → IsRead by (named t) (part_answer p)
  part_read by serves p h = answered by serves (part_answer p) h

  pub value_is : (p : PartialValue) → evaluation.Answers table depth t (Ok p) → IsEvaluated table depth t (Ok p)
  value_is p h by serves = part_read by serves (partial_of p) (h (functions_alone by.functions) serves.functions)

  pub failure_is : (f : Failure) → ((facts : Facts) → HasFunctions table facts → FailsBy (depth < height t) (λ k. answer_in table facts t ≡ Failed k) f) → IsEvaluated table depth t (Err (refusal_by f))
  failure_is (OfKind k) h = λ by serves. answered by serves (Failed k) (h (functions_alone by.functions) serves.functions)
  failure_is LimitMet h = h (functions_of table) (λ n. refl)
  failure_is MemoryRanOut h = tt

  pub refusal_is : (e : EvaluationError) (r : Refusal) → r ≡ refusal_by (failure_of e) → evaluation.Answers table depth t (Err e) → IsEvaluated table depth t (Err r)
  refusal_is e r is h = subst (λ x. IsEvaluated table depth t (Err x)) (sym is) (failure_is (failure_of e) h)

-- ---- the loop

abbrev pub Exprs : Type 0
Exprs = List (RcStr Global × Expr (Unit {0}))

-- what is found so far is what these values are as attributes
abbrev pub Seen : Entries → List (Text × Value) → Type 0
Seen made vs = seen_entries made ≡ as_entries vs

module _ (table : Table) where
  pub record IsUnderway (all rest : Exprs) (made : Entries) (flag : Bool) : Type 0 where
    pub names : texts made ++ texts rest ≡ texts all
    pub inside : (test : Tree → Bool) → some_field test (bare_entries rest) ≡ true → some_field test (bare_entries all) ≡ true
    pub hold_values : flag ≡ false → HoldValues (seen_entries made)
    pub carries : (by : Setting) → Serves table by (some_field holds_call (bare_entries all)) →
        Carries (Seen made) (err by (bare_entries all)) (hold_unknowns by (bare_entries all)) (values by (named_all (bare_entries all)))
        flag (err by (bare_entries rest)) (hold_unknowns by (bare_entries rest)) (values by (named_all (bare_entries rest)))

  pub begins : (all : Exprs) → IsUnderway all all [] false
  begins all = record {
    names = refl;
    inside = λ test h. h;
    hold_values = λ unset. ([], refl, tt);
    carries = λ by serves. at_first (Seen []) (err by (bare_entries all)) (hold_unknowns by (bare_entries all)) (values by (named_all (bare_entries all))) refl;
  }

  module _ (all rest more : Exprs) (made : Entries) (flag : Bool) (k : RcStr Global) (e : Expr (Unit {0})) (underway : IsUnderway all rest made flag) (step : rest ≡ (k, e) ∷ more) where
    abbrev t : Tree
    t = bare e

    here : (test : Tree → Bool) → (test t || some_field test (bare_entries more)) ≡ true → some_field test (bare_entries all) ≡ true
    here test h = underway.inside test (ap (λ r. some_field test (bare_entries r)) step ∙ h)

    or_first : (a b : Bool) → a ≡ true → (a || b) ≡ true
    or_first a b h = ap (λ x. x || b) h

    -- what no field of all passes this one doesn't
    pub none_here : (test : Tree → Bool) → some_field test (bare_entries all) ≡ false → test t ≡ false
    none_here test h = false_back (test t) _ (λ yes. here test (or_first (test t) (some_field test (bare_entries more)) yes)) h

    serves_here : (by : Setting) → Serves table by (some_field holds_call (bare_entries all)) → Serves table by (holds_call t)
    serves_here by serves = record { functions = serves.functions; held = λ unset. none_here holds_call (serves.held unset) }

    carried : (by : Setting) → Serves table by (some_field holds_call (bare_entries all)) →
        Carries (Seen made) (err by (bare_entries all)) (hold_unknowns by (bare_entries all)) (values by (named_all (bare_entries all)))
        flag (err by ((rc_str_bytes k, t) ∷ bare_entries more)) (hold_unknowns by ((rc_str_bytes k, t) ∷ bare_entries more)) (values by (named_all ((rc_str_bytes k, t) ∷ bare_entries more)))
    carried by serves = subst (λ (r : Exprs).
        Carries (Seen made) (err by (bare_entries all)) (hold_unknowns by (bare_entries all)) (values by (named_all (bare_entries all)))
        flag (err by (bare_entries r)) (hold_unknowns by (bare_entries r)) (values by (named_all (bare_entries r)))) step (underway.carries by serves)

    -- a tree that is refused
    pub stops : (depth : ℕ) (r : Refusal) → IsEvaluated table depth t (Err r) → AreEvaluated table depth (bare_entries all) (Err r)
    stops depth refusal.Evaluation h = λ by serves. (carried by serves).same_errs ∙ or_first (errs_alone by (named t)) (err by (bare_entries more)) (h by (serves_here by serves))
    stops depth refusal.Depth h = here (deeper depth) (or_first (deeper depth t) (some_field (deeper depth) (bare_entries more)) (lt-ltb depth (height t) h))
    stops depth refusal.Memory h = tt
    stops depth r h = absurd h

    module _ (next : Entries) (l : RcStr Global) (v : PartialValue) (flagged : Bool) (depth : ℕ) (same : rc_str_bytes l ≡ rc_str_bytes k) (evaluated : IsEvaluated table depth t (Ok v)) (built : IsBuiltPart (partial_of v)) (marked : flagged ≡ (flag || is_residual (partial_of v))) where
      seen_next : next ≡ made ++ (l, v) ∷ [] → (p : Either Value Tree) → partial_of v ≡ p → seen_entries next ≡ seen_entries made ++ (rc_str_bytes k, p) ∷ []
      seen_next last p is =
          ap seen_entries last ∙ map-append (λ (x : RcStr Global × PartialValue). (rc_str_bytes x.0, partial_of x.1)) made ((l, v) ∷ [])
          ∙ (λ i. seen_entries made ++ (same i, is i) ∷ [])

      or_no : (b : Bool) → (b || false) ≡ b
      or_no true = refl
      or_no false = refl

      -- one more value is seen
      seen_after : next ≡ made ++ (l, v) ∷ [] → (w : Value) → partial_of v ≡ Left w → (done : List (Text × Value)) → Seen made done → Seen next (done ++ (rc_str_bytes k, w) ∷ [])
      seen_after last w is done seen =
          seen_next last (Left w) is ∙ ap (λ es. es ++ (rc_str_bytes k, Left w) ∷ []) seen ∙ sym (map-append (λ (x : Text × Value). (x.0, Left x.1)) done ((rc_str_bytes k, w) ∷ []))

      values_next : next ≡ made ++ (l, v) ∷ [] → (p : Either Value Tree) → partial_of v ≡ p → flagged ≡ false → HoldValues (seen_entries next)
      values_next last (Left w) is unset =
          let before = underway.hold_values (or_left flag (is_residual (partial_of v)) (sym marked ∙ unset)) in
          (before.0 ++ (rc_str_bytes k, w) ∷ [], seen_after last w is before.0 before.1, built_append _ before.0 (rc_str_bytes k, w) before.2 (subst IsBuiltPart is built))
      values_next last (Right r) is unset =
          let never : true ≡ false = ap is_residual (sym is) ∙ or_right flag (is_residual (partial_of v)) (sym marked ∙ unset) in
          absurd cc

      carries_next : next ≡ made ++ (l, v) ∷ [] → (by : Setting) → Serves table by (some_field holds_call (bare_entries all)) → (p : Either Value Tree) → partial_of v ≡ p → IsRead by (named t) (part_answer p) →
          Carries (Seen next) (err by (bare_entries all)) (hold_unknowns by (bare_entries all)) (values by (named_all (bare_entries all)))
          flagged (err by (bare_entries more)) (hold_unknowns by (bare_entries more)) (values by (named_all (bare_entries more)))
      carries_next last by serves (Left w) is read =
          next_value (Seen made) (Seen next) _ _ _ flag flagged (errs_alone by (named t)) (err by (bare_entries more)) (holds_unknown (named t)) (hold_unknowns by (bare_entries more)) _ (values by (named_all (bare_entries more)))
          (carried by serves) read.2 (rc_str_bytes k, w) read.1 (ap (λ o. option_map (λ a. (rc_str_bytes k, a)) (given_value o)) read.0)
          (seen_after last w is)
          (marked ∙ ap (λ q. flag || is_residual q) is ∙ or_no flag)
      carries_next last by serves (Right r) is read =
          next_open (Seen made) (Seen next) _ _ _ flag flagged (errs_alone by (named t)) (err by (bare_entries more)) (holds_unknown (named t)) (hold_unknowns by (bare_entries more)) _ (values by (named_all (bare_entries more)))
          (carried by serves) read.1 read.0 (marked ∙ ap (λ q. flag || is_residual q) is)

      pub goes_on : IsStrictlySortedBy key_cmp (map (λ e. e.0) all) → next ≡ insert_entry key_cmp made l v → IsUnderway all more next flagged
      goes_on ordered put =
          let last : next ≡ made ++ (l, v) ∷ [] = put_next made next rest more all l k v e put same underway.names step ordered in
          record {
            names = texts_next made next rest more all l k v e last same underway.names step;
            inside = λ test h. here test (or_true (test t) _ h);
            hold_values = values_next last (partial_of v) refl;
            carries = λ by serves. carries_next last by serves (partial_of v) refl (evaluated by (serves_here by serves));
          }

  -- ---- what is found in the end

  pub ended : (all rest : Exprs) (made : Entries) (flag b : Bool) → rest ≡ [] → flag ≡ b → IsUnderway all rest made flag → IsUnderway all [] made b
  ended all rest made flag b none same underway = subst (IsUnderway all [] made) same (subst (λ (r : Exprs). IsUnderway all r made flag) none underway)

  ends : (all : Exprs) (made : Entries) (flag : Bool) (by : Setting) → IsUnderway all [] made flag → Serves table by (some_field holds_call (bare_entries all)) →
      Carries (Seen made) (err by (bare_entries all)) (hold_unknowns by (bare_entries all)) (values by (named_all (bare_entries all))) flag false false (Some [])
  ends all made flag by underway serves = underway.carries by serves

  are_values : (all : Exprs) (made : Entries) (by : Setting) → IsUnderway all [] made false → Serves table by (some_field holds_call (bare_entries all)) → AreValues by (bare_entries all) (seen_entries made)
  are_values all made by underway serves =
      let end = ends all made false by underway serves in
      let given = all_given (Seen made) _ _ _ false end refl in
      record { given = given.0; are = given.2; seen = given.1; fine = all_fine (Seen made) _ _ _ false end; known = all_unknowns (Seen made) _ _ _ false end }

  pub found : (all : Exprs) (made : Entries) → IsUnderway all [] made false → AreFound table (bare_entries all) (seen_entries made)
  found all made underway = record { hold_values = underway.hold_values refl; are_values = λ by serves. are_values all made by underway serves }

  pub waits : (all : Exprs) (made : Entries) (by : Setting) → IsUnderway all [] made true → Serves table by (some_field holds_call (bare_entries all)) → AreOpen by (bare_entries all)
  waits all made by underway serves =
      let end = ends all made true by underway serves in
      record { fine = all_fine (Seen made) _ _ _ true end; unknown = all_unknowns (Seen made) _ _ _ true end }

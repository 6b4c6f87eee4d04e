-- A context is refused where some part of it errs, all of whose names are told.
use Rattle.std.proofs.Common.{◌≡◌, inl, inr, Bool, true, false, not, ◌&&◌, Option, Some, None, is_some, refl, ◌∙◌, ap}
use Rattle.std.proofs.lemmas.Bool.{and_parts, false_from_ne_true, not-true, or_cases, or_from, or_left, or_parts, or_right}
use Rattle.std.specs.FinMap as finite
use Rattle.cedar_language.specs.Uid.{Text}
use Rattle.cedar_language.specs.Tree.{Operator, MakeSet, MakeRecord, Call, Tree, Lit, Var, Slot, Unknown, Apply, Trees, no_trees, a_tree, ValueType}
use Rattle.cedar_language.specs.Value.{Value, Kind, Outcome, Gives, Fails}
use Rattle.cedar_language.specs.Facts.{Facts}
use Rattle.cedar_language.specs.Meaning.{meaning}
use Rattle.cedar_language.specs.Operators.{applied}
use Rattle.cedar_language.specs.Restricted.{is_restricted, are_restricted}
use Rattle.cedar_partial_evaluation.specs.DataErrors.{IsPart, whole, inside, IsPartOfOne, of_first, of_later, FailsOnceTold, HasErringPart, DataErrsInParts}
use Rattle.cedar_partial_evaluation.specs.Filling.{TellsEach, names_told}
use Rattle.cedar_partial_evaluation.specs.Partial.{Answer, Evaluated, Failed, Answers, AllEvaluated, SomeFailed, answer_of, and_next, apply_answer, partial_in, all_partial_in}
use Rattle.cedar_partial_evaluation.specs.Question.{value_settled, value_held, name_settled, name_held, settled_names, held_names}
use Rattle.cedar_partial_evaluation.specs.Settling.{Settling, Open, Errs, Is, Settlings, SomeOpen, SomeErrs, AllAre, kindless, and_more, apply_settled, settled_in, all_settled_in}
use Rattle.cedar_partial_evaluation.specs.Unknowns.{fits, of_unknowns}
use Rattle.cedar_partial_evaluation.proofs.Passing.{each_weaker}
use Rattle.cedar_world.specs.Asking.{WithEntries, Told}
use Rattle.cedar_grammar.specs.UnknownCalls.{calls_unknown, holds_call, hold_call}
use Rattle.cedar_world.specs.Bodies.{some_name, some_name_of, some_part, some_part_of}
use Rattle.cedar_world.specs.Setting.{functions_alone}
use Rattle.cedar_world.specs.Values.{fails, holds_open, context_errs}
use Rattle.cedar_world.specs.ContextErrors.{ContextsErrInParts}
use Rattle.cedar_world.proofs.Names.{FailsTest, each_fails, none_passes}

-- ---- parts that pass a test

module _ (test : Tree → Bool) where
  whole_passes : (t : Tree) → test t ≡ true → some_part test t ≡ true
  whole_passes (Apply op ts) h = or_left (test (Apply op ts)) (some_part_of test ts) h
  whole_passes _ h = h

  mutual
    part_passes : {p t : Tree} → IsPart p t → test p ≡ true → some_part test t ≡ true
    part_passes (whole {t = t}) h = whole_passes t h
    part_passes (inside {op = op} {ts = ts} i) h = or_right (test (Apply op ts)) (some_part_of test ts) (one_passes i h)

    one_passes : {p : Tree} {ts : Trees} → IsPartOfOne p ts → test p ≡ true → some_part_of test ts ≡ true
    one_passes (of_first {t = t} {ts = ts} i) h = or_left (some_part test t) (some_part_of test ts) (part_passes i h)
    one_passes (of_later {t = t} {ts = ts} i) h = or_right (some_part test t) (some_part_of test ts) (one_passes i h)

  abbrev Passing : Tree → Type 0
  Passing t = (p : Tree) × IsPart p t × (test p ≡ true)

  abbrev OnePassing : Trees → Type 0
  OnePassing ts = (p : Tree) × IsPartOfOne p ts × (test p ≡ true)

  mutual
    passing : (t : Tree) → some_part test t ≡ true → Passing t
    passing (Apply op ts) h = elim (or_cases (test (Apply op ts)) (some_part_of test ts) h) [
      | inl e ↦ (Apply op ts, whole, e)
      | inr e ↦ let (p, i, k) = one_passing ts e in (p, inside i, k)
    ]
    passing t h = (t, whole, h)

    one_passing : (ts : Trees) → some_part_of test ts ≡ true → OnePassing ts
    one_passing no_trees h = cc
    one_passing (a_tree t ts) h = elim (or_cases (some_part test t) (some_part_of test ts) h) [
      | inl e ↦ let (p, i, k) = passing t e in (p, of_first i, k)
      | inr e ↦ let (p, i, k) = one_passing ts e in (p, of_later i, k)
    ]

-- ---- calls for an unknown

mutual
  uncalled : {p t : Tree} → IsPart p t → holds_call t ≡ false → holds_call p ≡ false
  uncalled whole h = h
  uncalled (inside {op = op} {ts = ts} i) h = one_uncalled i (or_parts (calls_unknown op) (hold_call ts) h).1

  one_uncalled : {p : Tree} {ts : Trees} → IsPartOfOne p ts → hold_call ts ≡ false → holds_call p ≡ false
  one_uncalled (of_first {t = t} {ts = ts} i) h = uncalled i (or_parts (holds_call t) (hold_call ts) h).0
  one_uncalled (of_later {t = t} {ts = ts} i) h = one_uncalled i (or_parts (holds_call t) (hold_call ts) h).1

module _ (told : Told) where
  -- ---- names that are told

  abbrev untold : Text → Bool
  untold n = not (is_some (finite.get told n))

  abbrev IsTold : Text → Option ValueType → Type 0
  IsTold n ty = (v : Value) × (finite.get told n ≡ Some v)

  value_there : (o : Option Value) → not (is_some o) ≡ false → (v : Value) × (o ≡ Some v)
  value_there (Some v) h = (v, refl)
  value_there None h = cc

  each_told : (t : Tree) → some_name untold t ≡ false → TellsEach told t
  each_told t h = each_weaker (of_unknowns (FailsTest untold)) (of_unknowns IsTold) (λ v k. k) (λ s k. k) (λ n ty k. value_there (finite.get told n) k) t (each_fails untold t h)

  none_untold : (t : Tree) → TellsEach told t → some_name untold t ≡ false
  none_untold t each =
      none_passes untold t (each_weaker (of_unknowns IsTold) (of_unknowns (FailsTest untold)) (λ v k. k) (λ s k. k) (λ n ty k. ap (λ (o : Option Value). not (is_some o)) k.1) t each)

  closed : (p : Tree) → holds_call p ≡ false → TellsEach told p → holds_open untold p ≡ false
  closed (Apply op ts) h each = or_from (some_name_of untold ts) (hold_call ts) (none_untold (Apply op ts) each) (or_parts (calls_unknown op) (hold_call ts) h).1
  closed (Lit l) h each = refl
  closed (Var v) h each = refl
  closed (Slot s) h each = refl
  closed p h each = none_untold p each

  told_where_closed : (p : Tree) → holds_open untold p ≡ false → TellsEach told p
  told_where_closed (Apply op ts) h = each_told (Apply op ts) (or_parts (some_name_of untold ts) (hold_call ts) h).0
  told_where_closed (Lit l) h = tt
  told_where_closed (Var v) h = tt
  told_where_closed (Slot s) h = tt
  told_where_closed p h = each_told p h

  module _ (facts : Facts) where
    -- ---- parts that err

    abbrev test : Tree → Bool
    test p = not (holds_open untold p) && fails (meaning facts (names_told told) p)

    fails_as : (o : Outcome) → fails o ≡ true → (k : Kind) × (o ≡ Fails k)
    fails_as (Gives v) h = cc
    fails_as (Fails k) h = (k, refl)

    test_passes : (p : Tree) → holds_call p ≡ false → FailsOnceTold facts told p → test p ≡ true
    test_passes p h (each, k, e) = λ i. not (closed p h each i) && fails (e i)

    test_means : (p : Tree) → test p ≡ true → FailsOnceTold facts told p
    test_means p h =
        let (shut, fail) = and_parts (not (holds_open untold p)) (fails (meaning facts (names_told told) p)) h in
        let (k, e) = fails_as (meaning facts (names_told told) p) fail in
        (told_where_closed p (not-true (holds_open untold p) shut), k, e)

    errs_there : (t : Tree) → holds_call t ≡ false → HasErringPart facts told t → some_part test t ≡ true
    errs_there t h e = part_passes test e.is_part (test_passes e.part (uncalled e.is_part h) e.fails)

    errs_somewhere : (t : Tree) → some_part test t ≡ true → HasErringPart facts told t
    errs_somewhere t h = let (p, is, e) = passing test t h in record { part = p; is_part = is; fails = test_means p e }

    -- ---- what is settled of data is held for it

    abbrev Shows : Settling → Answer → Type 0
    Shows Open p = Unit {0}
    Shows Errs p = (k : Kind) × (p ≡ Failed k)
    Shows (Is v) p = p ≡ Evaluated v

    abbrev ShowAll : Settlings → Answers → Type 0
    ShowAll SomeOpen ps = Unit {0}
    ShowAll SomeErrs ps = (k : Kind) × (ps ≡ SomeFailed k)
    ShowAll (AllAre vs) ps = ps ≡ AllEvaluated vs

    kind_shows : (o : Outcome) (p : Answer) → p ≡ answer_of o → Shows (kindless o) p
    kind_shows (Gives v) p e = e
    kind_shows (Fails k) p e = (k, e)

    value_shows : (b : Bool) (v : Value) → Shows (value_settled b v) (value_held b v)
    value_shows true v = refl
    value_shows false v = tt

    name_shows : (o : Option Value) (n : Text) (ty : Option ValueType) → Shows (name_settled o ty) (name_held o n ty)
    name_shows (Some v) n ty = value_shows (fits ty v) v
    name_shows None n ty = tt

    behind_fails : (p : Answer) (k : Kind) → (j : Kind) × (and_next facts p (SomeFailed k) ≡ SomeFailed j)
    behind_fails (Failed j) k = (j, refl)
    behind_fails _ k = (k, refl)

    later_shows : (p : Answer) (ps : Answers) → ShowAll SomeErrs ps → ShowAll SomeErrs (and_next facts p ps)
    later_shows p ps (k, e) = let (j, f) = behind_fails p k in (j, ap (and_next facts p) e ∙ f)

    next_shows : (x : Settling) (xs : Settlings) (p : Answer) (ps : Answers) → Shows x p → ShowAll xs ps → ShowAll (and_more x xs) (and_next facts p ps)
    next_shows Open SomeOpen p ps h i = tt
    next_shows Open (AllAre vs) p ps h i = tt
    next_shows Errs SomeOpen p ps (k, e) i = (k, ap (λ (q : Answer). and_next facts q ps) e)
    next_shows Errs (AllAre vs) p ps (k, e) i = (k, ap (λ (q : Answer). and_next facts q ps) e)
    next_shows (Is v) SomeOpen p ps h i = tt
    next_shows (Is v) (AllAre vs) p ps h i = λ j. and_next facts (h j) (i j)
    next_shows _ SomeErrs p ps h i = later_shows p ps i

    apply_shows : (op : Operator) (xs : Settlings) (ps : Answers) → ShowAll xs ps → Shows (apply_settled facts op xs) (apply_answer facts (held_names told) op ps)
    apply_shows op SomeOpen ps h = tt
    apply_shows op SomeErrs ps (k, e) = (k, ap (apply_answer facts (held_names told) op) e)
    apply_shows op (AllAre vs) ps h = kind_shows (applied facts op vs) (apply_answer facts (held_names told) op ps) (ap (apply_answer facts (held_names told) op) h)

    mutual
      shows : (t : Tree) → is_restricted t ≡ true → Shows (settled_in facts (settled_names told) t) (partial_in facts (held_names told) t)
      shows (Lit l) r = refl
      shows (Unknown n ty) r = name_shows (finite.get told n) n ty
      shows (Apply MakeSet ts) r = apply_shows MakeSet (all_settled_in facts (settled_names told) ts) (all_partial_in facts (held_names told) ts) (all_show ts r)
      shows (Apply (MakeRecord ks) ts) r = apply_shows (MakeRecord ks) (all_settled_in facts (settled_names told) ts) (all_partial_in facts (held_names told) ts) (all_show ts r)
      shows (Apply (Call f) ts) r = apply_shows (Call f) (all_settled_in facts (settled_names told) ts) (all_partial_in facts (held_names told) ts) (all_show ts r)
      shows _ r = cc

      all_show : (ts : Trees) → are_restricted ts ≡ true → ShowAll (all_settled_in facts (settled_names told) ts) (all_partial_in facts (held_names told) ts)
      all_show no_trees r = refl
      all_show (a_tree t ts) r =
          let (rt, rts) = and_parts (is_restricted t) (are_restricted ts) r in
          next_shows (settled_in facts (settled_names told) t) (all_settled_in facts (settled_names told) ts) (partial_in facts (held_names told) t) (all_partial_in facts (held_names told) ts) (shows t rt) (all_show ts rts)

    refused_where_errs : (x : Settling) (p : Answer) → Shows x p → x ≡ Errs → (k : Kind) × (p ≡ Failed k)
    refused_where_errs Errs p h e = h
    refused_where_errs _ p h e = cc

    -- data that is not refused doesn't err
    never_errs : (t : Tree) → is_restricted t ≡ true → ((k : Kind) → partial_in facts (held_names told) t ≡ Failed k → ⊥) → settled_in facts (settled_names told) t ≡ Errs → ⊥
    never_errs t r stands e =
        let (k, f) = refused_where_errs (settled_in facts (settled_names told) t) (partial_in facts (held_names told) t) (shows t r) e in
        stands k f

module _ (law : DataErrsInParts) where
  pub contexts_err_in_parts : ContextsErrInParts
  contexts_err_in_parts = record {
    fails = λ by told ks ts r c k h.
        errs_there told (functions_alone by.functions) (Apply (MakeRecord ks) ts) c
        ((law (functions_alone by.functions) told (Apply (MakeRecord ks) ts) r).0 (k, h));
    accepted = λ by told ks ts r c stands.
        let facts : Facts = functions_alone by.functions in
        let t : Tree = Apply (MakeRecord ks) ts in (
          false_from_ne_true (context_errs by (WithEntries ks ts) told)
              (λ h. let (k, e) = (law facts told t r).1 (errs_somewhere told facts t h) in stands k e),
          record { settled = never_errs told facts t r stands; held = stands },
        );
  }

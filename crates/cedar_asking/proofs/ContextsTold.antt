-- What telling makes of the context of a question's request is what is held of the question's context once these values are told.
use Rattle.std.proofs.Common.{◌≡◌, ◌<◌, ◌∙◌, refl, ap, sym, subst, true, false, cond, Option, Some, None, option_map, List, [], ◌∷◌, map, codes, ℕ, Ok, Err}
use Rattle.std.specs.FinMap as finite
use Rattle.std.specs.FinMap.{find, get-empty, get-from_entries}
use Rattle.std.specs.Rc.{rc_str_bytes}
use Rattle.std.specs.declared.alloc.Global.{Global}
use Rattle.std.specs.declared.rc.RcStr.{RcStr}
use Rattle.either.specs.declared.Either.{Either}
use Rattle.either.specs.declared.Either.TheVariants.{Left, Right}
use Rattle.cedar_language.specs.Facts.{Facts}
use Rattle.cedar_language.specs.Height.{height}
use Rattle.cedar_language.specs.Operators.{applied}
use Rattle.cedar_language.specs.Order.{text_cmp}
use Rattle.cedar_language.specs.OrderLaws.{text_cmp_total}
use Rattle.cedar_language.specs.Restricted.{is_restricted}
use Rattle.cedar_language.specs.Tree.{MakeRecord, Tree, Trees, Unknown, Apply}
use Rattle.cedar_language.specs.Uid.{Text}
use Rattle.cedar_language.specs.Value.{Value, Kind, Outcome, Gives, Fails}
use Rattle.cedar_partial_evaluation.specs.Leaves.{LeavesDontMatter}
use Rattle.cedar_partial_evaluation.specs.MadeAgain.{HoldsMade}
use Rattle.cedar_partial_evaluation.specs.Partial.{Answer, Evaluated, ResidualTree, Failed, Answers, AllEvaluated, SomeResiduals, SomeFailed, answer_of, best_effort, apply_answer, partial_in, all_partial_in}
use Rattle.cedar_partial_evaluation.specs.Question.{Extends, AreMadeTold, name_held, held_names, context_held}
use Rattle.cedar_partial_evaluation.specs.ReadUnknowns.{calls_unknown}
use Rattle.cedar_partial_evaluation.specs.Telling.{ContextsStay}
use Rattle.cedar_world.specs.PlainAnswers.{IsPlainAnswer, PlainAnswers}
use Rattle.cedar_world.specs.Asking.{Entries, NoContext, WithEntries, Told}
use Rattle.cedar_world.specs.First.{IsData}
use Rattle.cedar_extensions.specs.Failures.{OfKind, LimitMet, failure_of}
use Rattle.cedar_extensions.specs.Giving.{FailsBy}
use Rattle.cedar_extensions.specs.declared.evaluation_error.EvaluationError.{EvaluationError}
use Rattle.cedar_extensions.specs.Table.{Table}
use Rattle.cedar_evaluator.specs.Asking.{context_asked}
use Rattle.cedar_interpreter.specs.Operating.{HasFunctions}
use Rattle.cedar_held.proofs.PolicyWorlds.{ties_are}
use Rattle.cedar_restricted_evaluation.specs.Evaluations.{part_answer}
use Rattle.cedar_requests.specs.Contexts.{context_part}
use Rattle.cedar_requests.specs.Telling.{OfSubstituted, TellsContext}
use Rattle.cedar_requests.specs.declared.contexts.Context.{Context}
use Rattle.cedar_requests.specs.declared.contexts.Context.TheVariants as context
use Rattle.cedar_substitution.specs.Told.{told_for}
use Rattle.cedar_evaluator.specs.Concretizing.{ContextTold}
use Rattle.cedar_asking.specs.Keeping.{IsNamed}
use Rattle.cedar_telling.specs.Tells.{told_in}
use Rattle.cedar_requests.specs.ToldContexts.{HoldTold, ToldContextsAreEvaluated}
use Rattle.cedar_requests.proofs.KnownData.{data_stays}
use Rattle.cedar_asking.proofs.Exactness.{names_plain, none_told, record_calls_none}
use Rattle.cedar_requests.proofs.Waiting.{IsDataTree, IsDataAnswer, left_data}

-- ---- the values that entries tell

found_told : (n : Text) (es : List (RcStr Global × Value)) → find text_cmp n (map (λ (e : RcStr Global × Value). (rc_str_bytes e.0, e.1)) es) ≡ told_for es n
found_told n [] = refl
found_told n (e ∷ es) = λ i. cond (ties_are n (rc_str_bytes e.0) i) (Some e.1) (found_told n es i)

pub holds_told : (es : List (RcStr Global × Value)) → HoldTold es (told_in es)
holds_told es n = get-from_entries text_cmp_total (map (λ (e : RcStr Global × Value). (rc_str_bytes e.0, e.1)) es) n ∙ found_told n es

pub extends_empty : (told : Told) → Extends finite.empty told
extends_empty told n v h = absurd (none_told n v h)

pub empty_is_made : (facts : Facts) → AreMadeTold facts finite.empty
empty_is_made facts n v h = absurd (none_told n v h)

-- ---- what a context may be

-- a context is no unknown
pub no_unknown_asked : (c : Context) (n : Text) → part_answer (context_part c) ≡ ResidualTree (Unknown n None) → ⊥
no_unknown_asked (context.Value m) n e = cc
no_unknown_asked (context.RestrictedResidual r) n e = cc

record_outcome : (o : Outcome) (n : Text) → ResidualTree (Unknown n None) ≡ answer_of o → ⊥
record_outcome (Gives v) n e = cc
record_outcome (Fails k) n e = cc

-- nor is what is left of a record
no_record : (facts : Facts) (told : Told) (ks : List Text) (as_ : Answers) (n : Text) → ResidualTree (Unknown n None) ≡ apply_answer facts (held_names told) (MakeRecord ks) as_ → ⊥
no_record facts told ks (AllEvaluated vs) n e = record_outcome (applied facts (MakeRecord ks) vs) n e
no_record facts told ks (SomeResiduals rs) n e = cc
no_record facts told ks (SomeFailed k) n e = cc

pub nothing_held : ◌≡◌ {A = Answer} (name_held (finite.get {R = text_cmp} finite.empty (codes "context")) (codes "context") None) (ResidualTree (Unknown (codes "context") None))
nothing_held = ap (λ (o : Option Value). name_held o (codes "context") None) (get-empty text_cmp (codes "context"))

-- ---- telling

module _ (law : PlainAnswers) (apart : LeavesDontMatter) (stay : ContextsStay) (tell : ToldContextsAreEvaluated) (facts : Facts) (good : HoldsMade facts) (table : Table) (depth : ℕ) (served : HasFunctions table facts)
    (told : List (RcStr Global × Value)) (made_told : AreMadeTold facts (told_in told)) where
  module _ (ks : List Text) (ts : Trees) (given : IsData (WithEntries ks ts)) (named : IsNamed (WithEntries ks ts)) where
    abbrev written : Tree
    written = Apply (MakeRecord ks) ts

    abbrev first : Answer
    first = context_held facts finite.empty (WithEntries ks ts)

    abbrev later : Answer
    later = context_held facts (told_in told) (WithEntries ks ts)

    again : partial_in facts (held_names (told_in told)) (best_effort facts first written) ≡ later
    again = stay facts good finite.empty (told_in told) (extends_empty (told_in told)) (empty_is_made facts) made_told written given

    left_is_data : (t : Tree) → ResidualTree t ≡ first → IsDataTree t
    left_is_data t e =
        subst IsDataAnswer (sym e)
        (left_data facts (held_names finite.empty)
        (λ n ty u. subst (λ (o : Option Value). IsDataAnswer (name_held o n ty)) (sym (get-empty text_cmp n)) (refl, u))
        written given named.untyped)

    left_calls_none : (t : Tree) → ResidualTree t ≡ first → calls_unknown t ≡ false
    left_calls_none t e = subst IsPlainAnswer (sym e) (law facts (held_names finite.empty) (names_plain finite.empty) written (record_calls_none (WithEntries ks ts) named.well given ks ts refl))

    value_stays : (v : Value) → Evaluated v ≡ first → Evaluated v ≡ later
    value_stays v e = sym (data_stays facts apart written given v (sym e) (told_in told))

    left_again : (t : Tree) → ResidualTree t ≡ first → partial_in facts (held_names (told_in told)) t ≡ later
    left_again t e = ap (λ (a : Answer). partial_in facts (held_names (told_in told)) (best_effort facts a written)) e ∙ again

    record_told : (p new : Either Value Tree) → part_answer p ≡ first → ContextTold table depth told (Some p) (Some new) → part_answer new ≡ later
    record_told (Left v) new e (c, is, same) = ap part_answer (sym is ∙ same) ∙ value_stays v e
    record_told (Right t) new e (c, is, tells) =
        ap part_answer (sym is)
        ∙ tell table depth told (told_in told) (holds_told told) t (left_is_data t e).0 (left_is_data t e).1 (λ h. left_calls_none t e) (Ok c) tells facts served made_told
        ∙ left_again t e

    record_fails : (p : Either Value Tree) (error : EvaluationError) (k : Kind) → part_answer p ≡ first → TellsContext table depth told p (Err error) → failure_of error ≡ OfKind k → later ≡ Failed k
    record_fails (Left v) error k e tells is = absurd tells
    record_fails (Right t) error k e tells is =
        sym (left_again t e)
        ∙ subst (λ f. FailsBy (OfSubstituted told t (λ u. depth < height u)) (λ k. partial_in facts (held_names (told_in told)) t ≡ Failed k) f) is
        (tell table depth told (told_in told) (holds_told told) t (left_is_data t e).0 (left_is_data t e).1 (λ h. left_calls_none t e) (Err error) tells facts served made_told)

    -- where the limit is met, it is met with what is told written into what is left
    pub record_deep : (t : Tree) (error : EvaluationError) → ResidualTree t ≡ first → TellsContext table depth told (Right t) (Err error) → failure_of error ≡ LimitMet
        → (is_restricted t ≡ true) × OfSubstituted told t (λ u. depth < height u)
    record_deep t error e tells is = (
      (left_is_data t e).0,
      subst (λ f. FailsBy (OfSubstituted told t (λ u. depth < height u)) (λ k. partial_in facts (held_names (told_in told)) t ≡ Failed k) f) is
          (tell table depth told (told_in told) (holds_told told) t (left_is_data t e).0 (left_is_data t e).1 (λ h. left_calls_none t e) (Err error) tells facts served made_told),
    )

  -- the context of the request with what is told is what is held of the question's then
  pub context_again : (c : Entries) → IsData c → IsNamed c → (o : Option Context) (new : Option (Either Value Tree)) → context_asked (option_map context_part o) ≡ context_held facts finite.empty c →
      ContextTold table depth told (option_map context_part o) new → context_asked new ≡ context_held facts (told_in told) c
  context_again NoContext given named None None e none = ap (λ (o : Option Value). name_held o (codes "context") None) (sym (holds_told told (codes "context") ∙ none))
  context_again NoContext given named None (Some p) e (v, is, same) = ap part_answer same ∙ ap (λ (o : Option Value). name_held o (codes "context") None) (sym (holds_told told (codes "context") ∙ is))
  context_again NoContext given named (Some c) new e h = absurd (no_unknown_asked c (codes "context") (e ∙ nothing_held))
  context_again (WithEntries ks ts) given named None new e h = absurd (no_record facts finite.empty ks (all_partial_in facts (held_names finite.empty) ts) (codes "context") e)
  context_again (WithEntries ks ts) given named (Some c) None e h = absurd h
  context_again (WithEntries ks ts) given named (Some c) (Some new) e h = record_told ks ts given named (context_part c) new e h

  -- where telling it fails, so does what is held then
  pub context_fails : (ks : List Text) (ts : Trees) → IsData (WithEntries ks ts) → IsNamed (WithEntries ks ts) → (p : Either Value Tree) → part_answer p ≡ context_held facts finite.empty (WithEntries ks ts) →
      (error : EvaluationError) (k : Kind) → TellsContext table depth told p (Err error) → failure_of error ≡ OfKind k → context_held facts (told_in told) (WithEntries ks ts) ≡ Failed k
  context_fails ks ts given named p e error k tells is = record_fails ks ts given named p error k e tells is

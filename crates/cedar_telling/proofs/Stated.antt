-- The context that a body has, its evaluation, and the request of the question that the body states.
use Rattle.std.proofs.Common.{◌≡◌, ◌∙◌, ℕ, ◌<◌, ◌≤◌, refl, ap, sym, subst, true≢false, arith, Bool, true, false, cond, not, ◌&&◌, ◌||◌, is_some, Option, Some, None, List, [], ◌∷◌, codes}
use Rattle.std.specs.Borrow.{Bor}
use Rattle.std.specs.FinMap as map
use Rattle.std.specs.FinMap.{get-empty}
use Rattle.std.specs.Prelude.{⊤, option_map, Result, Ok, Err}
use Rattle.std.specs.Option.{unwrap_or}
use Rattle.either.specs.declared.Either.{Either}
use Rattle.either.specs.declared.Either.TheVariants.{Left, Right}
use Rattle.cedar_language.specs.Height.{height, heights}
use Rattle.cedar_language.specs.Order.{text_cmp}
use Rattle.cedar_language.specs.Restricted.{is_restricted, are_restricted}
use Rattle.cedar_language.specs.Tree.{MakeRecord, Tree, Apply, Trees, no_trees, a_tree}
use Rattle.cedar_language.specs.Uid.{Text}
use Rattle.cedar_language.specs.Value.{Value}
use Rattle.cedar_world.specs.Asking.{Entries, NoContext, WithEntries}
use Rattle.cedar_grammar.specs.UnknownCalls.{named, all_named, holds_call, hold_call}
use Rattle.cedar_world.specs.Bodies.{Fields, zipped, fields_of, found, entries_of, ask_body, some_part}
use Rattle.cedar_world.specs.Orders.{text_eq}
use Rattle.cedar_world.specs.Setting.{Setting, functions_alone, value_of}
use Rattle.cedar_world.specs.Values.{fails, holds_open, errs, errs_alone, context_errs, holds_bad_unknown}
use Rattle.cedar_trees.specs.Bare.{bare}
use Rattle.cedar_trees.specs.declared.expr.Expr.{Expr}
use Rattle.cedar_extensions.specs.Failures.{failure_of}
use Rattle.cedar_extensions.specs.declared.evaluation_error.EvaluationError.{EvaluationError}
use Rattle.cedar_extensions.specs.Table.{Table}
use Rattle.cedar_restricted_evaluation.specs.Evaluations.{part_answer}
use Rattle.cedar_held.specs.Fields.{Serves, IsEvaluated}
use Rattle.cedar_telling.specs.Questions.{Written, context_written, question_of, StandsAt, LendsContext}
use Rattle.cedar_held.specs.Reading.{HasUnknown, TreesAreRead, IsRead}
use Rattle.cedar_held.specs.BodyRefusals.{refusal_by}
use Rattle.cedar_telling.specs.declared.questions.AskBody.{AskBody}
use Rattle.cedar_held.proofs.Entries.{part_read, failure_is}
use Rattle.cedar_replies.specs.declared.refusal.Refusal.{Refusal}
use Rattle.cedar_replies.specs.declared.refusal.Refusal.TheVariants.{Depth, Evaluation, BadUnknown, Memory}
use Rattle.cedar_requests.specs.Contexts.{context_part, is_record}
use Rattle.cedar_requests.specs.Creating.{AnswersContext, Creates}
use Rattle.cedar_requests.specs.Holding.{RequestParts, request_parts}
use Rattle.cedar_requests.specs.Parts.{part_of}
use Rattle.cedar_requests.specs.declared.contexts.Context.{Context}
use Rattle.cedar_requests.specs.declared.errors.ContextCreationError.{ContextCreationError}
use Rattle.cedar_requests.specs.declared.errors.ContextCreationError.TheVariants as creation
use Rattle.cedar_requests.specs.declared.requests.Request.{Request}
use Rattle.cedar_telling.specs.Bodies.{IsDataRecord, IsWrittenAsData, holds_call_in, IsDeeper, IsTakenAs, IsWhyNone, EvaluatesContext, AsksBody}
use Rattle.cedar_telling.specs.Contexts.{HasContext, neither_given, both_given, MeansRecord, QuestionsAreAsked}
use Rattle.cedar_telling.specs.Unknowns.{badly_named}
use Rattle.cedar_telling.proofs.Named.{all_bad_as_named}
use Rattle.cedar_lemmas.proofs.Booleans.{or_second as or_right, and_first as and_left, and_second as and_right, or_first as or_left}

-- ---- the record that stands for the context in a body

module _ (P : Tree → Type 0) where
  abbrev Each : Trees → Type 0
  Each no_trees = ⊤
  Each (a_tree t ts) = P t × Each ts

  picked : (b : Bool) (t c : Tree) (rest : Option Tree) → P t → (rest ≡ Some c → P c) → cond b (Some t) rest ≡ Some c → P c
  picked true t c rest here later h = let same : t ≡ c = cc in subst P same here
  picked false t c rest here later h = later h

  found_among : (key : Text) (ks : List Text) (ts : Trees) → Each ts → (c : Tree) → found key (zipped ks ts) ≡ Some c → P c
  found_among key [] ts each c h = cc
  found_among key (k ∷ ks) no_trees each c h = cc
  found_among key (k ∷ ks) (a_tree t ts) each c h = picked (text_eq key k) t c (found key (zipped ks ts)) each.0 (found_among key ks ts each.1 c) h

  same_fields : (ks : List Text) (ts : Trees) (fs : Fields) → Some (zipped ks ts) ≡ Some fs → zipped ks ts ≡ fs
  same_fields ks ts fs e = cc

  -- what holds of each entry of a record holds of the one that is found
  field_has : (t : Tree) (fs : Fields) → fields_of t ≡ Some fs → ((ks : List Text) (ts : Trees) → t ≡ Apply (MakeRecord ks) ts → Each ts) → (key : Text) (c : Tree) → found key fs ≡ Some c → P c
  field_has (Apply (MakeRecord ks) ts) fs e each key c h = found_among key ks ts (each ks ts refl) c (ap (found key) (same_fields ks ts fs e) ∙ h)
  field_has t fs e each key c h = cc

each_restricted : (ts : Trees) → are_restricted ts ≡ true → Each (λ t. is_restricted t ≡ true) ts
each_restricted no_trees h = tt
each_restricted (a_tree t ts) h = (and_left _ _ h, each_restricted ts (and_right _ _ h))

each_uncalled : (ts : Trees) → hold_call ts ≡ false → Each (λ t. holds_call t ≡ false) ts
each_uncalled no_trees h = tt
each_uncalled (a_tree t ts) h = (or_left _ _ h, each_uncalled ts (or_right _ _ h))

each_low : (n : ℕ) (ts : Trees) → heights ts ≤ n → Each (λ t. height t ≤ n) ts
each_low n no_trees h = tt
each_low n (a_tree t ts) h = (omega arith, each_low n ts (omega arith))

module _ (t : Tree) where
  restricted_field : (fs : Fields) → fields_of t ≡ Some fs → is_restricted t ≡ true → (key : Text) (c : Tree) → found key fs ≡ Some c → is_restricted c ≡ true
  restricted_field fs e r = field_has (λ c. is_restricted c ≡ true) t fs e (λ ks ts is. each_restricted ts (sym (ap is_restricted is) ∙ r))

  uncalled_field : (fs : Fields) → fields_of t ≡ Some fs → holds_call t ≡ false → (key : Text) (c : Tree) → found key fs ≡ Some c → holds_call c ≡ false
  uncalled_field fs e r = field_has (λ c. holds_call c ≡ false) t fs e (λ ks ts is. each_uncalled ts (sym (ap holds_call is) ∙ r))

  low_field : (fs : Fields) → fields_of t ≡ Some fs → (key : Text) (c : Tree) → found key fs ≡ Some c → height c ≤ height t
  low_field fs e = field_has (λ c. height c ≤ height t) t fs e (λ ks ts is. let same = ap height is in each_low (height t) ts (omega arith))

  pub written_as_data : is_restricted t ≡ true → (w : Written) → LendsContext t w → IsWrittenAsData w
  written_as_data r None lent = tt
  written_as_data r (Some e) lent =
      let place : StandsAt lent.entries (bare e.now) = lent.from in
      record { restricted = restricted_field lent.entries lent.are r (codes "context") (bare e.now) place.stands; names = place.names; values = place.values; is = place.is }

  uncalled_written : holds_call t ≡ false → (w : Written) → LendsContext t w → holds_call_in w ≡ false
  uncalled_written h None lent = refl
  uncalled_written h (Some e) lent =
      let place : StandsAt lent.entries (bare e.now) = lent.from in
      uncalled_field lent.entries lent.are h (codes "context") (bare e.now) place.stands

  deeper_written : (depth : ℕ) (w : Written) → LendsContext t w → IsDeeper depth w → depth < height t
  deeper_written depth None lent deep = absurd deep
  deeper_written depth (Some e) lent deep =
      let place : StandsAt lent.entries (bare e.now) = lent.from in
      let low : height (bare e.now) ≤ height t = low_field lent.entries lent.are (codes "context") (bare e.now) place.stands in
      let far : depth < height (bare e.now) = deep in
      omega arith

  pub serves_written : (table : Table) (by : Setting) (w : Written) → LendsContext t w → Serves table by (holds_call t) → Serves table by (holds_call_in w)
  serves_written table by w lent serves = record { functions = serves.functions; held = λ unset. uncalled_written (serves.held unset) w lent }

-- ---- its evaluation

-- where nothing is told, each unknown is open
errs_as_alone : (by : Setting) (t : Tree) → errs by map.empty t ≡ errs_alone by t
errs_as_alone by t = λ i. some_part (λ p. not (holds_open (λ n. not (is_some (get-empty {X = Value} text_cmp n i))) p) && fails (value_of by.functions map.empty p)) t

abbrev entries_in : Tree → Entries
entries_in t = unwrap_or (entries_of t) NoContext

fine_read : (by : Setting) (t : Tree) (p : Either Value Tree) → IsRead by t (part_answer p) → errs_alone by t ≡ false
fine_read by t (Left v) h = h.2
fine_read by t (Right r) h = h.1

means_read : (by : Setting) (ks : List Text) (us : Trees) (p : Either Value Tree) → IsRead by (Apply (MakeRecord ks) us) (part_answer p) → hold_call us ≡ false → MeansRecord by (WithEntries ks us)
means_read by ks us (Left v) h uncalled = λ none. (v, h.0)
means_read by ks us (Right r) h uncalled = λ none. absurd (true≢false (sym h.0 ∙ (λ i. none i || uncalled i)))

module _ (read : TreesAreRead) (by : Setting) (table : Table) (unknown_is : HasUnknown table) (depth : ℕ) where
  module _ (ks : List Text) (ts : Trees) where
    abbrev written_record : Tree
    written_record = Apply (MakeRecord ks) ts

    record_taken : is_restricted written_record ≡ true → Serves table by (holds_call written_record) → (c : Context) → AnswersContext table depth written_record (Ok c) → badly_named written_record ≡ false
        → IsTakenAs by (entries_in written_record) table (Some c)
    record_taken given serves c answers well =
        let is_read = part_read read table unknown_is depth written_record given by serves (context_part c) (answers (functions_alone by.functions) serves.functions) in
        let named_well : holds_bad_unknown (WithEntries ks (all_named ts)) ≡ false = sym (all_bad_as_named ts given) ∙ well in
        record {
          evaluated = both_given (record { restricted = given; uncalled = serves.held; written = or_right _ _ named_well; answers = answers });
          means = means_read by ks (all_named ts) (context_part c) is_read (or_right _ _ named_well);
          fine = errs_as_alone by (named written_record) ∙ fine_read by (named written_record) (context_part c) is_read;
          named = named_well;
        }

    record_unnamed : is_restricted written_record ≡ true → Serves table by (holds_call written_record) → (c : Context) → AnswersContext table depth written_record (Ok c) → badly_named written_record ≡ true
        → (context_errs by (entries_in written_record) map.empty ≡ false) × (holds_bad_unknown (entries_in written_record) ≡ true)
    record_unnamed given serves c answers badly =
        let is_read = part_read read table unknown_is depth written_record given by serves (context_part c) (answers (functions_alone by.functions) serves.functions) in
        (errs_as_alone by (named written_record) ∙ fine_read by (named written_record) (context_part c) is_read, sym (all_bad_as_named ts given) ∙ badly)

  module _ (t : Tree) (record_is : IsDataRecord t) (serves : Serves table by (holds_call t)) where
    taken : (c : Context) → AnswersContext table depth t (Ok c) → badly_named t ≡ false → IsTakenAs by (entries_in t) table (Some c)
    taken c answers well =
        subst (λ (u : Tree). is_restricted u ≡ true → Serves table by (holds_call u) → AnswersContext table depth u (Ok c) → badly_named u ≡ false → IsTakenAs by (entries_in u) table (Some c))
        (sym record_is.is) (λ given served answer named. record_taken record_is.names record_is.values given served c answer named) record_is.restricted serves answers well

    unnamed : (c : Context) → AnswersContext table depth t (Ok c) → badly_named t ≡ true → (context_errs by (entries_in t) map.empty ≡ false) × (holds_bad_unknown (entries_in t) ≡ true)
    unnamed c answers badly =
        subst (λ (u : Tree). is_restricted u ≡ true → Serves table by (holds_call u) → AnswersContext table depth u (Ok c) → badly_named u ≡ true → (context_errs by (entries_in u) map.empty ≡ false) × (holds_bad_unknown (entries_in u) ≡ true))
        (sym record_is.is) (λ given served answer named. record_unnamed record_is.names record_is.values given served c answer named) record_is.restricted serves answers badly

    errs_so : errs_alone by (named t) ≡ true → context_errs by (entries_in t) map.empty ≡ true
    errs_so h =
        subst (λ (u : Tree). errs_alone by (named u) ≡ true → context_errs by (entries_in u) map.empty ≡ true)
        (sym record_is.is) (λ err. errs_as_alone by (Apply (MakeRecord record_is.names) (all_named record_is.values)) ∙ err) h

  module _ (e : Bor (Expr (Unit {0}))) (record_is : IsDataRecord (bare e.now)) (serves : Serves table by (holds_call (bare e.now))) where
    evaluated_well : (c : Context) → Creates table depth (bare e.now) (Ok c) → badly_named (bare e.now) ≡ false → EvaluatesContext by table depth (Some e) (Ok (Some c))
    evaluated_well c made well = taken (bare e.now) record_is serves c made.answer well

    evaluated_badly : (c : Context) → Creates table depth (bare e.now) (Ok c) → badly_named (bare e.now) ≡ true → EvaluatesContext by table depth (Some e) (Err BadUnknown)
    evaluated_badly c made badly = let both = unnamed (bare e.now) record_is serves c made.answer badly in record { fine = both.0; unnamed = both.1 }

    refused : (r : Refusal) → IsEvaluated table depth (bare e.now) (Err r) → EvaluatesContext by table depth (Some e) (Err r)
    refused Evaluation h = errs_so (bare e.now) record_is serves (h by serves)
    refused Depth h = h
    refused Memory h = tt
    refused r h = absurd h

    evaluated_not : (error : EvaluationError) (r : Refusal) → r ≡ refusal_by (failure_of error) → AnswersContext table depth (bare e.now) (Err error) → EvaluatesContext by table depth (Some e) (Err r)
    evaluated_not error r is answers =
        refused r (subst (λ (x : Refusal). IsEvaluated table depth (bare e.now) (Err x)) (sym is) (failure_is read table unknown_is depth (bare e.now) record_is.restricted (failure_of error) answers))

    context_refused : (error : ContextCreationError) (r : Refusal) → IsWhyNone error r → Creates table depth (bare e.now) (Err error) → EvaluatesContext by table depth (Some e) (Err r)
    context_refused (creation.Evaluation error) r is made = evaluated_not error r is made.answer
    context_refused (creation.Memory error) r is made = subst (λ (x : Refusal). EvaluatesContext by table depth (Some e) (Err x)) (sym is) tt
    context_refused (creation.NotARecord error) r is made = absurd (true≢false (sym (ap is_record record_is.is) ∙ made.written.0))
    context_refused (creation.ExpressionConstruction error) r is made = absurd made.written

  -- the same where the context is one that may be written, and its record is lent as u
  module _ (w : Written) (e : Bor (Expr (Unit {0}))) (is : w ≡ Some e) (given : IsWrittenAsData w) (serves : Serves table by (holds_call_in w)) (u : Tree) (same : u ≡ bare e.now) where
    record_given : IsDataRecord (bare e.now)
    record_given = subst IsWrittenAsData is given

    record_served : Serves table by (holds_call (bare e.now))
    record_served = subst (λ (x : Written). Serves table by (holds_call_in x)) is serves

    record_made : (result : Result Context ContextCreationError) → Creates table depth u result → Creates table depth (bare e.now) result
    record_made result = subst (λ (t : Tree). Creates table depth t result) same

    of_written : (result : Result (Option Context) Refusal) → EvaluatesContext by table depth (Some e) result → EvaluatesContext by table depth w result
    of_written result = subst (λ (x : Written). EvaluatesContext by table depth x result) (sym is)

    pub named_well : (c : Context) → Creates table depth u (Ok c) → badly_named (bare e.now) ≡ false → EvaluatesContext by table depth w (Ok (Some c))
    named_well c made well = of_written (Ok (Some c)) (evaluated_well e record_given record_served c (record_made (Ok c) made) well)

    pub named_badly : (c : Context) → Creates table depth u (Ok c) → badly_named (bare e.now) ≡ true → EvaluatesContext by table depth w (Err BadUnknown)
    named_badly c made badly = of_written (Err BadUnknown) (evaluated_badly e record_given record_served c (record_made (Ok c) made) badly)

    pub not_made : (error : ContextCreationError) (r : Refusal) → IsWhyNone error r → Creates table depth u (Err error) → EvaluatesContext by table depth w (Err r)
    not_made error r why made = of_written (Err r) (context_refused e record_given record_served error r why (record_made (Err error) made))

none_given : (by : Setting) (table : Table) (depth : ℕ) → EvaluatesContext by table depth None (Ok None)
none_given by table depth = record { evaluated = neither_given; means = tt; fine = refl; named = refl }

pub not_given : (by : Setting) (table : Table) (depth : ℕ) (w : Written) → w ≡ None → EvaluatesContext by table depth w (Ok None)
not_given by table depth w is = subst (λ (x : Written). EvaluatesContext by table depth x (Ok None)) (sym is) (none_given by table depth)

-- ---- the request

module _ (by : Setting) (table : Table) (depth : ℕ) (tree : Tree) (b : AskBody) (asks : ask_body tree ≡ Some (question_of b)) (lent : LendsContext tree b.context) where
  pub unasked : (r : Refusal) → EvaluatesContext by table depth b.context (Err r) → AsksBody by table depth tree (Err r)
  unasked Evaluation h = (question_of b, asks, h)
  unasked BadUnknown h = (question_of b, asks, h)
  unasked Depth h = deeper_written tree depth b.context lent h
  unasked Memory h = tt
  unasked r h = absurd h

  pub is_asked : QuestionsAreAsked → (request : Request) (made : Option Context)
      → request_parts request ≡ record {
        principal = part_of b.principal;
        action = part_of b.action;
        resource = part_of b.resource;
        context = option_map context_part made;
      }
      → EvaluatesContext by table depth b.context (Ok made) → AsksBody by table depth tree (Ok request)
  is_asked law request made parts taken = (
    question_of b,
    asks,
    record {
      is_request = law by table (question_of b) (request_parts request)
          (ap (λ (x : RequestParts). x.principal) parts) (ap (λ (x : RequestParts). x.action) parts) (ap (λ (x : RequestParts). x.resource) parts)
          (subst (HasContext table (context_written b.context)) (sym (ap (λ (x : RequestParts). x.context) parts)) taken.evaluated) taken.means;
      fine = taken.fine;
      named = taken.named;
    },
  )

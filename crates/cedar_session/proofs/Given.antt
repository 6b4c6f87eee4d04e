-- Questions of which all is given: what their bodies state, and what is asked.
use Rattle.std.proofs.Common.{◌≡◌, ◌∙◌, ℕ, refl, sym, ap, subst, Bool, true, false, not, is_some, ◌&&◌, ◌||◌, List, [], ◌∷◌, Some, Ok, Err, Result, codes}
use Rattle.std.specs.FinMap as finite
use Rattle.either.specs.declared.Either.TheVariants.{Left}
use Rattle.cedar_language.specs.Uid.{Text}
use Rattle.cedar_language.specs.Restricted.{is_restricted}
use Rattle.cedar_language.specs.Tree.{MakeRecord, Tree, Lit, Entity, Apply, Trees}
use Rattle.cedar_language.specs.Value.{Value}
use Rattle.cedar_values.specs.Kinds.{keys_of, values_of}
use Rattle.cedar_grammar.specs.UnknownCalls.{all_named, holds_call, hold_call}
use Rattle.cedar_world.specs.Asking.{Given, WithEntries, Question, Told}
use Rattle.cedar_world.specs.Bodies.{ask_body, some_name_of, is_one_of}
use Rattle.cedar_world.specs.Question.{is_unknown}
use Rattle.cedar_world.specs.Orders.{text_eq}
use Rattle.cedar_world.proofs.Parts.{same_some}
use Rattle.cedar_world.specs.Setting.{Setting, functions_alone, value_of}
use Rattle.cedar_partial_evaluation.specs.Filling.{names_told}
use Rattle.cedar_grammar.specs.Build.{Keyed}
use Rattle.cedar_trees.specs.Records.{record_made}
use Rattle.cedar_world.specs.Values.{context_errs, errs, holds_bad_unknown, variable_names}
use Rattle.cedar_extensions.specs.Table.{Table}
use Rattle.cedar_requests.specs.Holding.{request_parts}
use Rattle.cedar_requests.specs.declared.requests.Request.{Request}
use Rattle.cedar_telling.specs.AskedNames.{has_name, AreUntoldOf}
use Rattle.cedar_telling.specs.Bodies.{AsksBody}
use Rattle.cedar_telling.specs.Contexts.{HasContext, both_given, MeansRecord, QuestionsAreAsked}
use Rattle.cedar_telling.specs.Requests.{IsRequestOf}
use Rattle.cedar_data.specs.Simple.{tree_of, trees_of, record_value}
use Rattle.cedar_data.specs.Questions.{question_tree}
use Rattle.cedar_data.specs.declared.given.GivenQuestion.{GivenQuestion}
use Rattle.std.specs.Rc.{rc_str_bytes}
use Rattle.std.specs.declared.alloc.Global.{Global}
use Rattle.std.specs.declared.rc.RcStr.{RcStr}
use Rattle.cedar_restricted.specs.Expressing.{Expresses}
use Rattle.cedar_restricted.specs.Views.{restricted_tree, restricted_entries}
use Rattle.cedar_restricted.specs.declared.restricted.RestrictedExpr.{RestrictedExpr}
use Rattle.cedar_session.specs.Asking.{parts_asked, entries_asked}
use Rattle.cedar_session.proofs.Simple.{is_data, are_data, calls_nothing, call_nothing, all_themselves, name_nothing, is_written, never, means, answered, is_fine}

abbrev context_trees : GivenQuestion → Trees
context_trees q = trees_of (values_of q.context.value.entries)

-- what is asked
abbrev pub asked_of : GivenQuestion → Question
asked_of q = record {
  principal = Given q.principal.value;
  action = Given q.action.value;
  resource = Given q.resource.value;
  context = WithEntries (keys_of q.context.value.entries) (all_named (context_trees q));
}

pub states : (q : GivenQuestion) → ask_body (question_tree q) ≡ Some (asked_of q)
states q = refl

module _ (q : GivenQuestion) where
  abbrev record_asked : Value
  record_asked = record_value q.context.value.entries

  themselves : all_named (context_trees q) ≡ context_trees q
  themselves = all_themselves (context_trees q) q.simple

  pub question_restricted : is_restricted (question_tree q) ≡ true
  question_restricted = ap (λ b. b && true) (is_data (tree_of record_asked) q.simple)

  pub question_uncalled : holds_call (question_tree q) ≡ false
  question_uncalled = ap (λ b. b || false) (calls_nothing (tree_of record_asked) q.simple)

  -- no value of it is unknown
  pub knows_all : (n : Text) → is_unknown (asked_of q) n ≡ false
  knows_all n = ap (some_name_of (text_eq n)) themselves ∙ name_nothing (text_eq n) (context_trees q) q.simple

  -- so no name waits for one
  pub nothing_untold : (told : Told) (names : List Text) → names ≡ [] → AreUntoldOf (question_tree q) told names
  nothing_untold told names none p asks n =
      ap (λ ns. has_name ns n) none
      ∙ sym (ap (λ x. not (is_some (finite.get told n)) && is_unknown x n) (same_some p (asked_of q) (sym asks ∙ states q))
      ∙ ap (λ b. not (is_some (finite.get told n)) && b) (knows_all n) ∙ never (not (is_some (finite.get told n))))

  has_context : (table : Table) → HasContext table (asked_of q).context (Some (Left record_asked))
  has_context table = both_given (record {
    restricted = are_data (context_trees q) q.simple;
    uncalled = λ unset. call_nothing (context_trees q) q.simple;
    written = ap hold_call themselves ∙ call_nothing (context_trees q) q.simple;
    answers = λ facts has. answered table facts record_asked q.simple;
  })

  module _ (by : Setting) where
    abbrev record_named : Trees → Tree
    record_named ts = Apply (MakeRecord (keys_of q.context.value.entries)) ts

    means_record : MeansRecord by (asked_of q).context
    means_record = λ none. (record_asked, ap (λ ts. value_of by.functions finite.empty (record_named ts)) themselves ∙ means (functions_alone by.functions) (names_told finite.empty) record_asked q.simple)

    fine : context_errs by (asked_of q).context finite.empty ≡ false
    fine = ap (λ ts. errs by finite.empty (record_named ts)) themselves ∙ is_fine by finite.empty record_asked q.simple

    named : holds_bad_unknown (asked_of q).context ≡ false
    named =
        ap (λ ts. some_name_of (is_one_of variable_names) ts || hold_call ts) themselves
        ∙ ap (λ b. b || hold_call (context_trees q)) (name_nothing (is_one_of variable_names) (context_trees q) q.simple)
        ∙ call_nothing (context_trees q) q.simple

    -- a request of these parts is that of its body
    pub is_asked : QuestionsAreAsked → (table : Table) (depth : ℕ) (request : Request) → request_parts request ≡ parts_asked q → AsksBody by table depth (question_tree q) (Ok request)
    is_asked law table depth request parts = (
      asked_of q,
      states q,
      record {
        is_request = subst (IsRequestOf by table (asked_of q)) (sym parts) (law by table (asked_of q) (parts_asked q) refl refl refl (has_context table) means_record);
        fine = fine;
        named = named;
      },
    )

  -- ---- its body once more

  same_made : (s t : Tree) (made : Result Tree Text) → made ≡ Ok s → made ≡ Ok t → t ≡ s
  same_made s t made is also = cc

  pub body_made : (es : List (Keyed Tree)) (t : Tree) → es ≡ entries_asked q → record_made es ≡ Ok t → t ≡ question_tree q
  body_made es t are made = same_made (question_tree q) t (record_made es) (ap record_made are) made

  -- none of its keys stands twice
  pub none_twice : (es : List (Keyed Tree)) (k : Text) → es ≡ entries_asked q → record_made es ≡ Err k → ⊥
  none_twice es k are made = let no : Ok (question_tree q) ≡ Err k = ap record_made (sym are) ∙ made in cc

  -- the entries that are listed again
  pub entries_listed : (p a r c : RcStr Global × RestrictedExpr) → rc_str_bytes p.0 ≡ codes "principal" → restricted_tree p.1 ≡ Lit (Entity q.principal.value)
      → rc_str_bytes a.0 ≡ codes "action" → restricted_tree a.1 ≡ Lit (Entity q.action.value) → rc_str_bytes r.0 ≡ codes "resource" → restricted_tree r.1 ≡ Lit (Entity q.resource.value)
      → rc_str_bytes c.0 ≡ codes "context" → Expresses record_asked (restricted_tree c.1) → restricted_entries (p ∷ a ∷ r ∷ c ∷ []) ≡ entries_asked q
  entries_listed p a r c pk pe ak ae rk re ck ce =
      let same : restricted_tree c.1 ≡ tree_of record_asked = is_written record_asked (restricted_tree c.1) ce q.simple in
      λ i. (pk i, pe i) ∷ (ak i, ae i) ∷ (rk i, re i) ∷ (ck i, same i) ∷ []

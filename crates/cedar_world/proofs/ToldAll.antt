-- What accepted commands told of a question is a filling, once all is told.
use Rattle.std.proofs.Common.{◌≡◌, inl, inr, Bool, true, false, cond, not, ◌&&◌, Option, Some, None, is_some, IsSome, List, [], ◌∷◌, codes, refl, sym, ◌∙◌, ap, subst, true≢false}
use Rattle.std.proofs.lemmas.Bool.{and_parts, or_left, or_right, or_parts, or_from, false_from_ne_true, not-false, cases_Bool}
use Rattle.std.specs.FinMap as map
use Rattle.cedar_language.specs.Uid.{Text, Name, Uid}
use Rattle.cedar_language.specs.Tree.{String, Entity, RecordType, ValueType, MakeSet, MakeRecord, Call, Tree, Lit, Unknown, Apply, Trees, no_trees, a_tree}
use Rattle.cedar_language.specs.Value.{Value, Plain, TypeError, Outcome, Gives, Fails}
use Rattle.cedar_language.specs.Authorization.{Known}
use Rattle.cedar_grammar.specs.Functions.{is_the_unknown}
use Rattle.cedar_grammar.specs.UnknownCalls.{unknown_or, named_call, named, all_named, hold_call}
use Rattle.cedar_partial_evaluation.specs.Filling.{GivesEach, GivesEachOf, FillsPart, FillsContext, name_outcome}
use Rattle.cedar_partial_evaluation.specs.Unknowns.{fits as fits_type}
use Rattle.cedar_world.specs.Orders.{text_eq}
use Rattle.cedar_world.specs.Answer.{Answer}
use Rattle.cedar_world.specs.World.{World, Asked}
use Rattle.cedar_world.specs.Asking.{Part, Given, Missing, Entries, NoContext, WithEntries, Question, Told}
use Rattle.cedar_world.specs.Question.{is_missing, has_name, is_unknown, fits, fits_part, Portion, told_with}
use Rattle.cedar_world.specs.Bodies.{Fields, is_restricted, are_restricted, some_name, some_name_of, some_part, some_part_of, is_one_of, ask_body}
use Rattle.cedar_world.specs.Setting.{Setting, IsBody, value_of, functions_alone}
use Rattle.cedar_world.specs.Fillings.{given_value, IsFilling}
use Rattle.cedar_world.specs.Values.{fails, holds_open, holds_bad_unknown, variable_names, context_errs, values}
use Rattle.cedar_world.specs.Commands.{Verb, Ask, Tell, Refusal, Depth, NotRestricted, Evaluation, BadUnknown, NoQuestion, NoSuchUnknown, WrongKind, Reply, Done, Named, Answered, Refused}
use Rattle.cedar_world.specs.Refusals.{some_pair, some_key, Stands, Refuses, FirstOrDeep}
use Rattle.cedar_world.specs.Step.{Step}
use Rattle.cedar_world.specs.Session.{Command, Answers, no_command, a_command}
use Rattle.cedar_world.specs.RunText.{FrameStep}
use Rattle.cedar_world.specs.RunLaws.{AnswersFrames, no_frame, a_frame}
use Rattle.cedar_world.specs.ToldAll.{IsToldByCommands, asks, tells, OpensByCommands, TellsAll, ToldAllIsAFilling}
use Rattle.cedar_partial_evaluation.proofs.Passing.{data_in}
use Rattle.cedar_world.proofs.Parts.{same_some, not_none}
use Rattle.cedar_world.proofs.Ids.{the_value}
use Rattle.cedar_world.proofs.Fillings.{nothing_told}
use Rattle.cedar_world.proofs.Names.{FailsTest, none_pass, all_named as each_of}
use Rattle.cedar_world.proofs.Maps.{put_there, put_elsewhere, same_or_not}
use Rattle.cedar_world.proofs.Portions.{read_cons}
use Rattle.cedar_world.proofs.QuestionParts.{ContextPasses, question_passes}
use Rattle.cedar_world.proofs.Standing.{none_stands}
use Rattle.cedar_world.proofs.Steps.{step_laws}

-- ---- data with its unknowns as such

unknown_restricted : (b : Bool) (f : Name) (t : Tree) (ts : Trees) → are_restricted (a_tree t ts) ≡ true → is_restricted (unknown_or b f t ts) ≡ true
unknown_restricted true f (Lit (String n)) no_trees h = refl
unknown_restricted _ f t ts h = h

call_restricted : (f : Name) (ts : Trees) → are_restricted ts ≡ true → is_restricted (named_call (Call f) ts) ≡ true
call_restricted f no_trees h = refl
call_restricted f (a_tree t ts) h = unknown_restricted (is_the_unknown f) f t ts h

mutual
  named_restricted : (t : Tree) → is_restricted t ≡ true → is_restricted (named t) ≡ true
  named_restricted (Lit l) h = refl
  named_restricted (Unknown n ty) h = refl
  named_restricted (Apply MakeSet ts) h = all_named_restricted ts h
  named_restricted (Apply (MakeRecord ks) ts) h = all_named_restricted ts h
  named_restricted (Apply (Call f) ts) h = call_restricted f (all_named ts) (all_named_restricted ts h)
  named_restricted _ h = cc

  all_named_restricted : (ts : Trees) → are_restricted ts ≡ true → are_restricted (all_named ts) ≡ true
  all_named_restricted no_trees h = refl
  all_named_restricted (a_tree t ts) h =
      let (ht, hts) = and_parts (is_restricted t) (are_restricted ts) h in
      λ i. named_restricted t ht i && all_named_restricted ts hts i

-- a context that a body states is data
stated : (tree : Tree) (q : Question) → is_restricted tree ≡ true → ask_body tree ≡ Some q → ContextPasses (λ ts. are_restricted ts ≡ true) q.context
stated =
    question_passes (λ t. is_restricted t ≡ true) (λ ts. are_restricted ts ≡ true) (λ t ts h. and_parts (is_restricted t) (are_restricted ts) h) (λ ks ts h. h)
    all_named_restricted

-- ---- what is told of a question

module _ (by : Setting) where
  abbrev untold : Told → Text → Bool
  untold told n = not (is_some (map.get told n))

  abbrev errs_told : Told → Tree → Bool
  errs_told told p = not (holds_open (untold told) p) && fails (value_of by.functions told p)

  -- data in which no call of `unknown` is left
  abbrev IsStated : Entries → Type 0
  IsStated NoContext = Unit {0}
  IsStated (WithEntries ks ts) = (are_restricted ts ≡ true) × (hold_call ts ≡ false)

  -- the values are of the question's unknowns, of their kinds, and the context doesn't err with them
  record IsKept (q : Question) (told : Told) : Type 0 where
    stated_is : IsStated q.context
    asked : (n : Text) (v : Value) → map.get told n ≡ Some v → is_unknown q n ≡ true
    fit : (n : Text) (v : Value) → map.get told n ≡ Some v → fits q n v ≡ true
    context : context_errs by q.context told ≡ false

  -- ---- a filling

  missing_filled : (ty : Option Name) (o : Option Value) → IsSome o → ((v : Value) → o ≡ Some v → fits_part (Missing ty) v ≡ true) → (u : Uid) × FillsPart (Missing ty) o u
  missing_filled ty (Some (Plain (Entity u))) some fit = (u, (refl, fit (Plain (Entity u)) refl))
  missing_filled ty (Some v) some fit = absurd (let e = fit v refl in cc)
  missing_filled ty None some fit = absurd (true≢false (sym some))

  part_filled : (p : Part) (o : Option Value) → (is_missing p ≡ true → IsSome o) → ((v : Value) → o ≡ Some v → fits_part p v ≡ true) → (u : Uid) × FillsPart p o u
  part_filled (Given u) o some fit = (u, refl)
  part_filled (Missing ty) o some fit = missing_filled ty o (some refl) fit

  gives : (o : Outcome) → fails o ≡ false → (v : Value) × (o ≡ Gives v)
  gives (Gives v) h = (v, refl)
  gives (Fails k) h = cc

  type_fits : (b : Bool) (v : Value) → fails (cond b (Gives v) (Fails TypeError)) ≡ false → b ≡ true
  type_fits true v h = refl
  type_fits false v h = cc

  module _ (told : Told) where
    name_given : (n : Text) (ty : Option ValueType) (o : Option Value) → map.get told n ≡ o → not (is_some o) ≡ false
        → (not (not (is_some o)) && fails (name_outcome o ty)) ≡ false → (v : Value) × (map.get told n ≡ Some v) × (fits_type ty v ≡ true)
    name_given n ty (Some v) e u h = (v, e, type_fits (fits_type ty v) v h)
    name_given n ty None e u h = cc

    mutual
      each_given : (t : Tree) → is_restricted t ≡ true → some_name (untold told) t ≡ false → some_part (errs_told told) t ≡ false → GivesEach told t
      each_given (Lit l) r u h = tt
      each_given (Unknown n ty) r u h = name_given n ty (map.get told n) refl u h
      each_given (Apply op ts) r u h = each_of_given ts (data_in op ts r).0 u (or_parts (errs_told told (Apply op ts)) (some_part_of (errs_told told) ts) h).1
      each_given _ r u h = cc

      each_of_given : (ts : Trees) → are_restricted ts ≡ true → some_name_of (untold told) ts ≡ false → some_part_of (errs_told told) ts ≡ false → GivesEachOf told ts
      each_of_given no_trees r u h = tt
      each_of_given (a_tree t ts) r u h =
          let (rt, rts) = and_parts (is_restricted t) (are_restricted ts) r in
          let (ut, uts) = or_parts (some_name (untold told) t) (some_name_of (untold told) ts) u in
          let (ht, hts) = or_parts (some_part (errs_told told) t) (some_part_of (errs_told told) ts) h in
          (each_given t rt ut ht, each_of_given ts rts uts hts)

    none_untold : (ts : Trees) → ((n : Text) → some_name_of (text_eq n) ts ≡ true → IsSome (map.get told n)) → some_name_of (untold told) ts ≡ false
    none_untold ts all = none_pass (untold told) ts (each_of (FailsTest (untold told)) ts (λ n ty h. ap not (all n h)))

    context_filled : (c : Entries) → IsStated c → context_errs by c told ≡ false → ((n : Text) → has_name c n ≡ true → IsSome (map.get told n))
        → ((v : Value) → map.get told (codes "context") ≡ Some v → c ≡ NoContext → fits_type (Some RecordType) v ≡ true)
        → (w : Value) × FillsContext (functions_alone by.functions) c told w
    context_filled NoContext s e all fit = let (v, is) = the_value (map.get told (codes "context")) (all (codes "context") refl) in (v, (is, fit v is refl))
    context_filled (WithEntries ks ts) (restricted, uncalled) e all fit =
        let told_all = none_untold ts all in
        let (here, below) = or_parts (errs_told told (Apply (MakeRecord ks) ts)) (some_part_of (errs_told told) ts) e in
        let shut = or_from (some_name_of (untold told) ts) (hold_call ts) told_all uncalled in
        let (w, is) = gives (value_of by.functions told (Apply (MakeRecord ks) ts))
        (subst (λ b. (not b && fails (value_of by.functions told (Apply (MakeRecord ks) ts))) ≡ false) shut here) in
        (w, (restricted, each_of_given ts restricted told_all below, is))

  module _ (q : Question) (told : Told) (kept : IsKept q told) (all : TellsAll q told) where
    principal_there : is_missing q.principal ≡ true → IsSome (map.get told (codes "principal"))
    principal_there e = all (codes "principal") (or_left (is_missing q.principal && true) _ (λ i. e i && true))

    action_there : is_missing q.action ≡ true → IsSome (map.get told (codes "action"))
    action_there e = all (codes "action") (or_right (is_missing q.principal && false) _ (or_left (is_missing q.action && true) _ (λ i. e i && true)))

    resource_there : is_missing q.resource ≡ true → IsSome (map.get told (codes "resource"))
    resource_there e =
        all (codes "resource") (or_right (is_missing q.principal && false) _ (or_right (is_missing q.action && false) _ (or_left (is_missing q.resource && true) _ (λ i. e i && true))))

    named_there : (n : Text) → has_name q.context n ≡ true → IsSome (map.get told n)
    named_there n e =
        all n (or_right (is_missing q.principal && text_eq n (codes "principal")) _ (or_right (is_missing q.action && text_eq n (codes "action")) _
        (or_right (is_missing q.resource && text_eq n (codes "resource")) _ e)))

    context_fits : (v : Value) → map.get told (codes "context") ≡ Some v → q.context ≡ NoContext → fits_type (Some RecordType) v ≡ true
    context_fits v is none = sym (ap (λ c. fits (record q { context = c }) (codes "context") v) none) ∙ kept.fit (codes "context") v is

    filled : (request : Known) × IsFilling by q told request
    filled =
        let (principal, p) = part_filled q.principal (map.get told (codes "principal")) principal_there
        (λ v is. (and_parts (fits_part q.principal v) _ (kept.fit (codes "principal") v is)).0) in
        let (action, a) = part_filled q.action (map.get told (codes "action")) action_there
        (λ v is. (and_parts (fits_part q.action v) _ (kept.fit (codes "action") v is)).0) in
        let (resource, r) = part_filled q.resource (map.get told (codes "resource")) resource_there
        (λ v is. (and_parts (fits_part q.resource v) _ (kept.fit (codes "resource") v is)).0) in
        let (context, c) = context_filled told q.context kept.stated_is kept.context named_there context_fits in (
          record { principal = principal; action = action; resource = resource; context = context },
          record { names = names; fills = record { principal = p; action = a; resource = r; context = c } },
        )
      where
        told_or_not : (n : Text) (o : Option Value) → map.get told n ≡ o → (b : Bool) → is_unknown q n ≡ b → is_some o ≡ b
        told_or_not n (Some v) e b u = sym (kept.asked n v e) ∙ u
        told_or_not n None e true u = sym (ap is_some e) ∙ all n u
        told_or_not n None e false u = refl

        names : (n : Text) → is_some (map.get told n) ≡ is_unknown q n
        names n = told_or_not n (map.get told n) refl (is_unknown q n) refl

  -- ---- asking

  stated_so : (c : Entries) → ContextPasses (λ ts. are_restricted ts ≡ true) c → holds_bad_unknown c ≡ false → IsStated c
  stated_so NoContext h e = tt
  stated_so (WithEntries ks ts) h e = (h, (or_parts (some_name_of (is_one_of variable_names) ts) (hold_call ts) e).1)

  restricted_here : (world : World) (text : Text) (tree : Tree) → IsBody by text tree → ((r : Refusal) → Stands by world text Ask r → ⊥) → is_restricted tree ≡ true
  restricted_here world text tree reads none = elim (cases_Bool (is_restricted tree)) [ inl e ↦ e | inr e ↦ absurd (none NotRestricted (tree, reads, e)) ]

  asks_kept : (old new : World) (text : Text) (answer : Answer) → Step by old Ask text (Answered answer) new
      → (asked : Asked) → new.asked ≡ Some asked → IsKept asked.question asked.told
  asks_kept old new text answer (none, (tree, q, reads, states, (first, is))) asked now =
      let shut = none_stands by old text Ask none in
      let same : record { question = q; told = map.empty; last = answer } ≡ asked = same_some _ _ (sym (ap (λ (w : World). w.asked) is) ∙ now) in
      subst (λ (a : Asked). IsKept a.question a.told) same (record {
        stated_is = stated_so q.context (stated tree q (restricted_here old text tree reads shut) states)
            (false_from_ne_true (holds_bad_unknown q.context) (λ e. shut BadUnknown (tree, q, reads, states, e)));
        asked = λ n v e. absurd (nothing_told n v e);
        fit = λ n v e. absurd (nothing_told n v e);
        context = false_from_ne_true (context_errs by q.context map.empty) (λ e. shut Evaluation (tree, q, reads, states, e));
      })

  -- ---- telling

  -- a test that holds of no pair holds of none that is told now
  pair_fails : (test : Text → Value → Bool) (told : Told) (vs : Portion) → some_pair test vs ≡ false → ((n : Text) (v : Value) → map.get told n ≡ Some v → test n v ≡ false)
      → (n : Text) (v : Value) → map.get (told_with told vs) n ≡ Some v → test n v ≡ false
  pair_fails test told [] h old n v e = old n v e
  pair_fails test told (p ∷ ps) h old n v e =
      let (here, below) = or_parts (test p.0 p.1) (some_pair test ps) h in
      elim (same_or_not n p.0) [
        | inl is ↦
            let there : Some p.1 ≡ Some v = sym (put_there (told_with told ps) p.0 p.1) ∙ ap (map.get (told_with told (p ∷ ps))) (sym is) ∙ e in
            subst (λ x. test x v ≡ false) (sym is) (subst (λ x. test p.0 x ≡ false) (same_some _ _ there) here)
        | inr other ↦ pair_fails test told ps below old n v (sym (put_elsewhere (told_with told ps) p.0 p.1 n other) ∙ e)
      ]

  key_pairs : (test : Text → Bool) (fs : Fields) (vs : Portion) → values by fs ≡ Some vs → some_key test fs ≡ false → some_pair (λ n v. test n) vs ≡ false
  key_pairs test [] vs e h = subst (λ ws. some_pair (λ n v. test n) ws ≡ false) (same_some [] vs e) refl
  key_pairs test (f ∷ fs) vs e h =
      let (v, rest, one, more, is) = read_cons f.0 (given_value (value_of by.functions map.empty f.1)) (values by fs) vs e in
      let (here, below) = or_parts (test f.0) (some_key test fs) h in
      subst (λ ws. some_pair (λ n v. test n) ws ≡ false) (sym is) (or_from (test f.0) (some_pair (λ n v. test n) rest) here (key_pairs test fs rest more below))

  tell_first : (world : World) (text : Text) → ((r : Refusal) → Refuses by world text Tell r → ⊥) → (r : Refusal) → FirstOrDeep by world text Tell r → ⊥
  tell_first world text none NoQuestion h = h.0.2.4
  tell_first world text none Evaluation h = none Evaluation (inl h)
  tell_first world text none Depth h = none Depth h
  tell_first world text none r h = none r h

  tells_kept : (old new : World) (text : Text) (answer : Answer) → Step by old Tell text (Answered answer) new
      → ((asked : Asked) → old.asked ≡ Some asked → IsKept asked.question asked.told)
      → (asked : Asked) → new.asked ≡ Some asked → IsKept asked.question asked.told
  tells_kept old new text answer (none, (tree, fs, reads, states, (before, vs, was, are, later, is))) before_kept asked now =
      let shut : (r : Refusal) → Stands by old text Tell r → ⊥ = none_stands by old text Tell (tell_first old text none) in
      let kept = before_kept before was in
      let q : Question = before.question in
      let all : Told = told_with before.told vs in
      let new_names = key_pairs (λ n. not (is_unknown q n)) fs vs are
      (false_from_ne_true (some_key (λ n. not (is_unknown q n)) fs) (λ e. shut NoSuchUnknown (before, was, (tree, fs, reads, states, e)))) in
      let new_kinds = false_from_ne_true (some_pair (λ n v. not (fits q n v)) vs) (λ e. shut WrongKind (before, was, (tree, fs, reads, states, (vs, are, e)))) in
      let same : record { question = q; told = all; last = answer } ≡ asked = same_some _ _ (sym (ap (λ (w : World). w.asked) is) ∙ now) in
      subst (λ (a : Asked). IsKept a.question a.told) same (record {
        stated_is = kept.stated_is;
        asked = λ n v e. not-false (is_unknown q n) (pair_fails (λ n v. not (is_unknown q n)) before.told vs new_names (λ m w i. ap not (kept.asked m w i)) n v e);
        fit = λ n v e. not-false (fits q n v) (pair_fails (λ n v. not (fits q n v)) before.told vs new_kinds (λ m w i. ap not (kept.fit m w i)) n v e);
        context = false_from_ne_true (context_errs by q.context all) (λ e. none Evaluation (inr (shut, before, tree, fs, was, reads, states, (vs, are, e))));
      })

  kept_here : {world : World} → IsToldByCommands by world → (asked : Asked) → world.asked ≡ Some asked → IsKept asked.question asked.told
  kept_here (asks {old = old} {new = new} text answer step) asked now = asks_kept old new text answer step asked now
  kept_here (tells {old = old} {new = new} text answer before step) asked now = tells_kept old new text answer step (λ a e. kept_here before a e) asked now

  -- ---- sessions

  step_opens : (old new : World) (verb : Verb) (text : Text) (reply : Reply) → Step by old verb text reply new → OpensByCommands by old → OpensByCommands by new
  step_opens old new verb text (Refused r) step before = subst (OpensByCommands by) (sym step.1) before
  step_opens old new verb text Done step before = inl (step_laws.edits_close by old new verb text step)
  step_opens old new verb text (Named ids) step before = inl (step_laws.loads_close by old new verb text ids step)
  step_opens old new Ask text (Answered a) step before = inr (asks text a step)
  step_opens old new Tell text (Answered a) step (inr told) = inr (tells text a told step)
  step_opens old new Tell text (Answered a) step (inl none) = absurd (not_none _ (sym none ∙ step.1.4.2))
  step_opens old new verb text (Answered a) step before = absurd step.1

  commands_open : {start end : World} {commands : List Command} {replies : List Reply} → Answers by start commands replies end → OpensByCommands by start → OpensByCommands by end
  commands_open no_command before = before
  commands_open (a_command {old = old} {mid = mid} {verb = verb} {text = text} {reply = reply} step more) before =
      commands_open more (step_opens old mid verb text reply step before)

  frame_opens : (old new : World) (verb : Verb) (body : Text) (reply : Reply) → FrameStep by old verb body reply new → OpensByCommands by old → OpensByCommands by new
  frame_opens old new verb body reply (inl h) before = subst (OpensByCommands by) (sym h.2) before
  frame_opens old new verb body reply (inr (inl h)) before = subst (OpensByCommands by) (sym h.2) before
  frame_opens old new verb body reply (inr (inr h)) before = step_opens old new verb body reply h.1 before

  frames_open : {start end : World} {commands : List Command} {replies : List Reply} → AnswersFrames by start commands replies end → OpensByCommands by start → OpensByCommands by end
  frames_open no_frame before = before
  frames_open (a_frame {old = old} {mid = mid} {verb = verb} {body = body} {reply = reply} step more) before =
      frames_open more (frame_opens old mid verb body reply step before)

pub told_all_is_a_filling : ToldAllIsAFilling
told_all_is_a_filling = record {
  filling = λ by world asked told now all. filled by asked.question asked.told (kept_here by told asked now) all;
  commands = λ by start end commands replies before answers. commands_open by answers before;
  frames = λ by start end commands replies before answers. frames_open by answers before;
}

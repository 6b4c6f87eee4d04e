-- What is kept of the open question, for the policies and entities held; and what it is answered once more is told.
use Rattle.std.proofs.Common.{◌≡◌, ◌⊎◌, inl, inr, ◌<◌, ◌∙◌, sym, ap, subst, refl, ◌≤◌, ℕ, Bool, true, false, true≢false, Option, Some, None, IsSome, is_some, Ok, Err, List, [], ◌∷◌, arith}
use mathlib.Core.Bool.{Bool-set}
use Rattle.std.proofs.Math.Logic.{∥∥₁_elim, ∥∥₁_map}
use Rattle.std.specs.BTreeMap.{BTreeMap}
use Rattle.std.specs.Option.{unwrap_or, option_map}
use Rattle.std.specs.Prelude.{Result}
use Rattle.std.specs.declared.alloc.Global.{Global}
use Rattle.std.specs.declared.rc.RcStr.{RcStr}
use Rattle.cedar_language.specs.Height.{height}
use Rattle.cedar_language.specs.Tree.{Tree}
use Rattle.cedar_language.specs.Uid as uid
use Rattle.cedar_language.specs.Value.{Value, Kind, FailedExtensionFunctionLookup, UnlinkedSlot}
use Rattle.cedar_partial_evaluation.specs.Question.{Extends}
use Rattle.cedar_world.specs.Answer as world
use Rattle.cedar_world.specs.Asking.{Question}
use Rattle.cedar_world.specs.Bodies.{Fields, ask_body, is_restricted, tell_body}
use Rattle.cedar_world.specs.Commands.{Tell, Reply, Answered, Refused}
use Rattle.cedar_world.specs.InForce.{AreInForce, AnswersReadWhatIsInForce}
use Rattle.cedar_world.specs.KnownKinds.{IsOrdinary, IsFound}
use Rattle.cedar_world.specs.Session.{Command, IsReached}
use Rattle.cedar_world.specs.Setting.{Setting, IsBodyWithin, IsBody, BodiesAreOne}
use Rattle.cedar_world.specs.Heights.{Heights, AreHeights}
use Rattle.cedar_world.specs.Question.{names_some, HasOpenContext}
use Rattle.cedar_world.specs.Step.{Step, IsLaterAnswer, SomeInForce, opens}
use Rattle.cedar_world.specs.World.{World, Policies, Entities, in_force, in_force_at}
use Rattle.cedar_grammar.specs.Syntax.{PolicySyntax}
use Rattle.cedar_world.specs.Lookups.{IsAskedBy, AnswersErrOrdinarily}
use Rattle.cedar_world.proofs.Parts.{not_none}
use Rattle.cedar_asking.specs.Answering.{AreOf}
use Rattle.cedar_asking.specs.Answers.{IsSettingOf}
use Rattle.cedar_held.specs.Built.{HoldBuilt}
use Rattle.cedar_held.specs.Shown.{Shows}
use Rattle.cedar_entities.specs.Store.{held_at, is_partial_store, IsClosed}
use Rattle.cedar_asking.specs.Keeping.{AreTold, KeepsQuestion}
use Rattle.cedar_asking.specs.Responses.{AnswersTold}
use Rattle.cedar_asking.specs.TellLaws.{MoreIsTold}
use Rattle.cedar_telling.specs.Tells.{TellMore, told_in}
use Rattle.cedar_entities.specs.declared.store.Entities.{Entities as Store}
use Rattle.cedar_extensions.specs.Table.{Table}
use Rattle.cedar_policy_set.specs.Entries.{Entries}
use Rattle.cedar_replies.specs.Refusals.{refusal_of}
use Rattle.cedar_replies.specs.Replies.{answer_of}
use Rattle.cedar_replies.specs.declared.answer.Answer.{Answer}
use Rattle.cedar_replies.specs.declared.refusal.Refusal.{Refusal}
use Rattle.cedar_replies.specs.declared.refusal.Refusal.TheVariants as refusal
use Rattle.cedar_session.specs.Asking.{body_tree}
use Rattle.cedar_session.specs.Open.{KeepsAsked, KeepsOpen, question_in, nothing_given, bare}
use Rattle.cedar_world.specs.OrdinaryReplies.{AnswersOrdinarily, AnswersToldOrdinarily}
use Rattle.cedar_session.specs.Sessions.{asked_of}
use Rattle.cedar_session.specs.declared.asked.Asked.{Asked}
use Rattle.cedar_session.specs.Lending.{WaitsForNames}
use Rattle.cedar_asking.specs.Waiting.{LeftIsUntold}
use Rattle.cedar_asking.proofs.Waiting.{same_answer, at_each}
use Rattle.cedar_evaluator.specs.Holding.{holding_in}
use Rattle.cedar_session.proofs.LaterProp.{later_prop, same_prop}
use Rattle.cedar_session.proofs.Depths.{grows_too_high}
use Rattle.cedar_session.proofs.Telling.{context_fails, too_deep, no_memory, told}

is_stated : (o : Option Question) → (o ≡ None → ⊥) → o ≡ Some (unwrap_or o nothing_given)
is_stated (Some q) h = refl
is_stated None h = absurd (h refl)

no_two : (x y : ⊥) → x ≡ y
no_two x y = absurd x

ordinary_prop : (k : Kind) (x y : IsOrdinary k) → x ≡ y
ordinary_prop FailedExtensionFunctionLookup x y = absurd x
ordinary_prop UnlinkedSlot x y = absurd x
ordinary_prop _ x y = refl

found_prop : (k : Kind) (x y : IsFound k) → x ≡ y
found_prop FailedExtensionFunctionLookup x y = absurd x
found_prop _ x y = refl

-- ---- what is evaluated once more is told

is_value : {A : Type 0} (o : Option A) → is_some o ≡ true → (x : A) × (o ≡ Some x)
is_value (Some x) h = (x, refl)
is_value None h = cc

below_none : (k : ℕ) → k < 0 → ⊥
below_none k l = omega arith

nothing_evaluates : (held : World) (q : Question) → AreInForce held [] → names_some q.context ≡ false → SomeInForce held ⊎ HasOpenContext q → ⊥
nothing_evaluates held q listed known (inl (id, some)) =
    let (s, force) = is_value (in_force_at held.policies id) some in
    let c = listed.every id s force in
    below_none c.0 c.1
nothing_evaluates held q listed known (inr named) = true≢false (sym named ∙ known)

-- whether something is, is read off the policies in force and the question
evaluates : (held : World) (q : Question) (ps : List (uid.Text × PolicySyntax)) → AreInForce held ps → (b : Bool) → names_some q.context ≡ b
    → ((SomeInForce held ⊎ HasOpenContext q → ⊥) → ⊥) → SomeInForce held ⊎ HasOpenContext q
evaluates held q ps listed true is some = inr is
evaluates held q (p ∷ ps) listed false is some = inl (p.0, subst IsSome (sym (listed.each 0 p (omega arith))) refl)
evaluates held q [] listed false is some = absurd (some (nothing_evaluates held q listed is))

abbrev Map : Type 0
Map = BTreeMap (RcStr Global) Value

-- the store holds the entities of the world, by the functions and the limit of the session
pub record IsStoreOf (by : Setting) (table : Table) (entities : Entities) (s : Store) : Type 0 where
  pub setting : IsSettingOf table by.depth by
  pub shows : Shows (held_at s) entities
  pub closed : IsClosed s
  pub whole : is_partial_store s ≡ false
  pub built : HoldBuilt entities

module _ (by : Setting) (policies : Policies) (entities : Entities) where
  abbrev held : World
  held = bare policies entities

  -- what is held, with an open question
  abbrev pub world_with : Option Asked → World
  world_with o = record { policies = policies; entities = entities; asked = option_map asked_of o }

  -- entities that stay keep it
  pub stays : (new : Entities) → new ≡ entities → (o : Option Asked) → ∥ KeepsOpen by policies entities o ∥₁ → ∥ KeepsOpen by policies new o ∥₁
  stays new same o h = subst (λ (e : Entities). ∥ KeepsOpen by policies e o ∥₁) (sym same) h

  -- an answer to a question that is asked errs as later ones may
  pub asked_ordinarily : AnswersErrOrdinarily → (answer : Answer) → AnswersOrdinarily by held (answer_of answer) → AnswersToldOrdinarily by held (answer_of answer)
  asked_ordinarily law answer ordinary = record {
    finds = λ commands replies reached. law.weaker (answer_of answer) (ordinary commands replies reached);
    without_slots = λ free. ordinary;
  }

  -- what is kept of a question that was just asked
  pub begins : (asked : Asked) (q : Question) (answer : Answer) → ask_body (body_tree asked.body) ≡ Some q → (text : uid.Text) × IsBody by text (body_tree asked.body) → asked.told.entries ≡ [] → asked.answer ≡ answer
      → KeepsQuestion by held q asked.first [] (answer_of answer) → AnswersToldOrdinarily by held (answer_of answer) → KeepsAsked by policies entities asked
  begins asked q answer asks read none same keeps ordinary =
      let is : question_in (body_tree asked.body) ≡ q = ap (λ o. unwrap_or o nothing_given) asks in
      record {
        states = asks ∙ ap Some (sym is);
        read = read;
        keeps =
            subst (λ (p : Question). KeepsQuestion by held p asked.first asked.told.entries (answer_of asked.answer)) (sym is)
            (subst (λ (es : List (RcStr Global × Value)). KeepsQuestion by held q asked.first es (answer_of asked.answer)) (sym none)
            (subst (λ (a : Answer). KeepsQuestion by held q asked.first [] (answer_of a)) (sym same) keeps));
        ordinary = subst (λ (a : Answer). AnswersToldOrdinarily by held (answer_of a)) (sym same) ordinary;
      }

  module _ (asked : Asked) (o : Option Asked) (is : o ≡ Some asked) (steady : ∥ KeepsOpen by policies entities o ∥₁) where
    kept : ∥ KeepsAsked by policies entities asked ∥₁
    kept = subst (λ x. ∥ KeepsOpen by policies entities x ∥₁) is steady

    pub was_open : option_map asked_of o ≡ Some (asked_of asked)
    was_open = ap (option_map asked_of) is

    -- each body that is kept states a question
    pub states : ask_body (body_tree asked.body) ≡ Some (question_in (body_tree asked.body))
    states = is_stated _ (λ none. ∥∥₁_elim kept no_two (λ k. not_none _ (sym none ∙ k.states)))

    abbrev question : Question
    question = question_in (body_tree asked.body)

    -- what an answer once these values are told is said to be
    abbrev Says : Table → Map → Store → Result Answer Refusal → Type 0
    Says table all s result =
        (es : Entries) → KeepsQuestion by held question asked.first asked.told.entries (answer_of asked.answer) → AreOf by held es s table by.depth
        → AreTold question all.entries → Extends (told_in asked.told.entries) (told_in all.entries)
        → AnswersTold by held question asked.first asked.told.entries all.entries (answer_of asked.answer) result

    module _ (lasting : MoreIsTold) (reads : AnswersReadWhatIsInForce) (table : Table) (all : Map) (fs : Fields) (more : TellMore by question (told_in asked.told.entries) fs (told_in all.entries)) (s : Store) (holds : IsStoreOf by table entities s) where
      answered : (result : Result Answer Refusal) → Says table all s result → KeepsAsked by policies entities asked
          → AnswersTold by held question asked.first asked.told.entries all.entries (answer_of asked.answer) result
      answered result says k =
          let are_told = lasting by question asked.told.entries all.entries fs k.keeps.are_told more in
          says k.keeps.response.policies k.keeps
          (record {
            setting = holds.setting;
            slots = k.keeps.response.of.slots;
            names = k.keeps.response.of.names;
            policies = k.keeps.response.of.policies;
            shows = holds.shows;
            closed = holds.closed;
            whole = holds.whole;
            built = holds.built;
          })
          are_told.0 are_told.1

      -- until a name is told that stands in what is left of a policy, it is the last answer
      waits_on : (answer : Answer) → Says table all s (Ok answer) → LeftIsUntold (holding_in asked.first) (told_in all.entries)
          → answer_of answer ≡ answer_of asked.answer
      waits_on answer says still =
          same_answer (answer_of answer) (answer_of asked.answer)
          (∥∥₁_elim kept (same_prop (answer_of answer) (answer_of asked.answer)) (λ k. at_each (answer_of answer) (answer_of asked.answer) ((answered (Ok answer) says k).waits still)))

      later_here : (answer : world.Answer) → IsLaterAnswer by held (asked_of asked) (told_in all.entries) answer → IsLaterAnswer by (world_with o) (asked_of asked) (told_in all.entries) answer
      later_here answer h = ((reads.alike by held (world_with o) (record { entities = refl; policies = λ id. refl })).later (asked_of asked) (told_in all.entries) answer).0 h

      -- the errors are such as those of the last answer
      ordinary_then : AnswersErrOrdinarily → (answer : Answer) → Says table all s (Ok answer) → KeepsAsked by policies entities asked → AnswersToldOrdinarily by held (answer_of answer)
      ordinary_then law answer says k =
          let joins = (answered (Ok answer) says k).joins in
          let asks : IsAskedBy by question = (k.read.0, body_tree asked.body, k.read.1, k.states) in
          record {
            finds = λ commands replies reached.
                law.later by commands replies held reached question asks (told_in all.entries) (answer_of asked.answer) joins.0 (answer_of answer) joins.1 joins.2 (k.ordinary.finds commands replies reached);
            without_slots = λ free commands replies reached.
                law.later_without_slots by commands replies held reached free question asks (told_in all.entries) (answer_of asked.answer) joins.0 (answer_of answer) joins.1 joins.2
                (k.ordinary.without_slots free commands replies reached);
          }

      reached_here : (commands : List Command) (replies : List Reply) → IsReached by commands replies (world_with o) → IsReached by commands replies held
      reached_here commands replies reached = record { policies = reached.policies; entities = reached.entities; links = reached.links; no_cycle = reached.no_cycle }

      pub errs_ordinarily : AnswersErrOrdinarily → (answer : Answer) → Says table all s (Ok answer) → AnswersToldOrdinarily by (world_with o) (answer_of answer)
      errs_ordinarily law answer says = record {
        finds = λ commands replies reached id k e.
            ∥∥₁_elim kept (found_prop k) (λ h. (ordinary_then law answer says h).finds commands replies (reached_here commands replies reached) id k e);
        without_slots = λ free commands replies reached id k e.
            ∥∥₁_elim kept (ordinary_prop k) (λ h. (ordinary_then law answer says h).without_slots free commands replies (reached_here commands replies reached) id k e);
      }

      module _ (answer copy : Answer) (same : copy ≡ answer) (says : Says table all s (Ok answer)) (new : Option Asked) (new_is : new ≡ option_map (λ (a : Asked). record a { told = all; answer = copy }) o) where
        goes_on : new ≡ Some (record asked { told = all; answer = copy })
        goes_on = new_is ∙ ap (option_map (λ (a : Asked). record a { told = all; answer = copy })) is

        pub waits_for_names : WaitsForNames (option_map (λ (a : Asked). a.first) o) (option_map asked_of o) (option_map asked_of new) (answer_of answer)
        waits_for_names =
            subst (λ x. WaitsForNames (option_map (λ (a : Asked). a.first) x) (option_map asked_of x) (option_map asked_of new) (answer_of answer))
            (sym is)
            (subst (λ n. WaitsForNames (Some asked.first) (Some (asked_of asked)) (option_map asked_of n) (answer_of answer)) (sym goes_on) (waits_on answer says))

        -- what is kept then
        pub keeps_on : AnswersErrOrdinarily → ∥ KeepsOpen by policies entities new ∥₁
        keeps_on law =
            subst (λ x. ∥ KeepsOpen by policies entities x ∥₁) (sym goes_on)
            (∥∥₁_map kept (λ k. record {
              states = k.states;
              read = k.read;
              keeps = subst (λ (a : Answer). KeepsQuestion by held question asked.first all.entries (answer_of a)) (sym same) (answered (Ok answer) says k).keeps;
              ordinary = subst (λ (a : Answer). AnswersToldOrdinarily by held (answer_of a)) (sym same) (ordinary_then law answer says k);
            }))

      module _ (text : uid.Text) (once : BodiesAreOne by) (tree : Tree) (is_read : IsBodyWithin by by.depth text tree) (low : height tree ≤ by.depth) (restricted : is_restricted tree ≡ true) (body : tell_body tree ≡ Some fs) where
        module _ (answer copy : Answer) (same : copy ≡ answer) (says : Says table all s (Ok answer)) (new : Option Asked) (new_is : new ≡ option_map (λ (a : Asked). record a { told = all; answer = copy }) o) where
          accepts : Step by (world_with o) Tell text (Answered (answer_of answer)) (opens (world_with o) question (told_in all.entries) (answer_of answer))
          accepts =
              told by (world_with o) text once (asked_of asked) was_open tree is_read low restricted fs body (told_in all.entries) more
              (∥∥₁_elim kept (Bool-set _ _) (λ k. (answered (Ok answer) says k).fine)) (answer_of answer)
              (∥∥₁_elim kept (later_prop by (world_with o) (asked_of asked) (told_in all.entries) (answer_of answer)) (λ k. later_here (answer_of answer) (answered (Ok answer) says k).later))

          pub accepted : Step by (world_with o) Tell text (Answered (answer_of answer)) (world_with new)
          accepted =
              subst (λ n. Step by (world_with o) Tell text (Answered (answer_of answer)) (world_with n)) (sym (goes_on answer copy same says new new_is))
              (subst (λ (a : Answer). Step by (world_with o) Tell text (Answered (answer_of answer)) (opens (world_with o) question (told_in all.entries) (answer_of a))) (sym same) accepts)

        -- what may be written into a condition is the same whether a question is open or not
        heights_here : (h : Heights) → AreHeights by (world_with o) question (told_in all.entries) h → AreHeights by held question (told_in all.entries) h
        heights_here h are = record {
          attribute = are.attribute;
          tag = are.tag;
          function = are.function;
          value_told = are.value_told;
          context = are.context;
        }

        pub refused : (r : Refusal) → Says table all s (Err r) → Step by (world_with o) Tell text (Refused (refusal_of r)) (world_with o)
        refused refusal.Evaluation says =
            context_fails by (world_with o) text once (asked_of asked) was_open tree is_read low restricted fs body (told_in all.entries) more (∥∥₁_elim kept (Bool-set _ _) (answered (Err refusal.Evaluation) says))
        refused refusal.Depth says =
            too_deep by (world_with o) text once (asked_of asked) was_open tree is_read low restricted fs body (told_in all.entries) more
            (evaluates held question (in_force policies) (reads.listed held) (names_some question.context) refl
            (λ none. ∥∥₁_elim kept no_two (λ k. none (answered (Err refusal.Depth) says k).0)))
            (λ h heights. grows_too_high by held question h (in_force policies) (reads.listed held)
            (λ none. ∥∥₁_elim kept no_two (λ k. none ((answered (Err refusal.Depth) says k).1 h (heights_here h heights)))))
        refused refusal.Memory says = no_memory by (world_with o) text once (asked_of asked) was_open tree is_read low restricted fs body (told_in all.entries) more
        refused r says = absurd (∥∥₁_elim kept no_two (answered (Err r) says))

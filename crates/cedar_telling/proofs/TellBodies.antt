-- What is told with a body, or why nothing is, from what its trees are evaluated to.
use Rattle.std.proofs.Common.{◌≡◌, ◌∙◌, ◌<◌, ℕ, ap, sym, subst, Bool, true, false, not, is_some, Some, None, Global, Ok, Err}
use Rattle.std.specs.BTreeMap.{BTreeMap}
use Rattle.std.specs.FinMap as finite
use Rattle.std.specs.Prelude.{Result}
use Rattle.std.specs.declared.rc.RcStr.{RcStr}
use Rattle.cedar_language.specs.Height.{height}
use Rattle.cedar_language.specs.Tree.{Tree}
use Rattle.cedar_language.specs.Value.{Value}
use Rattle.cedar_trees.specs.Bare.{record_tree}
use Rattle.cedar_world.specs.Asking.{Question}
use Rattle.cedar_grammar.specs.UnknownCalls.{holds_call}
use Rattle.cedar_world.specs.Bodies.{Fields, ask_body, tell_body}
use Rattle.cedar_world.specs.Question.{is_unknown}
use Rattle.cedar_world.specs.Refusals.{some_key}
use Rattle.cedar_world.specs.Setting.{Setting}
use Rattle.cedar_world.specs.Values.{some_field}
use Rattle.cedar_entities.specs.Attributes.{seen_entries}
use Rattle.cedar_extensions.specs.Table.{Table}
use Rattle.cedar_replies.specs.declared.refusal.Refusal.{Refusal}
use Rattle.cedar_replies.specs.declared.refusal.Refusal.TheVariants as refusal
use Rattle.cedar_restricted.specs.declared.partial_values.PartialValue.{PartialValue}
use Rattle.cedar_held.specs.Built.{AreBuiltEntries}
use Rattle.cedar_held.specs.Entities.{named_all}
use Rattle.cedar_held.specs.Fields.{Serves, AreValues, AreEvaluated}
use Rattle.cedar_telling.specs.Questions.{question_of}
use Rattle.cedar_telling.specs.declared.questions.AskBody.{AskBody}
use Rattle.cedar_telling.specs.Tells.{told_in, AreFine, AreNamed, AreNew, TellsBody}
use Rattle.cedar_telling.specs.TellSteps.{some_misfit, with_attributes}
use Rattle.cedar_telling.proofs.TellParts.{each_uncalled, record_higher, fields_named, same_keys, all_put, misfits_are, one_portion}

same_question : (p q : Question) → Some p ≡ Some q → p ≡ q
same_question p q e = cc

module _ (told : BTreeMap (RcStr Global) Value) (table : Table) (depth : ℕ) (tree asks : Tree) where
  -- this is what the body tells for the question that is stated
  abbrev pub Answers : Result (BTreeMap (RcStr Global) Value) Refusal → Type 0
  Answers result = (by : Setting) (q : Question) → Serves table by (holds_call tree) → ask_body asks ≡ Some q → TellsBody by q (told_in told.entries) depth tree result

  module _ (fs : Fields) (is : tree ≡ record_tree fs) where
    tells : tell_body tree ≡ Some (named_all fs)
    tells = ap tell_body is ∙ ap Some (fields_named fs)

    serves_fields : (by : Setting) → Serves table by (holds_call tree) → Serves table by (some_field holds_call fs)
    serves_fields by serves = record { functions = serves.functions; held = λ unset. each_uncalled fs (sym (ap holds_call is) ∙ serves.held unset) }

    pub refused : (r : Refusal) → AreEvaluated table depth fs (Err r) → Answers (Err r)
    refused refusal.Evaluation h = λ by q serves a. (named_all fs, tells, h by (serves_fields by serves))
    refused refusal.Depth h = λ by q serves a. subst (λ (t : Tree). depth < height t) (sym is) (record_higher depth fs h)
    refused refusal.Memory h = λ by q serves a. tt
    refused r h = absurd h

    pub not_values : AreEvaluated table depth fs (Ok None) → Answers (Err refusal.NotAValue)
    not_values h by q serves a = let waits = h by (serves_fields by serves) in (named_all fs, tells, (waits.fine, waits.unknown))

    module _ (values : BTreeMap (RcStr Global) PartialValue) (evaluated : AreEvaluated table depth fs (Ok (Some values))) (b : AskBody) (stated : Some (question_of b) ≡ ask_body asks) where
      values_are : (by : Setting) → Serves table by (holds_call tree) → AreValues by fs (seen_entries values.entries)
      values_are by serves = evaluated.are_values by (serves_fields by serves)

      -- what is so of the question that is stated
      of_question : (P : Question → Type 0) (q : Question) → ask_body asks ≡ Some q → P (question_of b) → P q
      of_question P q a h = subst P (same_question (question_of b) q (stated ∙ a)) h

      fine : (by : Setting) (q : Question) → Serves table by (holds_call tree) → AreFine by q (told_in told.entries) (named_all fs)
      fine by q serves = let are = values_are by serves in record { fine = are.fine; known = are.known }

      pub no_unknown : some_key (λ n. not (is_unknown (question_of b) n)) fs ≡ true → Answers (Err refusal.NoSuchUnknown)
      no_unknown h by q serves a = (
        named_all fs,
        tells,
        (fine by q serves, same_keys (λ n. not (is_unknown q n)) fs ∙ of_question (λ p. some_key (λ n. not (is_unknown p n)) fs ≡ true) q a h),
      )

      module _ (known : some_key (λ n. not (is_unknown (question_of b) n)) fs ≡ false) where
        named : (by : Setting) (q : Question) → Serves table by (holds_call tree) → ask_body asks ≡ Some q → AreNamed by q (told_in told.entries) (named_all fs)
        named by q serves a = record {
          fine = fine by q serves;
          named = same_keys (λ n. not (is_unknown q n)) fs ∙ of_question (λ p. some_key (λ n. not (is_unknown p n)) fs ≡ false) q a known;
        }

        pub told_again : some_key (λ n. is_some (finite.get (told_in told.entries) n)) fs ≡ true → Answers (Err refusal.AlreadyTold)
        told_again h by q serves a = (named_all fs, tells, (named by q serves a, same_keys (λ n. is_some (finite.get (told_in told.entries) n)) fs ∙ h))

        module _ (untold : some_key (λ n. is_some (finite.get (told_in told.entries) n)) fs ≡ false) where
          new : (by : Setting) (q : Question) → Serves table by (holds_call tree) → ask_body asks ≡ Some q → AreNew by q (told_in told.entries) (named_all fs)
          new by q serves a = record { named = named by q serves a; new = same_keys (λ n. is_some (finite.get (told_in told.entries) n)) fs ∙ untold }

          misfits : (t : Bool) → some_misfit (question_of b) (seen_entries values.entries) ≡ t → (by : Setting) (q : Question) (serves : Serves table by (holds_call tree)) → ask_body asks ≡ Some q
              → some_misfit q (seen_entries values.entries) ≡ t
          misfits t h by q serves a = of_question (λ p. some_misfit p (seen_entries values.entries) ≡ t) q a h

          pub misfit : some_misfit (question_of b) (seen_entries values.entries) ≡ true → Answers (Err refusal.WrongKind)
          misfit h by q serves a =
              let are = values_are by serves in
              (named_all fs, tells, (new by q serves a, (are.given, are.are, sym (misfits_are q are.given) ∙ ap (some_misfit q) (sym are.seen) ∙ misfits true h by q serves a)))

          pub all_told : some_misfit (question_of b) (seen_entries values.entries) ≡ false → (all : BTreeMap (RcStr Global) Value) → told_in all.entries ≡ with_attributes (told_in told.entries) (seen_entries values.entries) → Answers (Ok all)
          all_told h all put by q serves a =
              let are = values_are by serves in
              let held = evaluated.hold_values in (
                named_all fs,
                tells,
                record {
                  new = new by q serves a;
                  portion = are.given;
                  are = are.are;
                  kinds = sym (misfits_are q are.given) ∙ ap (some_misfit q) (sym are.seen) ∙ misfits false h by q serves a;
                  built = subst AreBuiltEntries (one_portion held.0 are.given (sym held.1 ∙ are.seen)) held.2;
                  all_is = put ∙ ap (with_attributes (told_in told.entries)) are.seen ∙ all_put (told_in told.entries) are.given;
                },
              )

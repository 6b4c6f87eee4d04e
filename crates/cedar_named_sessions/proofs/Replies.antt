-- What the session answers a text, and what it leaves.
use Rattle.std.proofs.Common.{◌≡◌, inl, inr, List, Result, Ok, Err, refl}
use Rattle.std.specs.Prelude.{IsUtf8}
use Rattle.cedar_language.specs.Uid.{Text}
use Rattle.cedar_replies.specs.Replies.{accepted}
use Rattle.cedar_replies.specs.Refusals.{refusal_of}
use Rattle.cedar_replies.specs.declared.answer.Reply.{Reply}
use Rattle.cedar_replies.specs.declared.answer.Reply.TheVariants.{Done, Ids, Answer}
use Rattle.cedar_replies.specs.declared.refusal.Refusal.{Refusal}
use Rattle.cedar_replies.specs.declared.refusal.Refusal.TheVariants as refusal
use Rattle.cedar_world.specs.Answer as world
use Rattle.cedar_world.specs.Commands as commands
use Rattle.cedar_world.specs.Commands.{Verb, Load, Link, Unlink, RemoveStatic, RemoveTemplate, Add, Put, Remove, Ask, Tell}
use Rattle.cedar_world.specs.OrdinaryReplies.{RepliesOrdinarily}
use Rattle.cedar_world.specs.RunText.{BodyStep}
use Rattle.cedar_world.specs.Setting.{Setting}
use Rattle.cedar_world.specs.Step.{Step}
use Rattle.cedar_world.specs.World.{World}
use Rattle.cedar_named_sessions.specs.Loading.{IsTold, TakesAway, EditsEntities, Questions}
use Rattle.cedar_named_sessions.specs.Steps.{Named, States, StatesLink, AnswersByIds, AnswerStep, LinkStep, TakeAwayStep}
use Rattle.cedar_named_sessions.specs.declared.refusals.NamedRefusal.{NamedRefusal}
use Rattle.cedar_named_sessions.specs.declared.refusals.NamedRefusal.TheVariants.{Untold, Refused}

module _ (by : Setting) (old : World) (text : Text) (u : IsUtf8 text) (new : World) where
  pub read_step : (verb : Verb) (reply : commands.Reply) → BodyStep by old verb text reply new → Step by old verb text reply new × RepliesOrdinarily by old reply verb
  read_step verb reply (inl h) = absurd (h.0 u)
  read_step verb reply (inr h) = (h.1, h.2)

  pub refused : (verb : Verb) (r : commands.Refusal) → BodyStep by old verb text (commands.Refused r) new
      → Step by old verb text (commands.Refused r) old × (new ≡ old)
  refused verb r s = let step = (read_step verb (commands.Refused r) s).0 in ((step.0, refl), step.1)

  -- ---- each command is answered in its own way

  pub loaded : (reply : Reply) → BodyStep by old Load text (accepted reply) new → (ids : List Text) × Step by old Load text (commands.Named ids) new
  loaded Done s = absurd ((read_step Load (accepted Done) s).0.1)
  loaded (Ids ids) s = (ids.items, (read_step Load (accepted (Ids ids)) s).0)
  loaded (Answer answer) s = absurd ((read_step Load (accepted (Answer answer)) s).0.1)

  pub linked : (reply : Reply) → BodyStep by old Link text (accepted reply) new → Step by old Link text commands.Done new
  linked Done s = (read_step Link (accepted Done) s).0
  linked (Ids ids) s = absurd ((read_step Link (accepted (Ids ids)) s).0.1)
  linked (Answer answer) s = absurd ((read_step Link (accepted (Answer answer)) s).0.1)

  pub taken_away : (verb : Verb) → TakesAway verb → (reply : Reply) → BodyStep by old verb text (accepted reply) new → Step by old verb text commands.Done new
  taken_away Unlink t Done s = (read_step Unlink (accepted Done) s).0
  taken_away Unlink t (Ids ids) s = absurd ((read_step Unlink (accepted (Ids ids)) s).0.1)
  taken_away Unlink t (Answer answer) s = absurd ((read_step Unlink (accepted (Answer answer)) s).0.1)
  taken_away RemoveStatic t Done s = (read_step RemoveStatic (accepted Done) s).0
  taken_away RemoveStatic t (Ids ids) s = absurd ((read_step RemoveStatic (accepted (Ids ids)) s).0.1)
  taken_away RemoveStatic t (Answer answer) s = absurd ((read_step RemoveStatic (accepted (Answer answer)) s).0.1)
  taken_away RemoveTemplate t Done s = (read_step RemoveTemplate (accepted Done) s).0
  taken_away RemoveTemplate t (Ids ids) s = absurd ((read_step RemoveTemplate (accepted (Ids ids)) s).0.1)
  taken_away RemoveTemplate t (Answer answer) s = absurd ((read_step RemoveTemplate (accepted (Answer answer)) s).0.1)
  taken_away verb t reply s = absurd t

  pub edited : (verb : Verb) → EditsEntities verb → (reply : Reply) → BodyStep by old verb text (accepted reply) new → Step by old verb text commands.Done new
  edited Add t Done s = (read_step Add (accepted Done) s).0
  edited Add t (Ids ids) s = absurd ((read_step Add (accepted (Ids ids)) s).0.1)
  edited Add t (Answer answer) s = absurd ((read_step Add (accepted (Answer answer)) s).0.1)
  edited Put t Done s = (read_step Put (accepted Done) s).0
  edited Put t (Ids ids) s = absurd ((read_step Put (accepted (Ids ids)) s).0.1)
  edited Put t (Answer answer) s = absurd ((read_step Put (accepted (Answer answer)) s).0.1)
  edited Remove t Done s = (read_step Remove (accepted Done) s).0
  edited Remove t (Ids ids) s = absurd ((read_step Remove (accepted (Ids ids)) s).0.1)
  edited Remove t (Answer answer) s = absurd ((read_step Remove (accepted (Answer answer)) s).0.1)
  edited verb t reply s = absurd t

  -- a question is answered by no more and no less than an answer
  pub not_done : (verb : Verb) → Questions verb → BodyStep by old verb text (accepted Done) new → ⊥
  not_done Ask t s = (read_step Ask (accepted Done) s).0.1
  not_done Tell t s = (read_step Tell (accepted Done) s).0.1
  not_done verb t s = absurd t

  pub not_named : (verb : Verb) → Questions verb → (ids : List Text) → BodyStep by old verb text (commands.Named ids) new → ⊥
  not_named Ask t ids s = (read_step Ask (commands.Named ids) s).0.1
  not_named Tell t ids s = (read_step Tell (commands.Named ids) s).0.1
  not_named verb t ids s = absurd t

-- ---- by names

module _ (by : Setting) (old new : Named) (text : Text) where
  by_ids : (verb : Verb) (answer : world.Answer) → BodyStep by old.world verb text (commands.Answered answer) new.world → IsUtf8 text → new.names ≡ old.names
      → AnswersByIds by old verb text answer new
  by_ids verb answer s u same =
      let step = read_step by old.world text u new.world verb (commands.Answered answer) s in (step.0, step.1, same)

  -- an answer that is told by names, or for which memory lacks
  pub told_step : (verb : Verb) (answer : world.Answer) (told : Result world.Answer NamedRefusal) → IsTold old.names answer told
      → BodyStep by old.world verb text (commands.Answered answer) new.world → IsUtf8 text → new.names ≡ old.names → AnswerStep by old verb text told new
  told_step verb answer (Ok told) is s u same = (answer, by_ids verb answer s u same, is)
  told_step verb answer (Err Untold) is s u same = (answer, by_ids verb answer s u same)
  told_step verb answer (Err e) is s u same = absurd is

module _ (by : Setting) (old new : Named) (name id text : Text) where
  -- the session refuses to take away what has the name
  pub not_taken : (verb : Verb) (r : Refusal) → States by old name id text → Step by old.world verb text (commands.Refused (refusal_of r)) old.world → new ≡ old
      → TakeAwayStep by old verb name (Err (Refused r)) new
  not_taken verb refusal.Memory states step same = same
  not_taken verb r states step same = (inr (id, text, states, step), same)

module _ (by : Setting) (old new : Named) (name id json text : Text) where
  -- the session refuses the link
  pub not_linked : (r : Refusal) → StatesLink by old name id json text → Step by old.world Link text (commands.Refused (refusal_of r)) old.world → new ≡ old
      → LinkStep by old name id json (Err (Refused r)) new
  not_linked refusal.Memory states step same = same
  not_linked r states step same = (inr (text, states, step), same)

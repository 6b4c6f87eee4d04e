-- A reply to a text is a step by that text.
use Rattle.std.proofs.Common.{◌≡◌, inl, inr, subst}
use Rattle.std.specs.Prelude.{IsUtf8}
use Rattle.cedar_json_commands.specs.declared.verbs.JsonVerb.{JsonVerb}
use Rattle.cedar_json.specs.declared.reading.Unread.{Unread}
use Rattle.cedar_json.specs.declared.reading.Unread.TheVariants as unread
use Rattle.cedar_json_commands.specs.Verbs.{command_of, SaysAs, SaysNothingAs}
use Rattle.cedar_language.specs.Uid.{Text}
use Rattle.cedar_world.specs.Commands.{Verb, Reply}
use Rattle.cedar_world.specs.RunText.{BodyStep}
use Rattle.cedar_world.specs.Setting.{Setting}
use Rattle.cedar_world.specs.World.{World}
use Rattle.cedar_calls.specs.Steps.{OrdinaryStep, IsUnanswered, unanswered}

module _ (by : Setting) (old : World) (reply : Reply) (new : World) where
  pub read_step : (verb : Verb) (text : Text) → IsUtf8 text → BodyStep by old verb text reply new → OrdinaryStep by old verb text reply new
  read_step verb text u (inl h) = absurd (h.0 u)
  read_step verb text u (inr h) = (h.1, h.2)

  pub said_step : (command : JsonVerb) (json text body : Text) (verb : Verb) → IsUtf8 body → body ≡ text → verb ≡ command_of command → SaysAs command json text
      → BodyStep by old verb body reply new → (x : Text) × SaysAs command json x × OrdinaryStep by old (command_of command) x reply new
  said_step command json text body verb u is same said step =
      let ordinary = subst (λ v. OrdinaryStep by old v body reply new) same (read_step verb body u step) in
      (text, said, subst (λ b. OrdinaryStep by old (command_of command) b reply new) is ordinary)

pub unread_step : (command : JsonVerb) (json : Text) (e : Unread) → SaysNothingAs command json e → IsUnanswered command json (unanswered e)
unread_step command json unread.Memory h = tt
unread_step command json unread.Unsaid h = h

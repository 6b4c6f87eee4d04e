-- What a load leaves whose policies were given their names before.
use Rattle.std.specs.Prelude.{◌≡◌, ⊤, List, map, Result, Ok, Err, Vec}
use Rattle.std.specs.declared.alloc.Global.{Global}
use Rattle.cedar_language.specs.Uid.{Text}
use Rattle.cedar_policy_parts.specs.declared.policy_id.PolicyID.{PolicyID}
use Rattle.cedar_replies.specs.Refusals.{refusal_of}
use Rattle.cedar_replies.specs.declared.refusal.Refusal.{Refusal}
use Rattle.cedar_world.specs.Answer.{Answer}
use Rattle.cedar_world.specs.Commands as commands
use Rattle.cedar_world.specs.Commands.{Verb, Load, Unlink, RemoveStatic, RemoveTemplate, Add, Put, Remove, Ask, Tell}
use Rattle.cedar_world.specs.Setting.{Setting}
use Rattle.cedar_world.specs.Step.{Step}
use Rattle.cedar_world.specs.World.{World}
use Rattle.cedar_named_sessions.specs.NameLists.{Names, name_of}
use Rattle.cedar_named_sessions.specs.Named.{Placed}
use Rattle.cedar_named_sessions.specs.Steps.{named_answer}
use Rattle.cedar_named_sessions.specs.declared.refusals.NamedRefusal.{NamedRefusal}
use Rattle.cedar_named_sessions.specs.declared.refusals.NamedRefusal.TheVariants.{Untold}

abbrev pub LoadsPlaced : Setting → World → Names → Text → Placed → Result (Vec PolicyID Global) Refusal → World → Type 0
LoadsPlaced by old names text ps (Ok told) new =
    (ids : List Text) × Step by old Load text (commands.Named ids) new × (told.items ≡ map (λ p. name_of names p.0) ps)
LoadsPlaced by old names text ps (Err r) new = Step by old Load text (commands.Refused (refusal_of r)) old × (new ≡ old)

-- an answer by names, or that memory lacks for it
abbrev pub IsTold : Names → Answer → Result Answer NamedRefusal → Type 0
IsTold names answer (Ok told) = told ≡ named_answer names answer
IsTold names answer (Err Untold) = ⊤
IsTold names answer (Err _) = ⊥

-- commands that take something away by its name, those that speak of no policy, and those that are answered by ids
abbrev pub TakesAway : Verb → Type 0
TakesAway Unlink = ⊤
TakesAway RemoveStatic = ⊤
TakesAway RemoveTemplate = ⊤
TakesAway verb = ⊥

abbrev pub EditsEntities : Verb → Type 0
EditsEntities Add = ⊤
EditsEntities Put = ⊤
EditsEntities Remove = ⊤
EditsEntities verb = ⊥

abbrev pub Questions : Verb → Type 0
Questions Ask = ⊤
Questions Tell = ⊤
Questions verb = ⊥

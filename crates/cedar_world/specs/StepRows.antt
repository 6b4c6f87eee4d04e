-- Worked rows of whole commands and of a run, under every table of functions and the limit 256.
use Rattle.std.specs.Prelude.{Some, None, [], ◌∷◌, codes}
use Rattle.std.specs.FinMap as map
use Rattle.cedar_language.specs.Answering.{Deny}
use Rattle.cedar_world.specs.Answer.{Answer}
use Rattle.cedar_world.specs.World.{World, Policy, new_world}
use Rattle.cedar_world.specs.Asking.{Missing, NoContext, Question}
use Rattle.cedar_world.specs.Setting.{Setting}
use Rattle.cedar_world.specs.Commands.{Load, Ask, Tell, Text, Shape, NoQuestion, Named, Answered, Refused}
use Rattle.cedar_world.specs.Step.{Step, opens}
use Rattle.cedar_world.specs.RunText.{Clean, RunText}
use Rattle.cedar_world.specs.Rows.{for_all, allowed}

-- nothing is given
abbrev pub all_missing : Question
all_missing = record { principal = Missing None; action = Missing None; resource = Missing None; context = NoContext }

-- deny, without reasons and errors
abbrev pub denied : Answer
denied = record { decision = Some Deny; must = map.empty; may = map.empty; erring = map.empty }

-- one permit, for all
abbrev pub one_policy : World
one_policy = record new_world { policies = map.insert map.empty (codes "policy0") (Policy for_all) }

pub record StepRows (by : Setting) : Type 0 where
  pub asked_first : Step by new_world Ask (codes "{}") (Answered denied) (opens new_world all_missing map.empty denied)
  pub told_first : Step by new_world Tell (codes "{}") (Refused NoQuestion) new_world
  pub no_question : Step by new_world Ask (codes "[]") (Refused Shape) new_world
  pub no_text : Step by new_world Load (codes "\"") (Refused Text) new_world
  pub loaded : Step by new_world Load (codes "permit(principal, action, resource);") (Named (codes "policy0" ∷ [])) one_policy
  pub asked : Step by one_policy Ask (codes "{}") (Answered allowed) (opens one_policy all_missing map.empty allowed)
  -- the same load and question from bytes to bytes
  pub run : RunText by (codes "load 36\npermit(principal, action, resource);\nask 2\n{}\n") new_world
      (codes "ok [\"policy0\"]\nallow must=[\"policy0\"] may=[\"policy0\"] erring=[]\nend\n") Clean (opens one_policy all_missing map.empty allowed)

-- There is one proof at most that an answer is a later one.
use Rattle.std.proofs.Common.{◌≡◌, Option}
use Rattle.std.proofs.Props.{props}
use base.Stored.{coded_unit}
use Rattle.std.specs.Coded.{Coded, coded_list, coded_ℕ}
use Rattle.std.specs.FinMap as finite
use Rattle.cedar_language.specs.Answering.{Decision}
use Rattle.cedar_world.specs.Answer.{Answer, Ids}
use Rattle.cedar_world.specs.Answers.{Follows, IsFair, NamesNoGhosts}
use Rattle.cedar_world.specs.Asking.{Question, Told}
use Rattle.cedar_world.specs.Setting.{Setting}
use Rattle.cedar_world.specs.Step.{IsLaterAnswer}
use Rattle.cedar_world.specs.World.{World, Asked}
use Rattle.cedar_asking.proofs.Waiting.{SameAtEach}

decisions : (x y : Option Decision) → IsProp (x ≡ y)
decisions x y = hlevel props

ids_code : Coded Ids
ids_code = finite.code (coded_list coded_ℕ) coded_unit

pub same_prop : (a b : Answer) → IsProp (SameAtEach a b)
same_prop a b = hlevel props

pub follows_prop : (a b : Answer) → IsProp (Follows a b)
follows_prop a b = hlevel props

pub ghosts_prop : (by : Setting) (world : World) (a : Answer) → IsProp (NamesNoGhosts by world a)
ghosts_prop by world a = hlevel props

pub fair_prop : (by : Setting) (world : World) (q : Question) (told : Told) (a : Answer) → IsProp (IsFair by world q told a)
fair_prop by world q told a = hlevel props

pub later_prop : (by : Setting) (world : World) (asked : Asked) (told : Told) (a : Answer) → IsProp (IsLaterAnswer by world asked told a)
later_prop by world asked told a = hlevel (props, ids_code)

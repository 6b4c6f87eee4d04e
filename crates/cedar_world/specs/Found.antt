-- Answers by what the evaluation of each policy in force answers, which may be more than settles.
use Rattle.std.specs.Prelude.{◌≡◌, Some, List}
use Rattle.std.specs.FinMap as finite
use Rattle.cedar_language.specs.Answering.{Judged}
use Rattle.cedar_language.specs.Tree.{Tree}
use Rattle.cedar_language.specs.Uid.{Text}
use Rattle.cedar_world.specs.Answer.{Answer}
use Rattle.cedar_world.specs.Asking.{Question}
use Rattle.cedar_world.specs.Bodies.{ask_body}
use Rattle.cedar_world.specs.Setting.{Setting, IsBody}
use Rattle.cedar_world.specs.Standing.{StandsEarly, Judges, Says}
use Rattle.cedar_world.specs.World.{World}
use Rattle.cedar_world.specs.WorldFacts.{facts_of}

-- the answer says of each policy in force what its evaluation for the question finds
abbrev pub SaysWhatIsFound : Setting → World → Question → Answer → Type 0
SaysWhatIsFound by world q answer = (js : List Judged) × Judges world (StandsEarly (facts_of by world) q finite.empty) js × Says js answer

-- the same of the question that a text asks
abbrev pub AnswersAsFound : Setting → World → Text → Answer → Type 0
AnswersAsFound by world text answer =
    (q : Question) × (tree : Tree) × IsBody by text tree × (ask_body tree ≡ Some q) × SaysWhatIsFound by world q answer

-- A question that states types of what is missing is answered at least as sharply as the one that states none.
use Rattle.std.specs.Prelude.{None, List}
use Rattle.std.specs.FinMap as finite
use Rattle.cedar_language.specs.Facts.{Facts}
use Rattle.cedar_language.specs.Answering.{Standing, Judged}
use Rattle.cedar_partial_evaluation.specs.Question.{Part, Given, Missing, Question}
use Rattle.cedar_world.specs.Answer.{Answer}
use Rattle.cedar_world.specs.Answers.{HoldsOf}
use Rattle.cedar_world.specs.Standing.{StandsEarly, Judges, Says}
use Rattle.cedar_grammar.specs.Syntax.{PolicySyntax}
use Rattle.cedar_world.specs.World.{World}
use Rattle.cedar_world.specs.Sound.{Becomes}

-- the part, with no type stated
abbrev pub untyped_part : Part → Part
untyped_part (Given u) = Given u
untyped_part (Missing ty) = Missing None

-- the same question, with no types stated
abbrev pub untyped : Question → Question
untyped q = record {
  principal = untyped_part q.principal;
  action = untyped_part q.action;
  resource = untyped_part q.resource;
  context = q.context;
}

pub record TypedQuestionsAreSharper : Type 0 where
  -- a policy that is decided for the question without types is decided alike, kinds of errors aside, for the one with them
  pub stands : (facts : Facts) (q : Question) (s : PolicySyntax) (before now : Standing)
      → StandsEarly facts (untyped q) finite.empty s before → StandsEarly facts q finite.empty s now → Becomes before now
  -- So what the answer to the former says is so in the answer to the latter: a decision stays, what must be a reason must be one and
  -- what errs does, and what can be a reason by the latter can be one by the former.
  pub answers : (world : World) (facts : Facts) (q : Question) (js ks : List Judged) (before now : Answer)
      → Judges world (StandsEarly facts (untyped q) finite.empty) js → Says js before
      → Judges world (StandsEarly facts q finite.empty) ks → Says ks now
      → HoldsOf before now

-- How a line ends that tells how a policy stands.
use Rattle.std.specs.Prelude.{codes}
use Rattle.cedar_language.specs.Uid.{Text}
use Rattle.cedar_authoring.specs.declared.standing.Standing.{Standing}
use Rattle.cedar_authoring.specs.declared.standing.Standing.TheVariants.{Satisfied, NotSatisfied, Errs, Open}

abbrev pub words_of : Standing → Text
words_of Satisfied = codes " is satisfied"
words_of NotSatisfied = codes " is not satisfied"
words_of (Errs error) = codes " errs"
words_of (Open rest) = codes " is open"

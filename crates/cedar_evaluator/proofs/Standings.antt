-- How policies stand by what was found of them.
use Rattle.std.proofs.Common.{◌≡◌, Bool, true, false, sym, ap}
use Rattle.cedar_language.specs.Answering as answering
use Rattle.cedar_language.specs.Answering.{Standing, Judged}
use Rattle.cedar_partial_evaluation.specs.Early.{standing_of_answer}
use Rattle.cedar_partial_evaluation.specs.Partial.{Answer}
use Rattle.cedar_extensions.specs.Failures.{OfKind, LimitMet, MemoryRanOut}
use Rattle.cedar_evaluator.specs.Evaluations.{Found, Satisfied, Unsatisfied, Erred, Open, Finds, Kept}

-- how a policy stands by what was found; a bound that was met stands for nothing
abbrev pub standing_found : Found → Standing
standing_found Satisfied = answering.Satisfied
standing_found Unsatisfied = answering.Unsatisfied
standing_found (Erred (OfKind k)) = answering.Erring k
standing_found (Erred LimitMet) = answering.Unsatisfied
standing_found (Erred MemoryRanOut) = answering.Unsatisfied
standing_found (Open r) = answering.Residual

abbrev pub judged : Kept → Judged
judged k = record { id = k.id; effect = k.effect; standing = standing_found k.found }

-- no bound of the evaluation was met
abbrev pub is_settled : Found → Bool
is_settled (Erred LimitMet) = false
is_settled (Erred MemoryRanOut) = false
is_settled f = true

pub stands_as_found : (b : Answer) (f : Found) → is_settled f ≡ true → Finds b f → standing_found f ≡ standing_of_answer b
stands_as_found b Satisfied s h = sym (ap standing_of_answer h)
stands_as_found b Unsatisfied s h = sym (ap standing_of_answer h)
stands_as_found b (Erred (OfKind k)) s h = sym h
stands_as_found b (Erred LimitMet) s h = cc
stands_as_found b (Erred MemoryRanOut) s h = absurd h
stands_as_found b (Open r) s h = sym (ap standing_of_answer h)

-- The set that was gathered, or why there is none: that a policy means nothing is told by the first error, which else tells of memory.
use Rattle.std.proofs.Common.{option_map, sym, subst}
use Rattle.std.specs.Prelude.{IfErr}
use Rattle.cedar_grammar.specs.Converting.{policies_syntax}
use Rattle.cedar_grammar.specs.Loose as loose
use Rattle.cedar_faults.specs.Converts.{Finds}
use Rattle.cedar_faults.specs.Reasons.{reason}
use Rattle.cedar_faults.specs.Telling.{TellsOnly}
use Rattle.cedar_policy_conversion.specs.Shows.{policies_show}
use Rattle.cedar_policy_set.specs.Texts.{text_entries}
use Rattle.cedar_parser.specs.Errors.{cause_of}
use Rattle.cedar_parser.proofs.Reading.{told_lacks}
use Rattle.cedar_parser.proofs.Faults.{refused_tells}
use Rattle.cedar_parser.proofs.sets.converted.Goals as goal

pub returns-in-Ok-clause-set : goal.returns-in-Ok-clause-set
unfolding policies_syntax
returns-in-Ok-clause-set c names ps are = subst (λ r. Finds (λ set. set) r (option_map (text_entries 0) (policies_syntax names (loose.policies ps)))) (sym c.in-Ok.ensures) are.set

pub returns-in-Err-clause-set : goal.returns-in-Err-clause-set
unfolding policies_syntax
returns-in-Err-clause-set c names ps are =
    let want = option_map (text_entries 0) (policies_syntax names (loose.policies ps)) in
    told_lacks (reason c.in-Err.error) (cause_of c.refused.result.0.head) want c.refused.ensures.cause (subst (λ r. Finds (λ set. set) r want) (sym c.in-Err.ensures) are.set)

pub returns-in-Err-clause-shown : goal.returns-in-Err-clause-shown
returns-in-Err-clause-shown c names ps are =
    let shows = policies_show names (loose.policies ps) in
    refused_tells c.refused.result c.in-Err.error shows c.refused.ensures.faults c.refused.ensures.alone (subst (λ r. IfErr r (λ e. TellsOnly e shows)) (sym c.in-Err.ensures) are.shown)

-- The policies of a text that were gathered so far.
use Rattle.std.specs.Prelude.{List, Result, IfErr}
use Rattle.std.specs.Option.{option_map}
use Rattle.cedar_grammar.specs.Converting.{each, policy_syntax}
use Rattle.cedar_grammar.specs.Loose as loose
use Rattle.cedar_grammar.specs.Names.{Names}
use Rattle.cedar_trees.specs.declared.errors.ExpressionConstructionError.{ExpressionConstructionError}
use Rattle.cedar_faults.specs.declared.errors.ConversionError.{ConversionError}
use Rattle.cedar_faults.specs.Converts.{Finds}
use Rattle.cedar_faults.specs.Telling.{TellsOnly}
use Rattle.cedar_policy_set.specs.Entries.{Entries}
use Rattle.cedar_policy_set.specs.Texts.{text_entries}
use Rattle.cedar_policy_conversion.specs.Shows.{each_policy_shows}
use Rattle.cedar_policy_conversion.specs.declared.gathered.GatheredPolicies.{GatheredPolicies}

-- their set, or why there is none
abbrev pub gathered_set : GatheredPolicies → Result Entries (ConversionError ExpressionConstructionError)
gathered_set policies = policies.set

-- just these were gathered: the set is theirs, and what was told instead, they show
pub record AreGathered (names : Names) (ps : List loose.Policy) (policies : GatheredPolicies) : Type 0 where
  pub set : Finds (λ set. set) (gathered_set policies) (option_map (text_entries 0) (each (policy_syntax names) ps))
  pub shown : IfErr (gathered_set policies) (λ e. TellsOnly e (each_policy_shows names ps))

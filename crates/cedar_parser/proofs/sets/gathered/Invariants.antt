use Rattle.std.proofs.Common.{List}
use Rattle.cedar_grammar.specs.Loose as loose
use Rattle.cedar_loose.specs.Readers.{HasGiven, unread}
use Rattle.cedar_policy_conversion.specs.Gathered.{AreGathered}
use Rattle.cedar_parser.proofs.sets.gathered.Given as goal

-- the policies that were read are those that were gathered
abbrev pub invariant-each : goal.invariant-each
invariant-each l = (ps : List loose.Policy) × HasGiven l.reader l.depth l.text ps × AreGathered l.styles ps l.policies

abbrev pub decreases-each : goal.decreases-each
decreases-each l = unread l.reader

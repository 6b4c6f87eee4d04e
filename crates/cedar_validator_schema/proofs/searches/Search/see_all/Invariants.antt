-- The first keys are seen.
use Rattle.std.proofs.Common.{take}
use Rattle.cedar_validator_schema.specs.Searches.{SeesMore}
use Rattle.cedar_validator_schema.proofs.searches.Search.see_all.Given as goal

abbrev pub invariant-loop-key : goal.invariant-loop-key
invariant-loop-key g l = record { more : SeesMore g.K.PartialEq.eq g.K.Ord.cmp (take l.key-index l.keys) l.fn.self l.self }

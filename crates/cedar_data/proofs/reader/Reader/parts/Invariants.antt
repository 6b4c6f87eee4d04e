-- The entries so far are those of the parts.
use Rattle.std.proofs.Common.{suc, length}
use Rattle.cedar_data.specs.Parts.{part_entries}
use Rattle.cedar_data.proofs.ReadAttributes.{ReadSoFar}
use Rattle.cedar_data.proofs.reader.Reader.parts.Given as goal

abbrev pub invariant-parts : goal.invariant-parts
invariant-parts l = ReadSoFar (suc l.levels) l.initial.self (part_entries l.parts) l.self

abbrev pub decreases-parts : goal.decreases-parts
decreases-parts l = length l.self

-- Each call within braces has one level less; attributes so far are of the entries before those of the rest.
use Rattle.std.proofs.Common.{◌+◌, ◌*◌, length}
use Rattle.cedar_data.specs.Simple.{written_entries}
use Rattle.cedar_data.proofs.ReadAttributes.{ReadSoFar}
use Rattle.cedar_data.proofs.reader.Reader.+simple_value.Given as goal

abbrev pub decreases-simple_value : goal.decreases-simple_value
decreases-simple_value l = 4 * l.levels + 0

abbrev pub decreases-attribute : goal.decreases-attribute
decreases-attribute l = 4 * l.levels + 1

abbrev pub decreases-attributes : goal.decreases-attributes
decreases-attributes l = 4 * l.levels + 2

abbrev pub decreases-simple_record : goal.decreases-simple_record
decreases-simple_record l = 4 * l.levels + 3

abbrev pub invariant-attributes-entries : goal.invariant-attributes-entries
invariant-attributes-entries l = ReadSoFar l.levels l.initial.self (written_entries l.attributes.entries) l.self

abbrev pub decreases-attributes-entries : goal.decreases-attributes-entries
decreases-attributes-entries l = length l.self

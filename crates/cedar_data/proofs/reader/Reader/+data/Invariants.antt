-- Each call within brackets has one level less; items and entries so far stand before those of the rest.
use Rattle.std.proofs.Common.{◌+◌, ◌*◌, length, map}
use Rattle.std.specs.List.{AllByRecursion}
use Rattle.cedar_grammar.specs.Token as token
use Rattle.cedar_grammar.specs.Build.{Keyed}
use Rattle.cedar_grammar.specs.Grammar.{Entry, Within}
use Rattle.cedar_language.specs.Tree.{Tree}
use Rattle.cedar_trees.specs.Bare.{bare, bare_entries}
use Rattle.cedar_data.specs.Classes.{mark_of}
use Rattle.cedar_data.specs.Data.{IsData}
use Rattle.cedar_data.proofs.Lists.{SoFar}
use Rattle.cedar_data.proofs.reader.Reader.+data.Given as goal

abbrev pub decreases-data : goal.decreases-data
decreases-data l = 8 * l.levels + 0

abbrev pub decreases-entry : goal.decreases-entry
decreases-entry l = 8 * l.levels + 1

abbrev pub decreases-entries : goal.decreases-entries
decreases-entries l = 8 * l.levels + 2

abbrev pub decreases-items : goal.decreases-items
decreases-items l = 8 * l.levels + 2

abbrev pub decreases-used : goal.decreases-used
decreases-used l = 8 * l.levels + 3

abbrev pub decreases-named : goal.decreases-named
decreases-named l = 8 * l.levels + 4

abbrev pub decreases-list : goal.decreases-list
decreases-list l = 8 * l.levels + 4

abbrev pub decreases-record : goal.decreases-record
decreases-record l = 8 * l.levels + 4

abbrev pub decreases-operand : goal.decreases-operand
decreases-operand l = 8 * l.levels + 5

abbrev pub invariant-items-items : goal.invariant-items-items
invariant-items-items l = record {
  so_far : SoFar (mark_of l.close) (Within l.styles l.levels) l.initial.self (map bare l.items.items) l.self;
  are_data : AllByRecursion (IsData l.levels) (map bare l.items.items);
}

abbrev pub decreases-items-items : goal.decreases-items-items
decreases-items-items l = length l.self

abbrev pub invariant-entries-entries : goal.invariant-entries-entries
invariant-entries-entries l = record {
  so_far : SoFar token.RightBrace (Entry (Within l.styles l.levels)) l.initial.self (bare_entries l.entries.items) l.self;
  are_data : AllByRecursion (λ (e : Keyed Tree). IsData l.levels e.1) (bare_entries l.entries.items);
}

abbrev pub decreases-entries-entries : goal.decreases-entries-entries
decreases-entries-entries l = length l.self

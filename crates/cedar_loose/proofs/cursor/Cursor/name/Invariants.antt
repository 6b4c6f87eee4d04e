use Rattle.std.proofs.Common.{map, length}
use Rattle.cedar_cst.specs.LeafView.{shown_ident}
use Rattle.cedar_grammar.specs.LooseReading.{name_of}
use Rattle.cedar_loose.proofs.NameLoop.{Words}
use Rattle.cedar_loose.proofs.cursor.Cursor.name.Given as goal

abbrev pub invariant-words : goal.invariant-words
invariant-words l = Words (map shown_ident l.path.items) (shown_ident l.name) l.self (name_of l.fn.self)

abbrev pub decreases-words : goal.decreases-words
decreases-words l = length l.self

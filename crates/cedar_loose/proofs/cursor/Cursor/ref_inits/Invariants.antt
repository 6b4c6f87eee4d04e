use Rattle.std.proofs.Common.{map, length}
use Rattle.cedar_grammar.specs.Token as token
use Rattle.cedar_cst.specs.LeafView.{shown_ref_init}
use Rattle.cedar_grammar.specs.LooseReading.{items_of, ref_init_of}
use Rattle.cedar_loose.proofs.Loops.{Items}
use Rattle.cedar_loose.proofs.cursor.Cursor.ref_inits.Given as goal

abbrev pub invariant-items : goal.invariant-items
invariant-items l = Items token.RightBrace ref_init_of (map shown_ref_init l.items.items) l.self (items_of token.RightBrace ref_init_of l.initial.self)

abbrev pub decreases-items : goal.decreases-items
decreases-items l = length l.self

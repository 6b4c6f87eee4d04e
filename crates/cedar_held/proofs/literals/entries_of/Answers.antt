-- The tree of a record is made of the keys and trees of its map, which are its fields again.
use Rattle.cedar_held.proofs.Keyed.{record_fields, record_is}
use Rattle.cedar_held.proofs.literals.entries_of.Goals as goal

pub returns-in-Record : goal.returns-in-Record
returns-in-Record c = record {
  fields = record_fields c.args.expr.now c.in-Record.entries c.deref.result.now c.in-Record.is c.deref.ensures;
  tree = record_is c.args.expr.now c.in-Record.entries c.deref.result.now c.in-Record.is c.deref.ensures;
}

-- What is found for an id is its new one; without one it keeps its own.
use Rattle.std.specs.Map.{lookup}
use Rattle.cedar_language.specs.Order.{same_text}
use Rattle.cedar_store.proofs.Given.{given_new, given_none}
use Rattle.cedar_store.proofs.renaming.given_id.Goals as goal

pub returns-clause-given : goal.returns-clause-given
returns-clause-given c = given_new c.get.result (lookup (same_text c.args.id.now) c.args.renaming.now) c.args.id.now c.get.ensures

pub returns-clause-none : goal.returns-clause-none
returns-clause-none c = given_none c.get.result (lookup (same_text c.args.id.now) c.args.renaming.now) c.args.id.now c.get.ensures

-- Where nothing is held there is no parent.
use Rattle.std.proofs.Common.{sym, ap, ◌∙◌, option_map}
use Rattle.std.specs.FinSet as set
use Rattle.cedar_language.specs.Order.{uid_cmp}
use Rattle.cedar_entities.specs.Held.{held_of, parents_of}
use Rattle.cedar_entities.proofs.children.is_child.Goals as goal

pub returns-in-None : goal.returns-in-None
returns-in-None c = sym (ap (λ o. set.contains (parents_of (option_map held_of o)) c.args.parent.now) (sym c.in-None.ensures.value) ∙ set.contains-empty uid_cmp c.args.parent.now)

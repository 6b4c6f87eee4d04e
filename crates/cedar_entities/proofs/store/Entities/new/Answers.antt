-- Where nothing is held nothing is kept, and nothing reaches itself.
use Rattle.std.proofs.Common.{ap}
use Rattle.std.specs.Map.{lookup}
use Rattle.std.specs.BTreeMap.{is_at}
use Rattle.cedar_language.specs.Order.{uid_cmp}
use Rattle.cedar_entities.proofs.Closed.{nothing_keeps}
use Rattle.cedar_entities.proofs.Whole.{whole_of_kept}
use Rattle.cedar_entities.proofs.store.Entities.new.Goals as goal

pub invariant_of-result-clause-closed : goal.invariant_of-result-clause-closed
invariant_of-result-clause-closed c = λ _. whole_of_kept _ (nothing_keeps _ (λ uid. ap (lookup (is_at (uid_cmp uid))) c.new.ensures.empty))

pub returns-clause-closed : goal.returns-clause-closed
returns-clause-closed c = nothing_keeps _ (λ uid. ap (lookup (is_at (uid_cmp uid))) c.new.ensures.empty)

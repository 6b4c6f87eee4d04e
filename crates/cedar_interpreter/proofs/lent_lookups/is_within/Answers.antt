-- The entity held has the ancestors that the facts reach.
use Rattle.std.proofs.Common.{◌≡◌, ◌∙◌, ◌||◌, ap, sym, false, rules}
use Rattle.std.specs.FinSet as set
use Rattle.std.specs.Option.{option_copied, option_map_or}
use Rattle.cedar_entities.specs.Data.{ancestors_of}
use Rattle.cedar_language.specs.Order.{same_uid}
use Rattle.cedar_operators.proofs.ByStore.{within_is}
use Rattle.cedar_interpreter.proofs.lent_lookups.is_within.Goals as goal

pub returns-else-eq : goal.returns-else-eq
returns-else-eq c = λ facts has.
    let a = c.args.uid.now in
    let b = c.args.above.now in
    let other : same_uid a b ≡ false = search rules in
    sym (within_is c.args.entities.now facts has a c.held.result c.held.ensures b)
    ∙ ap (λ t. t || option_map_or (λ held. set.contains (ancestors_of held) b) (option_copied c.held.result) false) other ∙ sym c.is_below.ensures

-- What was passed is spelled so, so what is to come decides.
use Rattle.std.proofs.Common.{◌≡◌, drop, map}
use Rattle.cedar_language.specs.Order.{same_name}
use Rattle.cedar_data.proofs.names.are_same.Given as goal

abbrev pub invariant-loop-at : goal.invariant-loop-at
invariant-loop-at l = same_name l.ids (map (λ word. word.now) l.words) ≡ same_name (drop l.at l.ids) (map (λ word. word.now) (drop l.at l.words))

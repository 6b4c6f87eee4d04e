-- Texts of which each stands behind the one before it stand in order.
use Rattle.std.proofs.Common.{◌≡◌, List, [], length, true, refl}
use Rattle.std.specs.List.{AllAdjacentBelow}
use Rattle.std.specs.List.Sorted.{IsStrictlySortedBy}
use Rattle.std.specs.Ordering.{is_lt}
use Rattle.std.specs.declared.cmp.Ordering.{Ordering}
use Rattle.std.specs.declared.cmp.Ordering.TheVariants.{Less, Equal, Greater}
use Rattle.std.proofs.lemmas.Map.Keys.{sorted_from_all_adjacent}
use Rattle.cedar_language.specs.Uid.{Text}
use Rattle.cedar_world.specs.Orders.{text_cmp}
use Rattle.cedar_replies.proofs.Sets.{text_total}

less : (o : Ordering) → true ≡ is_lt o → o ≡ Less
less Less h = refl
less Equal h = cc
less Greater h = cc

pub adjacent_rise : (ids : List Text) → AllAdjacentBelow (λ x y. true ≡ is_lt (text_cmp x y)) ids (length ids) → IsStrictlySortedBy text_cmp ids
adjacent_rise ids h = sorted_from_all_adjacent text_total ids [] (λ k below. less _ (h k [] below))

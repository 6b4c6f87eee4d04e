-- The keys that are left compare as all keys did, since those that were passed are the same in both.
use Rattle.std.proofs.Common.{◌≡◌}
use Rattle.std.specs.Cmp.Lexicographic.{slice_cmp}
use Rattle.cedar_language.specs.Order.{text_cmp}
use Rattle.cedar_values.specs.Kinds.{keys_of}
use Rattle.cedar_values.proofs.values.orders.cmp_keys.Given as goal

abbrev pub invariant-loop-k : goal.invariant-loop-k
invariant-loop-k l =
    goal.iterator-loop-k.can_next l.k-iterator ×
    goal.iterator-loop-k.is_finite l.k-iterator ×
    (slice_cmp text_cmp (keys_of l.a.entries) (keys_of l.b.entries) ≡ slice_cmp text_cmp (keys_of l.k-iterator) (keys_of l.others))

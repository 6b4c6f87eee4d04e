use Rattle.std.proofs.Common.{◌≡◌, ◌++◌, drop, option_map}
use Rattle.cedar_language.specs.Constructing.{bytes_of}
use Rattle.cedar_language.specs.Order.{all_of}
use Rattle.cedar_restricted.proofs.constructing.key_of.Given as goal

-- the bytes that were read, before those that are to come
abbrev pub invariant-loop-long : goal.invariant-loop-long
invariant-loop-long l = option_map (λ bs. l.key.items ++ bs) (bytes_of (all_of (drop l.long-index l.longs))) ≡ bytes_of (all_of l.longs)

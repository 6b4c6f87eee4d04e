use Rattle.std.proofs.Common.{◌≡◌, length}
use Rattle.cedar_closure.specs.Numbers.{AreWithin}
use Rattle.cedar_closure.proofs.ordering.add_source.Given as goal

abbrev pub invariant-loop-target : goal.invariant-loop-target
invariant-loop-target l = record {
  within : AreWithin l.sources.items;
  count : length l.sources.items ≡ length l.fn.sources.items;
}

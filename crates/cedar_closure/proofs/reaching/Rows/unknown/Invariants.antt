use Rattle.std.proofs.Common.{◌≡◌, length}
use Rattle.cedar_closure.proofs.reaching.Rows.unknown.Given as goal

abbrev pub invariant-loop : goal.invariant-loop
invariant-loop l = record {
  counted : length l.rows.items ≡ l.counter;
}

-- Numbers that no policy of a set bears.
use Rattle.std.specs.Prelude.{◌≡◌, ℕ, ◌^◌, ◌<◌, ◌≤◌, false, length}
use Rattle.cedar_grammar.specs.Syntax.{numbered}
use Rattle.cedar_policy_set.specs.Entries.{Entries, is_bound}

-- the numbers from that of the next policy on, as far as they are counted
abbrev pub LeavesFree : Entries → Type 0
LeavesFree es = (n : ℕ) → length es ≤ n → n < 2 ^ 64 → is_bound es (numbered n) ≡ false

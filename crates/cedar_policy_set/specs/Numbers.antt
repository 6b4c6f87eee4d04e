-- What a policy set knows of the ids policy0, policy1, ..
use Rattle.std.specs.Prelude.{◌≡◌, ℕ, ◌-◌, ◌^◌, ◌<◌, ◌≤◌, true, false, Option, Some, None}
use Rattle.std.specs.BTreeSet.{contains}
use Rattle.std.specs.Ordering.{nat_cmp}
use Rattle.cedar_language.specs.Uid.{Text}
use Rattle.cedar_grammar.specs.Syntax.{numbered}
use Rattle.cedar_policy_set.specs.Entries.{Entries, is_bound}
use Rattle.cedar_policy_set.specs.declared.numbers.Numbers.{Numbers}

-- each of policy{from}, .. is bound, up to policy{to}, which need not be
abbrev pub BindsNumbers : Entries → ℕ → ℕ → Type 0
BindsNumbers es from to = (k : ℕ) → from ≤ k → k < to → is_bound es (numbered k) ≡ true

-- the first number from there on whose id isn't bound
pub record IsNextUnbound (es : Entries) (from n : ℕ) : Type 0 where
  pub reached : from ≤ n
  pub small : n < 2 ^ 64 - 1
  pub free : is_bound es (numbered n) ≡ false
  pub passed : BindsNumbers es from n

-- that number with its id; none where each from there on is bound
abbrev pub FindsUnbound : Entries → ℕ → Option (ℕ × Text) → Type 0
FindsUnbound es from None = BindsNumbers es from (2 ^ 64 - 1)
FindsUnbound es from (Some found) = IsNextUnbound es from found.0 × (found.1 ≡ numbered found.0)

-- the number counts as bound
abbrev pub Counts : Numbers → ℕ → Type 0
Counts n k = (k < n.below) × (contains nat_cmp n.freed k ≡ false)

-- what counts as bound is bound
abbrev pub AreBound : Entries → Numbers → Type 0
AreBound es n = (k : ℕ) → Counts n k → is_bound es (numbered k) ≡ true

-- What an index of scopes knows of a policy set.
use Rattle.std.specs.Prelude.{◌≡◌, ⊤, ℕ, ◌<◌, ◌≤◌, List, length, slice_get, Option, Some, None, if◌then◌else◌}
use Rattle.cedar_language.specs.Uid.{Text}
use Rattle.cedar_policy_parts.specs.Bindings.{unbound}
use Rattle.cedar_policy_set.specs.ScopeFinding.{IsFound, covered}
use Rattle.cedar_policy_set.specs.declared.scope_index.index.ScopeIndex.{ScopeIndex}
use Rattle.cedar_policy_set.specs.Entries.{Entry, static_policy, template, link, Entries, is_policy}
use Rattle.cedar_policy_set.specs.Bounds.{entries_of, IsSound}
use Rattle.cedar_policy_set.specs.Numbers.{AreBound}
use Rattle.cedar_policy_set.specs.declared.bounds.BoundKind.{BoundKind}
use Rattle.cedar_policy_set.specs.declared.numbers.Numbers.{Numbers}

-- a policy is found at a position; a template isn't looked for
abbrev pub IsEntryFound : ScopeIndex → ℕ → Entry → Type 0
IsEntryFound x p (static_policy s) = IsFound x p unbound s
IsEntryFound x p (template s) = ⊤
IsEntryFound x p (link t s b) = IsFound x p b s

-- the index covers a beginning of the entries, and each policy there is found
pub record Covers (es : Entries) (x : ScopeIndex) : Type 0 where
  pub within : covered x ≤ length es
  pub found : (p : ℕ) (e : Text × Entry) → p < covered x → slice_get es p ≡ Some e → IsEntryFound x p e.1

-- what stands at a position, if it is a policy
abbrev pub policy_stood : Option (Text × Entry) → Option (Text × Entry)
policy_stood None = None
policy_stood (Some e) = if is_policy e.1 then Some e else None

-- the entries are a policy set's, the numbers that count as bound are bound there, and the index covers a beginning
pub record IsKept (es : List (Text × BoundKind)) (n : Numbers) (x : ScopeIndex) : Type 0 where
  pub sound : IsSound es
  pub counts : AreBound (entries_of es) n
  pub covers : Covers (entries_of es) x

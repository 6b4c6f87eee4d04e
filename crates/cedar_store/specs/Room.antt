-- Why a free number is found.
use Rattle.std.specs.Prelude.{◌≡◌, ℕ, ◌-◌, ◌^◌, ◌<◌, true, List, length}
use Rattle.std.specs.Set.{is_member}
use Rattle.cedar_language.specs.Uid.{Text}
use Rattle.cedar_language.specs.Order.{same_text}
use Rattle.cedar_grammar.specs.Syntax.{numbered}
use Rattle.cedar_policy_set.specs.Entries.{Entries}
use Rattle.cedar_store.specs.Renaming.{is_taken}

-- a list of fewer ids than the counter has numbers holds each id that is bound, and each numbered below `from`
pub record HasRoom (mine theirs : Entries) (from : ℕ) : Type 0 where
  pub used : List Text
  pub few : length used < 2 ^ 64 - 1
  pub bound : (id : Text) → is_taken mine theirs id ≡ true → is_member same_text used id ≡ true
  pub below : (k : ℕ) → k < from → is_member same_text used (numbered k) ≡ true

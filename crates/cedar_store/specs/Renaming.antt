-- What a merge renames: each id that both policy sets bind, and to different things, to the next id policyN that is
-- bound in neither.
use Rattle.std.specs.Prelude.{◌≡◌, ℕ, ◌+◌, ◌^◌, ◌<◌, ◌≤◌, Bool, true, false, ◌||◌, not, List, [], ◌∷◌, filter, unwrap_or}
use Rattle.std.specs.Map.{lookup, keys_of}
use Rattle.std.specs.Option.{option_map_or}
use Rattle.cedar_language.specs.Uid.{Text}
use Rattle.cedar_language.specs.Order.{same_text}
use Rattle.cedar_grammar.specs.Syntax.{numbered}
use Rattle.cedar_policy_set.specs.Entries.{Entry, static_policy, template, link, Entries, bound_at, is_bound}
use Rattle.cedar_policy_set.specs.EntryNodes.{same_entry}

-- new ids by old ones
abbrev pub NewIds : Type 0
NewIds = List (Text × Text)

-- whether an id is bound in either set
abbrev pub is_taken : Entries → Entries → Text → Bool
is_taken mine theirs id = is_bound mine id || is_bound theirs id

-- the first number from this one on whose id is bound in neither set
pub record IsNextFree (mine theirs : Entries) (from n : ℕ) : Type 0 where
  pub reached : from ≤ n
  pub fits : n < 2 ^ 64
  pub free : is_taken mine theirs (numbered n) ≡ false
  pub passed : (k : ℕ) → from ≤ k → k < n → is_taken mine theirs (numbered k) ≡ true

-- whether my set binds the id too, and to something else; no place counts, and links of different templates differ
abbrev pub conflicts : Entries → Text × Entry → Bool
conflicts mine e = option_map_or (λ b. not (same_entry b e.1)) (bound_at mine e.0) false

-- the ids of theirs that conflict with mine, in their order
abbrev pub conflicting : Entries → Entries → List Text
conflicting mine theirs = keys_of (filter (conflicts mine) theirs)

-- these ids get the free numbers from this one on, in turn
abbrev pub Numbers : Entries → Entries → List Text → ℕ → NewIds → Type 0
Numbers mine theirs [] from [] = Unit {0}
Numbers mine theirs [] from (r ∷ renaming) = ⊥
Numbers mine theirs (id ∷ ids) from [] = ⊥
Numbers mine theirs (id ∷ ids) from (r ∷ renaming) = (n : ℕ) × IsNextFree mine theirs from n × (r ≡ (id, numbered n)) × Numbers mine theirs ids (n + 1) renaming

-- The renaming of a merge: exactly the ids that conflict, in their order, counting up from 0. There is one.
abbrev pub IsRenaming : Entries → Entries → NewIds → Type 0
IsRenaming mine theirs renaming = Numbers mine theirs (conflicting mine theirs) 0 renaming

-- the id under which a policy stands after a renaming
abbrev pub new_id : NewIds → Text → Text
new_id renaming id = unwrap_or (lookup (same_text id) renaming) id

-- what an id is bound to after a renaming: a link's template may have a new id
abbrev pub renamed : NewIds → Entry → Entry
renamed renaming (static_policy s) = static_policy s
renamed renaming (template s) = template s
renamed renaming (link t s b) = link (new_id renaming t) s b

-- Where the policies of a set are found by what their scopes name.
use Rattle.std.specs.Prelude.{◌≡◌, ℕ, nat_eq, Bool, true, List, [], Some}
use Rattle.std.specs.BTreeMap.{get}
use Rattle.std.specs.List.{list_any}
use Rattle.std.specs.Option.{option_map_or}
use Rattle.cedar_language.specs.Uid.{Uid}
use Rattle.cedar_language.specs.Order.{text_cmp}
use Rattle.cedar_grammar.specs.Policy.{Policy}
use Rattle.cedar_grammar.specs.Bindings.{Bindings}
use Rattle.cedar_policy_set.specs.ScopeNaming.{named, is_settled, named_action}
use Rattle.cedar_policy_set.specs.ClosedPlaces.{position_of}
use Rattle.cedar_policy_set.specs.declared.scope_index.positions.Positions.{Positions}
use Rattle.cedar_policy_set.specs.declared.scope_index.index.ScopeIndex.{ScopeIndex}

-- the places that are listed under an entity, by its id
abbrev pub positions_at : Positions → Uid → List ℕ
positions_at ps u = option_map_or (λ v. v.items) (get text_cmp ps.by_id u.id) []

-- the places of those policies that are found by no entity
abbrev pub others_of : ScopeIndex → List ℕ
others_of x = x.others.items

-- the positions below this one are covered
abbrev pub covered : ScopeIndex → ℕ
covered x = x.len

-- the position at which now stands what was listed at a place
abbrev pub stands_at : ScopeIndex → ℕ → ℕ
stands_at x t = position_of x.gaps.taken.items t

-- whether a number is one of these
abbrev pub is_listed : List ℕ → ℕ → Bool
is_listed ps p = list_any (nat_eq p) ps

-- each of the ones is one of the others
abbrev pub AreAmong : List ℕ → List ℕ → Type 0
AreAmong ps qs = (p : ℕ) → is_listed ps p ≡ true → is_listed qs p ≡ true

-- A place is listed for a policy with these entities in the places of its slots: among the others, or under an entity
-- that its scope names. By the action or the resource it is found only where no slot of the principal is open, since that
-- one is asked first. A pair is listed under both.
pub data IsListedFor (x : ScopeIndex) (t : ℕ) (b : Bindings) (s : Policy) : Type 0 where
  by_nothing : is_listed (others_of x) t ≡ true → IsListedFor x t b s
  by_principal : (u : Uid) → named b.principal s.principal ≡ Some u → is_listed (positions_at x.principals u) t ≡ true → IsListedFor x t b s
  by_action : (u : Uid) → is_settled b.principal s.principal ≡ true → named_action s.action ≡ Some u → is_listed (positions_at x.actions u) t ≡ true → IsListedFor x t b s
  by_resource : (u : Uid) → is_settled b.principal s.principal ≡ true → named b.resource s.resource ≡ Some u → is_listed (positions_at x.resources u) t ≡ true → IsListedFor x t b s
  by_pair : (u v : Uid) → is_settled b.principal s.principal ≡ true → named b.principal s.principal ≡ Some u → named b.resource s.resource ≡ Some v
      → is_listed (positions_at x.paired_principals u) t ≡ true → is_listed (positions_at x.paired_resources v) t ≡ true → IsListedFor x t b s

-- what stands at a position is found: its place is listed
pub record IsFound (x : ScopeIndex) (p : ℕ) (b : Bindings) (s : Policy) : Type 0 where
  pub place : ℕ
  pub stands : stands_at x place ≡ p
  pub listed : IsListedFor x place b s

-- what is found in the one index is found in the other
abbrev pub KeepsFound : ScopeIndex → ScopeIndex → Type 0
KeepsFound x y = (p : ℕ) (b : Bindings) (s : Policy) → IsFound x p b s → IsFound y p b s

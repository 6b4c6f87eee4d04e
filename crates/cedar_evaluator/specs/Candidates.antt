-- Which policies of a set may be in scope, by their positions.
use Rattle.std.specs.Prelude.{◌≡◌, ◌⊎◌, ℕ, Bool, true, false, List, Option, Some, None}
use Rattle.std.specs.List.{filter_map, slice_get}
use Rattle.std.specs.List.Sorted.{IsStrictlyIncreasing}
use Rattle.std.specs.Option.{option_copied}
use Rattle.cedar_language.specs.Uid.{Text, Uid}
use Rattle.cedar_language.specs.Tree.{Boolean}
use Rattle.cedar_language.specs.Value.{Plain}
use Rattle.cedar_language.specs.Facts.{Facts}
use Rattle.cedar_grammar.specs.Policy.{scope_tree}
use Rattle.cedar_partial_evaluation.specs.Partial.{Evaluated, partial_in}
use Rattle.cedar_entities.specs.declared.store.Entities.{Entities}
use Rattle.cedar_operators.specs.Hierarchy.{is_within_entity}
use Rattle.cedar_operators.specs.Store.{HasFacts}
use Rattle.cedar_evaluator.specs.Asking.{Inquiry, request_held}
use Rattle.cedar_interpreter.specs.declared.given.GivenEntity.{GivenEntity}
use Rattle.cedar_policy_set.specs.Entries.{Entry, Entries, is_policy}
use Rattle.cedar_policy_set.specs.Scopes.{policy_stood}
use Rattle.cedar_policy_set.specs.Texts.{syntax_in}
use Rattle.cedar_policy_set.specs.ScopeFinding.{positions_at, others_of, is_listed, AreAmong}
use Rattle.cedar_policy_set.specs.declared.scope_index.index.ScopeIndex.{ScopeIndex}
use Rattle.cedar_policy_set.specs.declared.scope_index.positions.Positions.{Positions}
use Rattle.cedar_evaluator.specs.Evaluations.{bindings_in}
use Rattle.cedar_evaluator.specs.Scopes.{AreScopesOf}
use Rattle.cedar_evaluator.specs.declared.scopes.Scopes.{Scopes}

-- what is listed under each entity that passes the test is among these
abbrev pub HasListed : Positions → (Uid → Bool) → List ℕ → Type 0
HasListed listed test ps = (u : Uid) → test u ≡ true → AreAmong (positions_at listed u) ps

-- whether an entity that is given is this one, or in it
abbrev pub is_in_given : GivenEntity → Uid → Bool
is_in_given g = is_within_entity g.uid.now (option_copied g.entity)

-- whether it may be, or be in, the entity that is given: where none is, each may
abbrev pub is_in_known : Option GivenEntity → Uid → Bool
is_in_known None u = true
is_in_known (Some g) u = is_in_given g u

-- what an index lists for pairs is among these: by the principal that is given, or by what the resource may be, or be in
abbrev pub HasPaired : ScopeIndex → GivenEntity → Option GivenEntity → List ℕ → Type 0
HasPaired x principal resource ps = HasListed x.paired_principals (is_in_given principal) ps ⊎ HasListed x.paired_resources (is_in_known resource) ps

-- what an index lists under none, under the principal that is given and what it is in, and under what the action and
-- the resource may be, or be in, and what it lists for pairs of these, is among these
pub record HasFound (x : ScopeIndex) (principal : GivenEntity) (action resource : Option GivenEntity) (ps : List ℕ) : Type 0 where
  pub others : AreAmong (others_of x) ps
  pub principals : HasListed x.principals (is_in_given principal) ps
  pub actions : HasListed x.actions (is_in_known action) ps
  pub resources : HasListed x.resources (is_in_known resource) ps
  pub pairs : HasPaired x principal resource ps

-- the scope of a policy is false, by all facts of the store
abbrev pub IsOutOfScope : Inquiry → Entities → Entry → Type 0
IsOutOfScope i store e = (facts : Facts) → HasFacts store facts → partial_in facts (request_held i (bindings_in e)) (scope_tree (syntax_in e)) ≡ Evaluated (Plain (Boolean false))

-- each of these positions is below the next, and a policy that stands at no one of them is out of scope
pub record AreCandidates (i : Inquiry) (store : Entities) (es : Entries) (ps : List ℕ) : Type 0 where
  pub rising : IsStrictlyIncreasing ps
  pub whole : (p : ℕ) (e : Text × Entry) → slice_get es p ≡ Some e → is_policy e.1 ≡ true → (is_listed ps p ≡ true) ⊎ IsOutOfScope i store e.1

-- so it is for each inquiry and store of which these are the scopes
abbrev pub AreCandidatesBy : Scopes → Entries → List ℕ → Type 0
AreCandidatesBy scopes es ps = (i : Inquiry) (store : Entities) → AreScopesOf i store scopes → AreCandidates i store es ps

-- the policies that stand at these positions
abbrev pub policies_at : Entries → List ℕ → Entries
policies_at es ps = filter_map (λ p. policy_stood (slice_get es p)) ps

-- The first case that stands, and what is found in the world of a policy set.
use Rattle.std.proofs.Common.{◌≡◌, ◌∙◌, ◌≤◌, false, cond, sym, ap, true≢false, arith, is_some, Option, None, Some}
use Rattle.std.specs.FinMap as finmap
use Rattle.std.specs.Option.{option_map}
use Rattle.std.specs.Prelude.{IsSome}
use Rattle.cedar_language.specs.Uid.{Text}
use Rattle.cedar_world.specs.Commands.{Refusal, rank}
use Rattle.cedar_grammar.specs.Syntax.{PolicySyntax}
use Rattle.cedar_world.specs.World.{template_of, template_at}
use Rattle.cedar_policy_set.specs.Entries.{Entry, static_policy, template, link, Entries, bound_at}
use Rattle.cedar_policy_set.specs.Refused.{is_template_at}
use Rattle.cedar_held.specs.PolicyWorlds.{world_bound, policies_in, FindsAsWorlds}
use Rattle.cedar_held.specs.PolicyEdits.{IsLeast}
use Rattle.cedar_held.specs.HoldingPolicies.{IsHeld}

pub least : (Cases : Refusal → Type 0) (r : Refusal) → ((s : Refusal) → Cases s → rank r ≤ rank s) → IsLeast Cases r
least Cases r from s below stands = let after : rank r ≤ rank s = from s stands in absurd (omega arith)

pub some_inj : {A : Type 0} (x y : A) → Some x ≡ Some y → x ≡ y
some_inj x y h = cc

pub some_none : {A : Type 0} (x : A) → Some x ≡ None → ⊥
some_none x h = true≢false (ap is_some h)

-- what is bound isn't missing
pub some_missing : {A : Type 0} (o : Option A) → IsSome o → o ≡ None → ⊥
some_missing o is none = true≢false (sym is ∙ ap is_some none)

pub some_is : {A : Type 0} (x : A) (o : Option A) → o ≡ Some x → IsSome o
some_is x o h = ap is_some h

module _ (finds : FindsAsWorlds) (es : Entries) (id : Text) where
  pub found : (o : Option Entry) → bound_at es id ≡ o → finmap.get (policies_in es) id ≡ option_map world_bound o
  found o e = finds es id ∙ ap (option_map world_bound) e

  -- a template of a held set is one of the world
  pub template_there : (s : PolicySyntax) → IsHeld es → bound_at es id ≡ Some (template s) → template_at (policies_in es) id ≡ Some s
  template_there s held names = ap template_of (found (Some (template s)) names) ∙ ap (λ c. cond c (Some s) None) (held.slots.templates id s names)

  -- and what is none isn't one there
  pub no_template_there : IsHeld es → (o : Option Entry) → bound_at es id ≡ o → is_template_at o ≡ false → template_at (policies_in es) id ≡ None
  no_template_there held None h other = ap template_of (found None h)
  no_template_there held (Some (static_policy s)) h other =
      ap template_of (found (Some (static_policy s)) h) ∙ ap (λ c. cond c (Some s) None) (held.slots.policies id s h)
  no_template_there held (Some (template s)) h other = absurd (true≢false other)
  no_template_there held (Some (link t s b)) h other = ap template_of (found (Some (link t s b)) h)

  -- what is bound is bound there
  pub some_there : (o : Option Entry) → bound_at es id ≡ o → IsSome o → IsSome (finmap.get (policies_in es) id)
  some_there None h is = absurd (true≢false (sym is))
  some_there (Some e) h is = some_is (world_bound e) _ (found (Some e) h)

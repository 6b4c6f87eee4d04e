-- The link that a body states, bound.
use Rattle.std.proofs.Common.{◌≡◌, ◌∙◌, ◌≤◌, true, false, cond, not, [], ◌∷◌, ◌++◌, refl, sym, ap, subst, true≢false, arith, is_some, Option, None, Some, Ok, Err}
use Rattle.std.specs.FinMap as finmap
use Rattle.std.specs.Option.{option_map_or}
use Rattle.std.specs.Prelude.{IsSome}
use Rattle.cedar_language.specs.Uid as uid
use Rattle.cedar_world.specs.Bodies.{LinkBody}
use Rattle.cedar_world.specs.Commands as commands
use Rattle.cedar_world.specs.Commands.{rank, NoSuchTemplate, NotTemplate, Arity, IdConflict}
use Rattle.cedar_grammar.specs.Bindings.{binds_exactly}
use Rattle.cedar_world.specs.Refusals.{LinkCases}
use Rattle.cedar_grammar.specs.Syntax.{PolicySyntax}
use Rattle.cedar_world.specs.World.{template_at}
use Rattle.cedar_policies.specs.Policies.{policy_id}
use Rattle.cedar_policies.specs.declared.policies.Policy.{Policy}
use Rattle.cedar_policy_set.specs.Entries.{Entry, template, link, Entries, bound_at, is_bound}
use Rattle.cedar_policy_set.specs.EntryNodes.{same_entry, entries_decide}
use Rattle.cedar_policy_set.specs.Bounds.{policy_entry}
use Rattle.cedar_policy_set.specs.Refused.{in_the_way, taken, clashes, added}
use Rattle.cedar_held.specs.PolicyWorlds.{policies_in, FindsAsWorlds, BindsAsWorlds}
use Rattle.cedar_replies.specs.declared.refusal.Refusal.{Refusal}
use Rattle.cedar_replies.specs.declared.refusal.Refusal.TheVariants as replies
use Rattle.cedar_held.specs.PolicyEdits.{LinksBody}
use Rattle.cedar_held.specs.HoldingPolicies.{IsHeld}
use Rattle.cedar_held.specs.Links.{IsLinkOf, MakesLink}
use Rattle.cedar_held.proofs.Keeping.{held_link}
use Rattle.cedar_held.proofs.Refusing.{least, some_inj, some_none, found, template_there, no_template_there, some_there, some_missing}

-- where a link's template is bound, only its own id is in its way
module _ (es : Entries) (b : LinkBody) (p : Policy) (is : IsLinkOf es b p) where
  no_clash : clashes es b.template is.syntax ≡ false
  no_clash =
      ap (λ (o : Option Entry). option_map_or (λ x. not (same_entry x (template is.syntax))) o false) is.names
      ∙ ap not ((entries_decide (template is.syntax) (template is.syntax)).1 refl)

  already : {A : Type 0} (x y : A) → cond (is_bound es b.template) x y ≡ x
  already x y = ap (λ (o : Option Entry). cond (is_some o) x y) is.names

  linked : Entry
  linked = link b.template is.syntax b.bindings

  pub way : in_the_way es (policy_id p) (policy_entry p) ≡ taken es b.id
  way =
      (λ i. in_the_way es (is.id i) (is.entry i))
      ∙ (λ i. cond (no_clash i) (Some b.template) (taken (already es (es ++ (b.template, template is.syntax) ∷ []) i) b.id))

  pub bound_last : added es (policy_id p) (policy_entry p) ≡ es ++ (b.id, link b.template is.syntax b.bindings) ∷ []
  bound_last =
      (λ i. added es (is.id i) (is.entry i))
      ∙ (λ i. already es (es ++ (b.template, template is.syntax) ∷ []) i ++ (b.id, link b.template is.syntax b.bindings) ∷ [])

free : (es : Entries) (id : uid.Text) → taken es id ≡ None → bound_at es id ≡ None
free es id h = by (bound_at es id) h
  where
    by : (o : Option Entry) → cond (is_some o) (Some id) None ≡ None → o ≡ None
    by None g = refl
    by (Some e) g = absurd (some_none id g)

bound_there : (es : Entries) (id other : uid.Text) → taken es id ≡ Some other → IsSome (bound_at es id)
bound_there es id other h = by (bound_at es id) h
  where
    by : (o : Option Entry) → cond (is_some o) (Some id) None ≡ Some other → IsSome o
    by None g = absurd (some_none other (sym g))
    by (Some e) g = refl

module _ (finds : FindsAsWorlds) (es : Entries) (held : IsHeld es) (b : LinkBody) where
  Cases : commands.Refusal → Type 0
  Cases = LinkCases (policies_in es) b

  -- of a template that is bound
  module _ (s : PolicySyntax) (names : bound_at es b.template ≡ Some (template s)) where
    there : template_at (policies_in es) b.template ≡ Some s
    there = template_there finds es b.template s held names

    not_missing : finmap.get (policies_in es) b.template ≡ None → ⊥
    not_missing h = some_none _ (sym (found finds es b.template (Some (template s)) names) ∙ h)

    not_other : template_at (policies_in es) b.template ≡ None → ⊥
    not_other h = some_none s (sym there ∙ h)

    -- and whose slots are given
    module _ (fits : binds_exactly b.bindings s ≡ true) where
      no_misfit : (r : PolicySyntax) → template_at (policies_in es) b.template ≡ Some r → binds_exactly b.bindings r ≡ false → ⊥
      no_misfit r at h = true≢false (sym fits ∙ ap (binds_exactly b.bindings) (some_inj s r (sym there ∙ at)) ∙ h)

      none_stands : bound_at es b.id ≡ None → (r : commands.Refusal) → LinkCases (policies_in es) b r → ⊥
      none_stands none NoSuchTemplate h = not_missing h
      none_stands none NotTemplate h = not_other h.1
      none_stands none Arity h = no_misfit h.0 h.1 h.2
      none_stands none IdConflict h = some_missing _ h (found finds es b.id None none)
      none_stands none r h = h

      conflict_is_least : (r : commands.Refusal) → LinkCases (policies_in es) b r → 14 ≤ rank r
      conflict_is_least NoSuchTemplate h = absurd (not_missing h)
      conflict_is_least NotTemplate h = absurd (not_other h.1)
      conflict_is_least Arity h = absurd (no_misfit h.0 h.1 h.2)
      conflict_is_least IdConflict h = omega arith
      conflict_is_least r h = absurd h

    arity_is_least : (r : commands.Refusal) → LinkCases (policies_in es) b r → 13 ≤ rank r
    arity_is_least NoSuchTemplate h = absurd (not_missing h)
    arity_is_least NotTemplate h = absurd (not_other h.1)
    arity_is_least Arity h = omega arith
    arity_is_least IdConflict h = omega arith
    arity_is_least r h = absurd h

  other_is_least : IsSome (finmap.get (policies_in es) b.template) → (r : commands.Refusal) → LinkCases (policies_in es) b r → 12 ≤ rank r
  other_is_least is NoSuchTemplate h = absurd (some_missing _ is h)
  other_is_least is NotTemplate h = omega arith
  other_is_least is Arity h = omega arith
  other_is_least is IdConflict h = omega arith
  other_is_least is r h = absurd h

  missing_is_least : (r : commands.Refusal) → LinkCases (policies_in es) b r → 11 ≤ rank r
  missing_is_least NoSuchTemplate h = omega arith
  missing_is_least NotTemplate h = omega arith
  missing_is_least Arity h = omega arith
  missing_is_least IdConflict h = omega arith
  missing_is_least r h = absurd h

  -- ---- what comes of it

  -- no link is made
  pub link_refused : (r : Refusal) → MakesLink es b (Err r) → LinksBody b (policies_in es) (Err r) (policies_in es)
  link_refused replies.NoSuchTemplate h = (found finds es b.template None h, least (LinkCases (policies_in es) b) NoSuchTemplate missing_is_least, refl)
  link_refused replies.NotTemplate h =
      let some = some_there finds es b.template _ refl h.0 in
      ((some, no_template_there finds es b.template held _ refl h.1), least (LinkCases (policies_in es) b) NotTemplate (other_is_least some), refl)
  link_refused replies.Arity h =
      ((h.0, template_there finds es b.template h.0 held h.1, h.2), least (LinkCases (policies_in es) b) Arity (arity_is_least h.0 h.1), refl)
  link_refused replies.Memory h = refl
  link_refused r h = absurd h

  module _ (p : Policy) (is : IsLinkOf es b p) where
    -- its id is bound
    pub link_conflicts : (other : uid.Text) → in_the_way es (policy_id p) (policy_entry p) ≡ Some other → LinksBody b (policies_in es) (Err replies.IdConflict) (policies_in es)
    link_conflicts other h = (
      some_there finds es b.id _ refl (bound_there es b.id other (sym (way es b p is) ∙ h)),
      least (LinkCases (policies_in es) b) IdConflict (conflict_is_least is.syntax is.names is.fits),
      refl,
    )

    -- it is bound
    module _ (new : Entries) (none : in_the_way es (policy_id p) (policy_entry p) ≡ None) (more : new ≡ added es (policy_id p) (policy_entry p)) where
      id_free : bound_at es b.id ≡ None
      id_free = free es b.id (sym (way es b p is) ∙ none)

      pub link_done : BindsAsWorlds → LinksBody b (policies_in es) (Ok tt) (policies_in new)
      link_done binds = (
        none_stands is.syntax is.names is.fits id_free,
        ap policies_in (more ∙ bound_last es b p is) ∙ binds es b.id (link b.template is.syntax b.bindings) id_free,
      )

      pub link_held : IsHeld new
      link_held = subst IsHeld (sym (more ∙ bound_last es b p is)) (held_link es held b.template b.id is.syntax b.bindings is.names)

-- What is taken away.
use Rattle.std.proofs.Common.{◌≡◌, ◌∙◌, ◌≤◌, Bool, true, false, ◌||◌, not, [], ◌∷◌, refl, sym, ap, true≢false, arith, Option, None, Some, Ok, Err}
use Rattle.std.specs.FinMap as finmap
use Rattle.std.specs.List.{AllByRecursion}
use Rattle.std.specs.Prelude.{IsSome}
use Rattle.cedar_language.specs.Uid as uid
use Rattle.cedar_language.specs.Order.{same_text}
use Rattle.cedar_world.specs.Commands as commands
use Rattle.cedar_world.specs.Commands.{rank, NoSuchTemplate, NotTemplate, NotLink, NoSuchPolicy, HasLinks, NotStatic}
use Rattle.cedar_world.specs.Refusals as refusals
use Rattle.cedar_world.specs.Refusals.{UnlinkCases, RemoveStaticCases, RemoveTemplateCases}
use Rattle.cedar_grammar.specs.Bindings.{Bindings}
use Rattle.cedar_grammar.specs.Syntax.{PolicySyntax}
use Rattle.cedar_world.specs.World as world
use Rattle.cedar_world.specs.World.{template_at}
use Rattle.cedar_policy_set.specs.Entries.{Entry, static_policy, template, link, Entries, bound_at, without, IsWhole, is_link_to, has_links}
use Rattle.cedar_policy_set.specs.Refused.{is_template_at, is_link_at, is_static_at, is_policy_at, IsPolicyRefusal}
use Rattle.cedar_policy_set.specs.declared.errors.PolicySetPolicyRemovalError.{PolicySetPolicyRemovalError}
use Rattle.cedar_policy_set.specs.declared.errors.PolicySetPolicyRemovalError.TheVariants.{RemovePolicyNoLinkError, RemovePolicyNoTemplateError, Memory}
use Rattle.cedar_held.specs.PolicyWorlds.{world_bound, policies_in, FindsAsWorlds, RemovesAsWorlds}
use Rattle.cedar_policy_set.proofs.Finding.{same_id, id_itself, any_found}
use Rattle.cedar_replies.specs.declared.refusal.Refusal.TheVariants as replies
use Rattle.cedar_store.proofs.Wholes.{all_of}
use Rattle.cedar_held.specs.PolicyEdits.{UnlinksId, RemovesStatic, RemovesTemplate}
use Rattle.cedar_held.specs.HoldingPolicies.{IsHeld}
use Rattle.cedar_held.proofs.Keeping.{held_without, IsToldBySlots, told_by_slots}
use Rattle.cedar_held.proofs.Refusing.{least, some_inj, some_none, found, template_there, no_template_there, some_there, some_missing}

-- ---- which entries are links and static policies in the world

link_there : (e : Entry) → is_link_at (Some e) ≡ refusals.is_link (world_bound e)
link_there (static_policy s) = refl
link_there (template s) = refl
link_there (link t s b) = refl

static_there : (e : Entry) → IsToldBySlots e → is_static_at (Some e) ≡ refusals.is_static (world_bound e)
static_there (static_policy s) slots = sym (ap not (slots.1 s refl))
static_there (template s) slots = sym (ap not (slots.0 s refl))
static_there (link t s b) slots = refl

-- ---- what isn't removed as a static policy isn't one

not_a_policy : (o : Option Entry) → is_policy_at o ≡ false → is_static_at o ≡ false
not_a_policy None h = refl
not_a_policy (Some (static_policy s)) h = absurd (true≢false h)
not_a_policy (Some (template s)) h = refl
not_a_policy (Some (link t s b)) h = refl

a_link : (o : Option Entry) → is_link_at o ≡ true → is_static_at o ≡ false
a_link None h = refl
a_link (Some (static_policy s)) h = absurd (true≢false (sym h))
a_link (Some (template s)) h = refl
a_link (Some (link t s b)) h = refl

pub not_static : (o : Option Entry) (id : uid.Text) (e : PolicySetPolicyRemovalError) → IsPolicyRefusal o id e → is_static_at o ≡ false
not_static o id (RemovePolicyNoLinkError u) h = not_a_policy o h.1
not_static o id (RemovePolicyNoTemplateError u) h = a_link o h.1
not_static o id (Memory e) h = h

-- ---- links of a template

to_id : (id : uid.Text) (e : Entry) → is_link_to id e ≡ true → (s : PolicySyntax) × (b : Bindings) × (e ≡ link id s b)
to_id id (static_policy s) h = absurd (true≢false (sym h))
to_id id (template s) h = absurd (true≢false (sym h))
to_id id (link t s b) h = (s, b, ap (λ i. link i s b) (same_id t id h))

is_to : (id : uid.Text) (b : Bindings) (e : Entry) → world_bound e ≡ world.Link id b → is_link_to id e ≡ true
is_to id b (static_policy s) h = absurd (cc)
is_to id b (template s) h = absurd (cc)
is_to id b (link u s d) h = let same : u ≡ id = cc in ap (λ i. same_text i id) same ∙ id_itself id

-- where a link names an id, one stands there
named_by : (all es : Entries) (id : uid.Text) → AllByRecursion (λ e. bound_at all e.0 ≡ Some e.1) es → has_links es id ≡ true
    → (k : uid.Text) × (s : PolicySyntax) × (b : Bindings) × (bound_at all k ≡ Some (link id s b))
named_by all [] id stand h = absurd (true≢false (sym h))
named_by all (e ∷ es) id stand h = by (is_link_to id e.1) refl h (named_by all es id stand.1)
  where
    by : (c : Bool) → is_link_to id e.1 ≡ c → (c || has_links es id) ≡ true → (has_links es id ≡ true → (k : uid.Text) × (s : PolicySyntax) × (b : Bindings) × (bound_at all k ≡ Some (link id s b)))
        → (k : uid.Text) × (s : PolicySyntax) × (b : Bindings) × (bound_at all k ≡ Some (link id s b))
    by true is g rest = let to = to_id id e.1 is in (e.0, to.0, to.1, stand.0 ∙ ap Some to.2)
    by false is g rest = rest g

module _ (finds : FindsAsWorlds) (es : Entries) (held : IsHeld es) (whole : IsWhole es) (id : uid.Text) where
  missing : bound_at es id ≡ None → finmap.get (policies_in es) id ≡ None
  missing = found finds es id None

  -- it isn't both bound and not
  there : IsSome (bound_at es id) → finmap.get (policies_in es) id ≡ None → ⊥
  there some none = some_missing _ (some_there finds es id _ refl some) none

  -- ---- links

  linked : (o : Option Entry) → bound_at es id ≡ o → is_link_at o ≡ true → (b : world.Bound) → finmap.get (policies_in es) id ≡ Some b → refusals.is_link b ≡ true
  linked None h is b got = absurd (true≢false (sym is))
  linked (Some e) h is b got = ap refusals.is_link (some_inj b (world_bound e) (sym got ∙ found finds es id (Some e) h)) ∙ sym (link_there e) ∙ is

  unlinked : (o : Option Entry) → bound_at es id ≡ o → IsSome o → is_link_at o ≡ false → UnlinkCases (policies_in es) id NotLink
  unlinked None h some is = absurd (true≢false (sym some))
  unlinked (Some e) h some is = (world_bound e, found finds es id (Some e) h, sym (link_there e) ∙ is)

  some_link : (o : Option Entry) → is_link_at o ≡ true → IsSome o
  some_link None is = absurd (true≢false (sym is))
  some_link (Some e) is = refl

  may_unlink : is_link_at (bound_at es id) ≡ true → (r : commands.Refusal) → UnlinkCases (policies_in es) id r → ⊥
  may_unlink is NotLink h = true≢false (sym (linked _ refl is h.0 h.1) ∙ h.2)
  may_unlink is NoSuchPolicy h = there (some_link _ is) h
  may_unlink is r h = h

  pub unlink_done : RemovesAsWorlds → is_link_at (bound_at es id) ≡ true → UnlinksId id (policies_in es) (Ok tt) (policies_in (without id es))
  unlink_done removes is = (may_unlink is, removes es id whole.distinct)

  pub unlink_missing : bound_at es id ≡ None → UnlinksId id (policies_in es) (Err replies.NoSuchPolicy) (policies_in es)
  unlink_missing none = (missing none, least (UnlinkCases (policies_in es) id) NoSuchPolicy from, refl)
    where
      from : (r : commands.Refusal) → UnlinkCases (policies_in es) id r → 16 ≤ rank r
      from NotLink h = absurd (some_none _ (sym h.1 ∙ missing none))
      from NoSuchPolicy h = omega arith
      from r h = absurd h

  pub unlink_other : IsSome (bound_at es id) → is_link_at (bound_at es id) ≡ false → UnlinksId id (policies_in es) (Err replies.NotLink) (policies_in es)
  unlink_other some is = (unlinked _ refl some is, least (UnlinkCases (policies_in es) id) NotLink from, refl)
    where
      from : (r : commands.Refusal) → UnlinkCases (policies_in es) id r → 15 ≤ rank r
      from NotLink h = omega arith
      from NoSuchPolicy h = omega arith
      from r h = absurd h

  -- ---- static policies

  is_static_there : (e : Entry) → bound_at es id ≡ Some e → is_static_at (Some e) ≡ refusals.is_static (world_bound e)
  is_static_there e h = static_there e (told_by_slots es held id e h)

  static_bound : (o : Option Entry) → bound_at es id ≡ o → is_static_at o ≡ true → (b : world.Bound) → finmap.get (policies_in es) id ≡ Some b → refusals.is_static b ≡ true
  static_bound None h is b got = absurd (true≢false (sym is))
  static_bound (Some e) h is b got = ap refusals.is_static (some_inj b (world_bound e) (sym got ∙ found finds es id (Some e) h)) ∙ sym (is_static_there e h) ∙ is

  other_bound : (o : Option Entry) → bound_at es id ≡ o → IsSome o → is_static_at o ≡ false → RemoveStaticCases (policies_in es) id NotStatic
  other_bound None h some is = absurd (true≢false (sym some))
  other_bound (Some e) h some is = (world_bound e, found finds es id (Some e) h, sym (is_static_there e h) ∙ is)

  some_static : (o : Option Entry) → is_static_at o ≡ true → IsSome o
  some_static None is = absurd (true≢false (sym is))
  some_static (Some e) is = refl

  may_remove_static : is_static_at (bound_at es id) ≡ true → (r : commands.Refusal) → RemoveStaticCases (policies_in es) id r → ⊥
  may_remove_static is NotStatic h = true≢false (sym (static_bound _ refl is h.0 h.1) ∙ h.2)
  may_remove_static is NoSuchPolicy h = there (some_static _ is) h
  may_remove_static is r h = h

  pub static_done : RemovesAsWorlds → is_static_at (bound_at es id) ≡ true → RemovesStatic id (policies_in es) (Ok tt) (policies_in (without id es))
  static_done removes is = (may_remove_static is, removes es id whole.distinct)

  pub static_missing : bound_at es id ≡ None → RemovesStatic id (policies_in es) (Err replies.NoSuchPolicy) (policies_in es)
  static_missing none = (missing none, least (RemoveStaticCases (policies_in es) id) NoSuchPolicy from, refl)
    where
      from : (r : commands.Refusal) → RemoveStaticCases (policies_in es) id r → 16 ≤ rank r
      from NotStatic h = omega arith
      from NoSuchPolicy h = omega arith
      from r h = absurd h

  pub static_other : IsSome (bound_at es id) → is_static_at (bound_at es id) ≡ false → RemovesStatic id (policies_in es) (Err replies.NotStatic) (policies_in es)
  static_other some is = (other_bound _ refl some is, least (RemoveStaticCases (policies_in es) id) NotStatic from, refl)
    where
      from : (r : commands.Refusal) → RemoveStaticCases (policies_in es) id r → 18 ≤ rank r
      from NotStatic h = omega arith
      from NoSuchPolicy h = absurd (there some h)
      from r h = absurd h

  -- ---- templates

  module _ (s : PolicySyntax) (names : bound_at es id ≡ Some (template s)) where
    not_missing : finmap.get (policies_in es) id ≡ None → ⊥
    not_missing h = some_none _ (sym (found finds es id (Some (template s)) names) ∙ h)

    not_other : template_at (policies_in es) id ≡ None → ⊥
    not_other h = some_none s (sym (template_there finds es id s held names) ∙ h)

    -- no link is there where none is here
    not_linked : has_links es id ≡ false → (k : uid.Text) (b : Bindings) → finmap.get (policies_in es) k ≡ Some (world.Link id b) → ⊥
    not_linked none k b got = by (bound_at es k) refl
      where
        by : (o : Option Entry) → bound_at es k ≡ o → ⊥
        by None h = some_none _ (sym got ∙ found finds es k None h)
        by (Some e) h =
            let same = some_inj (world_bound e) (world.Link id b) (sym (found finds es k (Some e) h) ∙ got) in
            true≢false (sym (any_found (is_link_to id) es k e h (is_to id b e same)) ∙ none)

    may_remove : has_links es id ≡ false → (r : commands.Refusal) → RemoveTemplateCases (policies_in es) id r → ⊥
    may_remove none NoSuchTemplate h = not_missing h
    may_remove none NotTemplate h = not_other h.1
    may_remove none HasLinks h = not_linked none h.0 h.1 h.2
    may_remove none r h = h

    pub template_done : RemovesAsWorlds → has_links es id ≡ false → RemovesTemplate id (policies_in es) (Ok tt) (policies_in (without id es))
    template_done removes none = (may_remove none, removes es id whole.distinct)

    linked_is_least : (r : commands.Refusal) → RemoveTemplateCases (policies_in es) id r → 17 ≤ rank r
    linked_is_least NoSuchTemplate h = absurd (not_missing h)
    linked_is_least NotTemplate h = absurd (not_other h.1)
    linked_is_least HasLinks h = omega arith
    linked_is_least r h = absurd h

  template_is_there : (o : Option Entry) → is_template_at o ≡ true → (s : PolicySyntax) × (o ≡ Some (template s))
  template_is_there None is = absurd (true≢false (sym is))
  template_is_there (Some (static_policy s)) is = absurd (true≢false (sym is))
  template_is_there (Some (template s)) is = (s, refl)
  template_is_there (Some (link t s b)) is = absurd (true≢false (sym is))

  pub template_linked : is_template_at (bound_at es id) ≡ true → has_links es id ≡ true → RemovesTemplate id (policies_in es) (Err replies.HasLinks) (policies_in es)
  template_linked is has =
      let at = template_is_there _ is in
      let link = named_by es es id (all_of (λ e. bound_at es e.0 ≡ Some e.1) es whole.distinct (λ k e h. h)) has in
      ((link.0, link.2, found finds es link.0 _ link.3), least (RemoveTemplateCases (policies_in es) id) HasLinks (linked_is_least at.0 at.1), refl)

  pub template_missing : bound_at es id ≡ None → RemovesTemplate id (policies_in es) (Err replies.NoSuchTemplate) (policies_in es)
  template_missing none = (missing none, least (RemoveTemplateCases (policies_in es) id) NoSuchTemplate from, refl)
    where
      from : (r : commands.Refusal) → RemoveTemplateCases (policies_in es) id r → 11 ≤ rank r
      from NoSuchTemplate h = omega arith
      from NotTemplate h = omega arith
      from HasLinks h = omega arith
      from r h = absurd h

  a_policy : (o : Option Entry) → is_policy_at o ≡ true → IsSome o × (is_template_at o ≡ false)
  a_policy None is = absurd (true≢false (sym is))
  a_policy (Some (static_policy s)) is = (refl, refl)
  a_policy (Some (template s)) is = absurd (true≢false (sym is))
  a_policy (Some (link t s b)) is = (refl, refl)

  pub template_other : is_policy_at (bound_at es id) ≡ true → RemovesTemplate id (policies_in es) (Err replies.NotTemplate) (policies_in es)
  template_other is =
      let policy = a_policy _ is in
      ((some_there finds es id _ refl policy.0, no_template_there finds es id held _ refl policy.1), least (RemoveTemplateCases (policies_in es) id) NotTemplate (from policy.0), refl)
    where
      from : IsSome (bound_at es id) → (r : commands.Refusal) → RemoveTemplateCases (policies_in es) id r → 12 ≤ rank r
      from some NoSuchTemplate h = absurd (there some h)
      from some NotTemplate h = omega arith
      from some HasLinks h = omega arith
      from some r h = absurd h

  -- ---- what is left

  pub left_held : IsHeld (without id es)
  left_held = held_without es id whole.distinct held

-- When a policy set refuses an edit.
use Rattle.std.specs.Prelude.{◌≡◌, ◌⊎◌, ⊤, Bool, true, false, ◌++◌, [], ◌∷◌, Option, Some, None, IsSome, if◌then◌else◌, is_some, not, Result, Ok, Err}
use Rattle.std.specs.Option.{option_map_or}
use Rattle.cedar_language.specs.Uid.{Text}
use Rattle.cedar_grammar.specs.Policy.{Policy}
use Rattle.cedar_grammar.specs.Bindings.{Bindings, binds_exactly}
use Rattle.cedar_policies.specs.Linking.{lacking, extra}
use Rattle.cedar_policies.specs.declared.errors.LinkingError as linking
use Rattle.cedar_policies.specs.declared.errors.LinkingError.TheVariants.{ArityError, NoSuchTemplate, PolicyIdConflict, Memory as LinkingMemory}
use Rattle.cedar_policy_set.specs.Entries.{Entry, static_policy, template, link, Entries, bound_at, is_bound, is_policy, is_static, is_link, own_template_at}
use Rattle.cedar_policy_set.specs.EntryNodes.{same_entry}
use Rattle.cedar_policy_set.specs.declared.errors.PolicySetError as adding
use Rattle.cedar_policy_set.specs.declared.errors.PolicySetError.TheVariants.{Occupied, Memory as AddingMemory}
use Rattle.cedar_policy_set.specs.declared.errors.PolicySetGetLinksError as listing
use Rattle.cedar_policy_set.specs.declared.errors.PolicySetGetLinksError.TheVariants.{MissingTemplate, Memory as ListingMemory}
use Rattle.cedar_policy_set.specs.declared.errors.PolicySetUnlinkError as unlinking
use Rattle.cedar_policy_set.specs.declared.errors.PolicySetUnlinkError.TheVariants.{UnlinkingError, NotLinkError, Memory as UnlinkingMemory}
use Rattle.cedar_policy_set.specs.declared.errors.PolicySetTemplateRemovalError as template_removal
use Rattle.cedar_policy_set.specs.declared.errors.PolicySetTemplateRemovalError.TheVariants.{RemovePolicyNoTemplateError as NoTemplate, RemoveTemplateWithLinksError, NotTemplateError, Memory as TemplateMemory}
use Rattle.cedar_policy_set.specs.declared.errors.PolicySetPolicyRemovalError as policy_removal
use Rattle.cedar_policy_set.specs.declared.errors.PolicySetPolicyRemovalError.TheVariants.{RemovePolicyNoLinkError, RemovePolicyNoTemplateError, Memory as PolicyMemory}

-- ---- adding

-- the id is refused for what it is bound to; or there is no memory
abbrev pub IsOccupied : Option Text → adding.PolicySetError → Type 0
IsOccupied taken (Occupied id) = taken ≡ Some id
IsOccupied taken (AddingMemory e) = ⊤

-- the id, where it is bound
abbrev pub taken : Entries → Text → Option Text
taken es id = if is_bound es id then Some id else None

-- the set with a link's template, where its id isn't bound yet
abbrev pub with_template : Entries → Entry → Entries
with_template es (static_policy s) = es
with_template es (template s) = es
with_template es (link t s b) = if is_bound es t then es else es ++ (t, template s) ∷ []

-- whether an id is bound to something else than this template
abbrev pub clashes : Entries → Text → Policy → Bool
clashes es t s = option_map_or (λ e. not (same_entry e (template s))) (bound_at es t) false

-- the id for which an entry isn't added: that of its template, where it is bound to something else, or its own
abbrev pub in_the_way : Entries → Text → Entry → Option Text
in_the_way es id (static_policy s) = taken es id
in_the_way es id (template s) = taken es id
in_the_way es id (link t s b) = if clashes es t s then Some t else taken (with_template es (link t s b)) id

-- an entry comes last, after its template where that is new
abbrev pub added : Entries → Text → Entry → Entries
added es id e = with_template es e ++ (id, e) ∷ []

abbrev pub lacks_template : Entries → Entry → Bool
lacks_template es (static_policy s) = false
lacks_template es (template s) = false
lacks_template es (link t s b) = not (is_bound es t)

abbrev pub StopsAt : Entries → Text × Entry → Result Entries adding.PolicySetError → Type 0
StopsAt es e (Ok set) = ⊥
StopsAt es e (Err error) = IsOccupied (in_the_way es e.0 e.1) error

-- Each of these is added in turn to a set, up to the first that isn't.
abbrev pub AddsAll : Entries → Entries → Result Entries adding.PolicySetError → Type 0
AddsAll es [] (Ok set) = set ≡ es
AddsAll es [] (Err error) = ⊥
AddsAll es (e ∷ more) r = ((in_the_way es e.0 e.1 ≡ None) × AddsAll (added es e.0 e.1) more r) ⊎ StopsAt es e r

-- ---- linking

abbrev pub is_template_at : Option Entry → Bool
is_template_at None = false
is_template_at (Some (static_policy s)) = false
is_template_at (Some (template s)) = true
is_template_at (Some (link t s b)) = false

-- Why an id isn't linked to a template: the template's id isn't bound to one; or it is, and the slots given aren't exactly
-- its slots; or they are, and the id is bound. Or there is no memory.
abbrev pub IsLinkRefusal : Entries → Text → Text → Bindings → linking.LinkingError → Type 0
IsLinkRefusal es t id b (NoSuchTemplate u) = (u ≡ t) × (is_template_at (bound_at es t) ≡ false)
IsLinkRefusal es t id b (ArityError lack more) = (s : Policy) × (bound_at es t ≡ Some (template s)) × (binds_exactly b s ≡ false) × (lack.items ≡ lacking b s) × (more.items ≡ extra b s)
IsLinkRefusal es t id b (PolicyIdConflict u) = (s : Policy) × (bound_at es t ≡ Some (template s)) × (binds_exactly b s ≡ true) × (u ≡ id) × (is_bound es id ≡ true)
IsLinkRefusal es t id b (LinkingMemory e) = ⊤

-- the id is linked to a template
pub record IsLinked (old : Entries) (t id : Text) (b : Bindings) (new : Entries) : Type 0 where
  pub syntax : Policy
  pub names : bound_at old t ≡ Some (template syntax)
  pub fits : binds_exactly b syntax ≡ true
  pub free : is_bound old id ≡ false
  pub bound : new ≡ old ++ (id, link t syntax b) ∷ []

-- ---- removals, of which none takes memory but for the id in its refusal

abbrev pub is_link_at : Option Entry → Bool
is_link_at o = option_map_or is_link o false

abbrev pub is_static_at : Option Entry → Bool
is_static_at o = option_map_or is_static o false

abbrev pub is_policy_at : Option Entry → Bool
is_policy_at o = option_map_or is_policy o false

abbrev pub IsUnlinkRefusal : Option Entry → Text → unlinking.PolicySetUnlinkError → Type 0
IsUnlinkRefusal at id (UnlinkingError u) = (u ≡ id) × (at ≡ None)
IsUnlinkRefusal at id (NotLinkError u) = (u ≡ id) × IsSome at × (is_link_at at ≡ false)
IsUnlinkRefusal at id (UnlinkingMemory e) = is_link_at at ≡ false

abbrev pub IsPolicyRefusal : Option Entry → Text → policy_removal.PolicySetPolicyRemovalError → Type 0
IsPolicyRefusal at id (RemovePolicyNoLinkError u) = (u ≡ id) × (is_policy_at at ≡ false)
IsPolicyRefusal at id (RemovePolicyNoTemplateError u) = (u ≡ id) × (is_link_at at ≡ true)
IsPolicyRefusal at id (PolicyMemory e) = is_static_at at ≡ false

-- the second Boolean says whether a link names the template
abbrev pub IsTemplateRefusal : Option Entry → Bool → Text → template_removal.PolicySetTemplateRemovalError → Type 0
IsTemplateRefusal at linked id (NoTemplate u) = (u ≡ id) × (at ≡ None)
IsTemplateRefusal at linked id (NotTemplateError u) = (u ≡ id) × (is_policy_at at ≡ true)
IsTemplateRefusal at linked id (RemoveTemplateWithLinksError u) = (u ≡ id) × (is_template_at at ≡ true) × (linked ≡ true)
IsTemplateRefusal at linked id (TemplateMemory e) = is_template_at at ≡ true → linked ≡ true

-- ---- the links of a template

-- whether it has a template: its own, or that of a static policy
abbrev pub has_template_at : Option Entry → Bool
has_template_at o = is_some (own_template_at o)

abbrev pub IsListingRefusal : Option Entry → Text → listing.PolicySetGetLinksError → Type 0
IsListingRefusal at id (MissingTemplate u) = (u ≡ id) × (has_template_at at ≡ false)
IsListingRefusal at id (ListingMemory e) = has_template_at at ≡ false

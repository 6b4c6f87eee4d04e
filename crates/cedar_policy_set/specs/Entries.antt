-- What a policy set binds, in the order in which it came. (Cedar language reference, "Policies" and "Policy templates".)
use Rattle.std.specs.Prelude.{◌≡◌, Bool, true, false, List, [], filter, Option, Some, None, is_some, if◌then◌else◌}
use Rattle.std.specs.Map.{lookup, remove_entry, keys_of}
use Rattle.std.specs.List.{IsDistinct, list_any, filter_map}
use Rattle.cedar_language.specs.Uid.{Text}
use Rattle.cedar_language.specs.Order.{same_text}
use Rattle.cedar_grammar.specs.Policy.{Policy, scope_slots}
use Rattle.cedar_grammar.specs.Bindings.{Bindings, binds_exactly}
use Rattle.cedar_grammar.specs.Syntax.{is_template}

-- What an id is bound to: a static policy or a template by its syntax, or a link by its template, which is
-- here with its id and its syntax, and the entities in the places of the slots.
pub data Entry : Type 0 where
  static_policy : Policy → Entry
  template : Policy → Entry
  link : Text → Policy → Bindings → Entry

abbrev pub Entries : Type 0
Entries = List (Text × Entry)

-- what stands at an id
abbrev pub bound_at : Entries → Text → Option Entry
bound_at es id = lookup (same_text id) es

abbrev pub is_bound : Entries → Text → Bool
is_bound es id = is_some (bound_at es id)

-- the set without an id
abbrev pub without : Text → Entries → Entries
without id es = remove_entry (same_text id) es

-- a template's id is bound to this template
abbrev pub HasTemplate : Entries → Text → Policy → Type 0
HasTemplate es id s = bound_at es id ≡ Some (template s)

-- a link names a bound template, the one that it was made of
abbrev pub HasItsTemplate : Entries → Entry → Type 0
HasItsTemplate es (static_policy s) = Unit {0}
HasItsTemplate es (template s) = Unit {0}
HasItsTemplate es (link t s b) = HasTemplate es t s

-- a static policy has no slot in its scope, and a link gives exactly the slots of its template
abbrev pub IsFull : Entry → Type 0
IsFull (static_policy s) = scope_slots s ≡ []
IsFull (template s) = Unit {0}
IsFull (link t s b) = binds_exactly b s ≡ true

-- No id stands twice; each link names a bound template, and gives exactly its slots; a static policy has none in its scope,
-- but may hold one in a clause, where it was made of that clause.
pub record IsWhole (es : Entries) : Type 0 where
  pub distinct : IsDistinct same_text (keys_of es)
  pub templates : (id : Text) (e : Entry) → bound_at es id ≡ Some e → HasItsTemplate es e
  pub full : (id : Text) (e : Entry) → bound_at es id ≡ Some e → IsFull e

-- ---- which entries are policies, templates and links

abbrev pub is_policy : Entry → Bool
is_policy (static_policy s) = true
is_policy (template s) = false
is_policy (link t s b) = true

abbrev pub is_static : Entry → Bool
is_static (static_policy s) = true
is_static (template s) = false
is_static (link t s b) = false

abbrev pub is_link : Entry → Bool
is_link (static_policy s) = false
is_link (template s) = false
is_link (link t s b) = true

abbrev pub is_link_to : Text → Entry → Bool
is_link_to id (static_policy s) = false
is_link_to id (template s) = false
is_link_to id (link t s b) = same_text t id

-- whether a link names this id
abbrev pub has_links : Entries → Text → Bool
has_links es id = list_any (λ e. is_link_to id e.1) es

-- whether it is this static policy, or a link of this template
abbrev pub is_of_template : Text → Text → Entry → Bool
is_of_template id own (static_policy s) = same_text own id
is_of_template id own (template s) = false
is_of_template id own (link t s b) = same_text t id

-- the policies alone
abbrev pub policy_only : Option Entry → Option Entry
policy_only None = None
policy_only (Some e) = if is_policy e then Some e else None

-- a template, or that of a static policy
abbrev pub own_template : Entry → Option Policy
own_template (static_policy s) = Some s
own_template (template s) = Some s
own_template (link t s b) = None

abbrev pub own_template_at : Option Entry → Option Policy
own_template_at None = None
own_template_at (Some e) = own_template e

-- a template that has slots
abbrev pub slotted_template : Entry → Option Policy
slotted_template (static_policy s) = None
slotted_template (template s) = if is_template s then Some s else None
slotted_template (link t s b) = None

-- beside its id
abbrev pub named : Text → Option Policy → Option (Text × Policy)
named id None = None
named id (Some s) = Some (id, s)

-- ---- what readers give

abbrev pub policies_of : Entries → Entries
policies_of es = filter (λ e. is_policy e.1) es

abbrev pub static_policies_of : Entries → Entries
static_policies_of es = filter (λ e. is_static e.1) es

abbrev pub templates_of : Entries → List (Text × Policy)
templates_of es = filter_map (λ e. named e.0 (own_template e.1)) es

abbrev pub slotted_templates_of : Entries → List (Text × Policy)
slotted_templates_of es = filter_map (λ e. named e.0 (slotted_template e.1)) es

-- the ids of the links of a template; that of a static policy, which is its own
abbrev pub links_of : Text → Entries → List Text
links_of id es = keys_of (filter (λ e. is_of_template id e.0 e.1) es)

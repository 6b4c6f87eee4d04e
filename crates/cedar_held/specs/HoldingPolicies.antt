-- Policy sets that a session may hold, and codes of what the world has of them.
use Rattle.std.specs.Prelude.{◌≡◌, true, not, None, List, [], refl}
use Rattle.std.specs.Coded.{Coded, code_by}
use Rattle.std.specs.FinMap as finite
use Rattle.std.specs.List.{list_all}
use Rattle.cedar_language.specs.OrderLaws.{text_code}
use Rattle.cedar_grammar.specs.Calls.{calls_only}
use Rattle.cedar_grammar.specs.Policy.{Permit, anything, any_action}
use Rattle.cedar_grammar.specs.Functions.{is_the_unknown}
use Rattle.cedar_grammar.specs.Syntax.{PolicySyntax, condition}
use Rattle.cedar_world.specs.World as world
use Rattle.cedar_policy_set.specs.Entries.{Entry, static_policy, link, Entries}
use Rattle.cedar_policy_set.specs.EntryNodes.{entry_code}
use Rattle.cedar_policy_set.specs.Texts.{text_entries, AreToldBySlots, NameNoUnknown}
use Rattle.cedar_held.specs.PolicyWorlds.{world_bound}

-- each template has slots, no static policy has any, and nothing names an unknown
pub record IsHeld (es : Entries) : Type 0 where
  pub slots : AreToldBySlots es
  pub names : NameNoUnknown es

-- these are the policies of a text under their own numbers, and none of them names an unknown
pub record IsText (es : Entries) : Type 0 where
  pub policies : List PolicySyntax
  pub are : es ≡ text_entries 0 policies
  pub names : list_all (λ s. calls_only (λ name. not (is_the_unknown name)) (condition s)) policies ≡ true

-- ---- the world's policies, told apart

abbrev for_all : PolicySyntax
for_all = record { effect = Permit; annotations = []; principal = anything; action = any_action; resource = anything; body = None }

-- what an id is bound to as an entry, where it doesn't matter of which syntax a link's template is
abbrev as_entry : world.Bound → Entry
as_entry (world.Policy s) = static_policy s
as_entry (world.Link template bindings) = link template for_all bindings

pub and_back : (b : world.Bound) → world_bound (as_entry b) ≡ b
and_back (world.Policy s) = refl
and_back (world.Link template bindings) = refl

abbrev pub policies_code : Coded world.Policies
policies_code = finite.code text_code (code_by Entry entry_code as_entry world_bound and_back)

-- Which kinds of faults policies and texts of them show: one rule for a kind, at the node where it may be told.
use Rattle.std.specs.Prelude.{◌≡◌, ◌⊎◌, false, List, [], ◌∷◌, Option, Some}
use Rattle.cedar_grammar.specs.Names.{Names}
use Rattle.cedar_grammar.specs.Loose as loose
use Rattle.cedar_grammar.specs.Policy.{Policy, slots}
use Rattle.cedar_grammar.specs.Converting.{policy_syntax}
use Rattle.cedar_grammar.specs.Syntax.{is_template}
use Rattle.cedar_policies.specs.StaticPolicies.{IsFirstSlot}
use Rattle.cedar_faults.specs.declared.kinds.ToASTErrorKind.{ToASTErrorKind}
use Rattle.cedar_faults.specs.declared.kinds.ToASTErrorKind.TheVariants as kinds
use Rattle.cedar_conversion.specs.Shown.{missing_shows}
use Rattle.cedar_policy_conversion.specs.PartsShow.{effect_shows, annotations_show, scope_shows}
use Rattle.cedar_policy_conversion.specs.ClausesShow.{clauses_show}

abbrev pub policy_shows : Names → loose.Policy → ToASTErrorKind → Type 0
policy_shows names loose.missing_policy kind = missing_shows kind
policy_shows names (loose.policy xs w ds cs) kind = effect_shows w kind ⊎ annotations_show xs kind ⊎ scope_shows ds kind ⊎ clauses_show names cs kind

-- of a policy that should have no slot: its first one
abbrev pub slots_show : Option Policy → ToASTErrorKind → Type 0
slots_show (Some p) (kinds.ExpectedStaticPolicy e) = IsFirstSlot (slots p) e.slot.id
slots_show p kind = ⊥

-- of a policy that should have one
abbrev pub no_slots_show : Option Policy → ToASTErrorKind → Type 0
no_slots_show (Some p) (kinds.ExpectedTemplate e) = is_template p ≡ false
no_slots_show p kind = ⊥

abbrev pub static_policy_shows : Names → loose.Policy → ToASTErrorKind → Type 0
static_policy_shows names p kind = policy_shows names p kind ⊎ slots_show (policy_syntax names p) kind

abbrev pub template_shows : Names → loose.Policy → ToASTErrorKind → Type 0
template_shows names p kind = policy_shows names p kind ⊎ no_slots_show (policy_syntax names p) kind

abbrev pub each_policy_shows : Names → List loose.Policy → ToASTErrorKind → Type 0
each_policy_shows names [] kind = ⊥
each_policy_shows names (p ∷ ps) kind = policy_shows names p kind ⊎ each_policy_shows names ps kind

abbrev pub policies_show : Names → loose.Policies → ToASTErrorKind → Type 0
policies_show names loose.missing_policies kind = missing_shows kind
policies_show names (loose.policies ps) kind = each_policy_shows names ps kind

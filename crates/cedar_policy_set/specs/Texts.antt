-- The policies of a text as entries of a policy set, and what a set has of them. (Cedar language reference, "Policies".)
use Rattle.std.specs.Prelude.{◌≡◌, ℕ, suc, true, false, not, List, [], ◌∷◌, Some, if◌then◌else◌}
use Rattle.cedar_language.specs.Tree.{Tree}
use Rattle.cedar_language.specs.Uid.{Text}
use Rattle.cedar_grammar.specs.Calls.{calls_only}
use Rattle.cedar_grammar.specs.Policy.{Policy, condition}
use Rattle.cedar_grammar.specs.Functions.{is_the_unknown}
use Rattle.cedar_grammar.specs.Syntax.{is_template, numbered}
use Rattle.cedar_policy_set.specs.Entries.{Entry, static_policy, template, link, Entries, bound_at}

abbrev pub text_entry : Policy → Entry
text_entry s = if is_template s then template s else static_policy s

-- the policies of a text under their own numbers, from its i-th on
abbrev pub text_entries : ℕ → List Policy → Entries
text_entries i [] = []
text_entries i (s ∷ ss) = (numbered i, text_entry s) ∷ text_entries (suc i) ss

-- what isn't a link is a template where it has slots, and a static policy where it has none
pub record AreToldBySlots (es : Entries) : Type 0 where
  pub templates : (id : Text) (s : Policy) → bound_at es id ≡ Some (template s) → is_template s ≡ true
  pub policies : (id : Text) (s : Policy) → bound_at es id ≡ Some (static_policy s) → is_template s ≡ false

-- the syntax of a policy or template; of a link, that of its template
abbrev pub syntax_in : Entry → Policy
syntax_in (static_policy s) = s
syntax_in (template s) = s
syntax_in (link t s b) = s

-- the condition of a policy or template; of a link, that of its template, whose slots stand there
abbrev pub condition_in : Entry → Tree
condition_in e = condition (syntax_in e)

-- no unknown stands in a condition of the set, and none calls the function by which one is named
abbrev pub NameNoUnknown : Entries → Type 0
NameNoUnknown es = (id : Text) (e : Entry) → bound_at es id ≡ Some e → calls_only (λ name. not (is_the_unknown name)) (condition_in e) ≡ true

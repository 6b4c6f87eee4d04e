-- What a text of policies is read as, or why it is refused.
use Rattle.std.specs.Prelude.{◌≡◌, ◌<◌, ⊤, ℕ, true, not, List, Result, Ok, Err}
use Rattle.std.specs.List.{list_all}
use Rattle.cedar_language.specs.Uid.{Text}
use Rattle.cedar_grammar.specs.Calls.{calls_only}
use Rattle.cedar_grammar.specs.Names.{Names}
use Rattle.cedar_grammar.specs.Nesting.{loose_nesting}
use Rattle.cedar_grammar.specs.Policies.{Reads}
use Rattle.cedar_grammar.specs.Policy.{Policy}
use Rattle.cedar_grammar.specs.Functions.{is_the_unknown}
use Rattle.cedar_world.specs.Setting.{Setting, ArePoliciesWithin, ArePolicies, PoliciesNestWithin}
use Rattle.cedar_grammar.specs.Syntax.{PolicySyntax, condition}
use Rattle.cedar_policy_set.specs.Entries.{Entries}
use Rattle.cedar_policy_set.specs.Texts.{text_entries}
use Rattle.cedar_replies.specs.declared.refusal.Refusal.{Refusal}
use Rattle.cedar_replies.specs.declared.refusal.Refusal.TheVariants as refusal

module _ (by : Setting) (text : Text) where
  abbrev pub ReadsPolicies : Result Entries Refusal → Type 0
  ReadsPolicies (Ok es) = (ss : List PolicySyntax) × ArePoliciesWithin by by.depth text ss × (es ≡ text_entries 0 ss)
  ReadsPolicies (Err refusal.Text) = (ss : List PolicySyntax) → ArePolicies by text ss → ⊥
  ReadsPolicies (Err refusal.Depth) = PoliciesNestWithin by by.depth text → ⊥
  ReadsPolicies (Err refusal.Memory) = Unit {0}
  ReadsPolicies (Err _) = ⊥

-- these are policies under their numbers, no unknown stands in a condition of theirs, and none calls the function by which one is named
abbrev pub CallNoUnknown : Entries → Type 0
CallNoUnknown es = (ss : List PolicySyntax) × (es ≡ text_entries 0 ss) × (list_all (λ s. calls_only (λ name. not (is_the_unknown name)) (condition s)) ss ≡ true)

-- the policies of the text, under their numbers, or what a command is refused by
abbrev pub ReadsSet : Names → ℕ → Text → Result Entries Refusal → Type 0
ReadsSet names n text (Ok es) = (ss : List Policy) × Reads names n text ss × (es ≡ text_entries 0 ss)
ReadsSet names n text (Err refusal.Text) = (m : ℕ) (ss : List Policy) → Reads names m text ss → ⊥
ReadsSet names n text (Err refusal.Depth) = ((ss : List Policy) → Reads names n text ss → ⊥) × (n < loose_nesting text)
ReadsSet names n text (Err refusal.Memory) = ⊤
ReadsSet names n text (Err _) = ⊥

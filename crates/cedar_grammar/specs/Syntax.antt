-- Policies of a text, templates and static ones, and the ids under which they stand there.
-- (Cedar language reference, "Policy syntax" and "Policy templates".)
use Rattle.std.specs.Prelude.{ℕ, Bool, true, false, List, [], ◌∷◌, ◌++◌, codes, decimal}
use Rattle.std.specs.List.{list_any}
use Rattle.cedar_language.specs.Uid.{Text}
use Rattle.cedar_language.specs.Tree.{SlotId}
use Rattle.cedar_grammar.specs.Policy.{Policy, slots}
pub use Rattle.cedar_grammar.specs.Policy.{condition, is_slot}

-- Two texts of policies are the same thing where their syntax is equal.
abbrev pub PolicySyntax : Type 0
PolicySyntax = Policy

abbrev pub has_slot : PolicySyntax → SlotId → Bool
has_slot s slot = list_any (is_slot slot) (slots s)

abbrev pub are_some : List SlotId → Bool
are_some [] = false
are_some (s ∷ ss) = true

-- a template has a slot, and a static policy has none
abbrev pub is_template : PolicySyntax → Bool
is_template s = are_some (slots s)

-- policy0, policy1, ..
abbrev pub numbered : ℕ → Text
numbered n = codes "policy" ++ decimal n

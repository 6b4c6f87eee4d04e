-- The parts of a question that are read by now, by the entries that write them.
use Rattle.std.specs.Prelude.{ℕ, Option, Some, None, option_map, List, [], ◌∷◌, ◌++◌, codes}
use Rattle.cedar_language.specs.Tree.{Tree, Lit, Entity}
use Rattle.cedar_language.specs.Uid.{Text}
use Rattle.cedar_grammar.specs.Build.{Keyed}
use Rattle.cedar_data.specs.Simple.{tree_of, record_value}
use Rattle.cedar_data.specs.Questions.{AddsEntry, ReadsByKey}
use Rattle.cedar_data.specs.declared.question.Parts.{Parts}

-- the entry of this key, where there is one
abbrev pub entry_at : Text → Option Tree → List (Keyed Tree)
entry_at key None = []
entry_at key (Some t) = (key, t) ∷ []

-- the entries of an action, a context, a principal and a resource, by their keys
abbrev pub entries_with : Option Tree → Option Tree → Option Tree → Option Tree → List (Keyed Tree)
entries_with a c p r = entry_at (codes "action") a ++ (entry_at (codes "context") c ++ (entry_at (codes "principal") p ++ entry_at (codes "resource") r))

abbrev pub part_entries : Parts → List (Keyed Tree)
part_entries parts =
    entries_with (option_map (λ u. Lit (Entity u.value)) parts.action) (option_map (λ m. tree_of (record_value m.value.entries)) parts.context)
    (option_map (λ u. Lit (Entity u.value)) parts.principal) (option_map (λ u. Lit (Entity u.value)) parts.resource)

-- the text begins with the entry of a part that isn't among these, which is put there
abbrev pub AddsPart : ℕ → Text → Parts → Parts → Text → Type 0
AddsPart n bytes old new rest = AddsEntry n bytes (part_entries old) (part_entries new) rest

-- the text begins with the entries of these parts, up to the closing brace
abbrev pub ReadsParts : ℕ → Text → Parts → Text → Type 0
ReadsParts n bytes parts rest = ReadsByKey n bytes (part_entries parts) rest

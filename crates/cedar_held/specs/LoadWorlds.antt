-- A merge with the policies of a text is the world's load of that text.
use Rattle.std.specs.Prelude.{◌^◌, ◌≤◌, List, map, length}
use Rattle.cedar_grammar.specs.Syntax.{PolicySyntax}
use Rattle.cedar_world.specs.PolicyEdits.{own_ids, Loads}
use Rattle.cedar_policy_set.specs.Entries.{Entries, IsWhole}
use Rattle.cedar_policy_set.specs.Texts.{text_entries, AreToldBySlots}
use Rattle.cedar_held.specs.PolicyWorlds.{policies_in}
use Rattle.cedar_store.specs.Renaming.{NewIds, IsRenaming, new_id}
use Rattle.cedar_store.specs.Merged.{joined}

-- the policies of the text stand under their new ids, and these are the world's
abbrev pub LoadsAsWorlds : Type 0
LoadsAsWorlds =
    (mine : Entries) (ss : List PolicySyntax) (r : NewIds) → IsWhole mine → AreToldBySlots mine → length ss ≤ 2 ^ 64 → IsRenaming mine (text_entries 0 ss) r
    → Loads (policies_in mine) ss (map (new_id r) (own_ids 0 ss)) (policies_in (joined mine (text_entries 0 ss) r))

-- What holds of the renaming of every merge.
use Rattle.std.specs.Prelude.{◌≡◌, true, false, Some}
use Rattle.std.specs.Map.{lookup, keys_of}
use Rattle.cedar_language.specs.Uid.{Text}
use Rattle.cedar_language.specs.Order.{same_text}
use Rattle.cedar_policy_set.specs.Entries.{Entries, is_bound}
use Rattle.cedar_store.specs.Renaming.{NewIds, is_taken, conflicting, IsRenaming, new_id}

abbrev pub IsTheOnlyOne : Type 0
IsTheOnlyOne = (mine theirs : Entries) (r q : NewIds) → IsRenaming mine theirs r → IsRenaming mine theirs q → r ≡ q

-- it renames just the ids that both sets bind to different things
abbrev pub RenamesConflicts : Type 0
RenamesConflicts = (mine theirs : Entries) (r : NewIds) → IsRenaming mine theirs r → keys_of r ≡ conflicting mine theirs

-- a new id was bound in neither set
abbrev pub GivesFreeIds : Type 0
GivesFreeIds = (mine theirs : Entries) (r : NewIds) → IsRenaming mine theirs r → (old new : Text) → lookup (same_text old) r ≡ Some new → is_taken mine theirs new ≡ false

-- different ids stay different
abbrev pub KeepsApart : Type 0
KeepsApart =
    (mine theirs : Entries) (r : NewIds) → IsRenaming mine theirs r → (a b : Text) → is_bound theirs a ≡ true → is_bound theirs b ≡ true
    → same_text a b ≡ false → same_text (new_id r a) (new_id r b) ≡ false

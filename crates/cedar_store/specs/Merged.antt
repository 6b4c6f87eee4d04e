-- What a merge of two policy sets leaves.
use Rattle.std.specs.Prelude.{◌≡◌, ⊤, Bool, false, ◌||◌, not, List, [], ◌∷◌, ◌++◌, filter, map, Some, Result, Ok, Err}
use Rattle.cedar_language.specs.Uid.{Text}
use Rattle.cedar_policy_set.specs.Entries.{Entry, Entries, bound_at, is_bound}
use Rattle.cedar_policy_set.specs.declared.errors.PolicySetError.{PolicySetError}
use Rattle.cedar_policy_set.specs.declared.errors.PolicySetError.TheVariants.{Occupied, Memory}
use Rattle.cedar_store.specs.Renaming.{NewIds, conflicts, conflicting, new_id, renamed}

abbrev pub renamed_entry : NewIds → Text × Entry → Text × Entry
renamed_entry renaming e = (new_id renaming e.0, renamed renaming e.1)

-- whether an entry of theirs is more than mine has
abbrev pub is_more : Entries → Text × Entry → Bool
is_more mine e = not (is_bound mine e.0) || conflicts mine e

-- what theirs has more, renamed
abbrev pub joining : Entries → NewIds → Entries → Entries
joining mine renaming theirs = map (renamed_entry renaming) (filter (is_more mine) theirs)

-- both sets in one: mine as they stand, and then what theirs has more, renamed
abbrev pub joined : Entries → Entries → NewIds → Entries
joined mine theirs renaming = mine ++ joining mine renaming theirs

-- each policy of mine stands where it stood
abbrev pub KeepsMine : Entries → Entries → Type 0
KeepsMine old new = (id : Text) (e : Entry) → bound_at old id ≡ Some e → bound_at new id ≡ Some e

-- each policy of theirs stands under its new id, a link with its template
abbrev pub KeepsTheirs : Entries → NewIds → Entries → Type 0
KeepsTheirs theirs renaming new = (id : Text) (e : Entry) → bound_at theirs id ≡ Some e → bound_at new (new_id renaming id) ≡ Some (renamed renaming e)

-- the id is the first of these
abbrev pub IsFirst : List Text → Text → Type 0
IsFirst [] id = ⊥
IsFirst (first ∷ ids) id = first ≡ id

-- refused for the first of these, where there is one; or there is no memory
abbrev pub RefusesAny : {A : Type 0} → List Text → Result A PolicySetError → Type 0
RefusesAny ids (Ok a) = ids ≡ []
RefusesAny ids (Err (Occupied id)) = IsFirst ids id
RefusesAny ids (Err (Memory e)) = ⊤

-- refused for the first id that would be renamed, where none may be; or there is no memory
abbrev pub IsMergeRefusal : Entries → Entries → Bool → PolicySetError → Type 0
IsMergeRefusal mine theirs rename (Occupied id) = (rename ≡ false) × IsFirst (conflicting mine theirs) id
IsMergeRefusal mine theirs rename (Memory e) = ⊤

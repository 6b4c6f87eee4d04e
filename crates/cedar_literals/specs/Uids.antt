-- Uids: what they feed a hasher, and which are actions.
use Rattle.std.specs.Prelude.{◌≡◌, ◌++◌, codes}
use Rattle.std.specs.Hash as fed
use Rattle.std.specs.Hash.{HashWrites}
use Rattle.cedar_language.specs.Uid.{Name, Uid}
use Rattle.cedar_names.specs.Names.{basename_of, name_hash}

abbrev pub uid_hash : Uid → HashWrites
uid_hash u = name_hash u.type_name ++ fed.str u.id

-- the types of actions: those whose last identifier is `Action`
abbrev pub IsActionType : Name → Type 0
IsActionType n = basename_of n ≡ codes "Action"

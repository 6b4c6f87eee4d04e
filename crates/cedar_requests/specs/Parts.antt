-- The principal, action or resource that an entry is.
use Rattle.std.specs.Prelude.{Option, Some, None}
use Rattle.cedar_language.specs.Uid.{Name, Uid}
use Rattle.cedar_partial_evaluation.specs.Question.{Part, Given, Missing}
use Rattle.cedar_names.specs.declared.places.Loc.{Loc}
use Rattle.cedar_requests.specs.declared.entries.EntityUIDEntry.{EntityUIDEntry}
use Rattle.cedar_requests.specs.declared.entries.EntityUIDEntry.TheVariants.{Known, Unknown}

abbrev pub part_of : EntityUIDEntry → Part
part_of (Known euid loc) = Given euid.value
part_of (Unknown ty loc) = Missing ty

-- where it was read, if it was
abbrev pub entry_place : EntityUIDEntry → Option Loc
entry_place (Known euid loc) = loc
entry_place (Unknown ty loc) = loc

-- the uid, where it is given
abbrev pub uid_given : Part → Option Uid
uid_given (Given u) = Some u
uid_given (Missing ty) = None

-- its type, or the one that is stated
abbrev pub type_stated : Part → Option Name
type_stated (Given u) = Some u.type_name
type_stated (Missing ty) = ty

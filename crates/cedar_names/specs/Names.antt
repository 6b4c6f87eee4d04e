-- Names: the identifiers of a namespace, and a basename after them.
use Rattle.std.specs.Prelude.{◌≢◌, ◌-◌, ◌==◌, List, [], ◌++◌, length, take, slice_index_or, Bool, if◌then◌else◌, Option, Some, None, IsTrue, codes}
use Rattle.std.specs.List.{list_any, list_all, join_by}
use Rattle.std.specs.Hash as fed
use Rattle.std.specs.Hash.{HashWrites}
use Rattle.cedar_language.specs.Uid.{Text, Name}
use Rattle.cedar_names.specs.Identifiers.{is_id, is_reserved}

-- identifiers, and at least one
abbrev pub IsName : Name → Type 0
IsName n = (n ≢ []) × IsTrue (list_all is_id n)

-- how a name is written: its identifiers, with `::` between each two
abbrev pub name_text : Name → Text
name_text = join_by (λ t. t) (codes "::")

-- the identifiers before the last
abbrev pub namespace_of : Name → List Text
namespace_of n = take (length n - 1) n

-- the last identifier
abbrev pub basename_of : Name → Text
basename_of n = slice_index_or n (length n - 1) []

-- without a namespace
abbrev pub is_unqualified : Name → Bool
is_unqualified n = length n == 1

-- whether the reserved identifier is one of its identifiers
abbrev pub is_reserved_name : Name → Bool
is_reserved_name = list_any is_reserved

-- a name with this one's namespace, if it has none of its own
abbrev pub qualified : Option Name → Name → Name
qualified None n = n
qualified (Some namespace) n = if is_unqualified n then namespace ++ n else n

-- what a name feeds a hasher
abbrev pub name_hash : Name → HashWrites
name_hash = fed.slice fed.str

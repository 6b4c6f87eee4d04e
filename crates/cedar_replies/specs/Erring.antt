-- Erring policies, as the definitions see them.
use Rattle.std.specs.Prelude.{Bool, is_some, Option, Some, None, List, [], ◌∷◌}
use Rattle.std.specs.List.{list_all}
use Rattle.cedar_language.specs.Uid.{Text}
use Rattle.cedar_language.specs.Value.{Kind}
use Rattle.cedar_replies.specs.declared.error_kind.ErrorKind.{ErrorKind}
use Rattle.cedar_replies.specs.Kinds.{kind_of}

-- each has a kind that an answer may show
abbrev pub has_kind : Text × ErrorKind → Bool
has_kind e = is_some (kind_of e.1)

abbrev pub have_kinds : List (Text × ErrorKind) → Bool
have_kinds = list_all has_kind

abbrev pub and_kind : Text → Option Kind → List (Text × Kind) → List (Text × Kind)
and_kind id None rest = rest
and_kind id (Some kind) rest = (id, kind) ∷ rest

-- the ids with these kinds
abbrev pub with_kinds : List (Text × ErrorKind) → List (Text × Kind)
with_kinds [] = []
with_kinds (e ∷ es) = and_kind e.0 (kind_of e.1) (with_kinds es)

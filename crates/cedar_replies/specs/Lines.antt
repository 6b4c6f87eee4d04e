-- How the parts of a line are written.
use Rattle.std.specs.Prelude.{ℕ, List, [], ◌∷◌, ◌++◌, codes}
use Rattle.cedar_language.specs.Uid.{Text}
use Rattle.cedar_frames.specs.Quoting.{escaped_all, quoted}
use Rattle.cedar_replies.specs.declared.error_kind.ErrorKind.{ErrorKind}
use Rattle.cedar_replies.specs.Kinds.{error_name}

-- an erring id and its kind
abbrev pub with_name : Text × ErrorKind → List ℕ
with_name e = (quoted e.0 ++ codes ":") ++ error_name e.1

-- ids behind one that is written up to its last quote; the last one's is left out as well
abbrev pub reopened : List Text → List ℕ
reopened [] = []
reopened (id ∷ ids) = (codes "\",\"" ++ escaped_all id) ++ reopened ids

-- Lists of places under ids.
use Rattle.std.specs.Prelude.{◌≡◌, ◌≢◌, ℕ, [], Option, Some, Vec}
use Rattle.std.specs.declared.alloc.Global.{Global}
use Rattle.cedar_language.specs.Uid.{Text}

-- no list that is found under an id is empty
abbrev pub ListsSome : (Text → Option (Vec ℕ Global)) → Type 0
ListsSome found = (id : Text) (ps : Vec ℕ Global) → found id ≡ Some ps → ps.items ≢ []

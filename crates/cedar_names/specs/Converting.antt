-- What converting a name to an identifier answers.
use Rattle.std.specs.Prelude.{◌≡◌, ⊤, [], ◌∷◌, false, Result, Ok, Err}
use Rattle.cedar_language.specs.Uid.{Text, Name}
use Rattle.cedar_names.specs.Names.{is_unqualified}
use Rattle.cedar_names.specs.declared.errors.ConvertNameError.{ConvertNameError}
use Rattle.cedar_names.specs.declared.errors.ConvertNameError.TheVariants.{HasNamespace, Memory}

-- the one identifier of a name without a namespace
abbrev pub TakesBasename : Name → Result Text ConvertNameError → Type 0
TakesBasename n (Ok id) = n ≡ id ∷ []
TakesBasename n (Err HasNamespace) = is_unqualified n ≡ false
TakesBasename n (Err (Memory e)) = ⊤

-- Paths of `has`, from a test in them on.
use Rattle.std.specs.Prelude.{◌≡◌, true, false, Option, Some, None, List, [], ◌∷◌, ◌++◌, Result, Ok, Err}
use Rattle.cedar_language.specs.Uid.{Text}
use Rattle.cedar_language.specs.Tree.{Tree}
use Rattle.cedar_trees.specs.Bare.{bare}
use Rattle.cedar_typing.specs.Types.{CedarType}
use Rattle.cedar_typing.specs.Capabilities.{Capabilities}
use Rattle.cedar_typing.specs.Schema.{Environment}
use Rattle.cedar_typing.specs.Lazies.{and_typing}
use Rattle.cedar_typing.specs.Attributes.{attributes_of, get, get_type, then_path, path_type}
use Rattle.cedar_typing.specs.Results.{Typing, known}
use Rattle.cedar_typechecker.specs.Types.{type_view}
use Rattle.cedar_typechecker.specs.Results.{typing_view, Lacks}
use Rattle.cedar_typechecker.specs.declared.faults.TypingError.{TypingError}
use Rattle.cedar_typechecker.specs.declared.paths.Reached.{Reached}

-- the type of a path of which tests up to `x has a` are done, with what they found
abbrev pub rest_type : Environment → Tree → Text → List Text → Capabilities → CedarType → Typing → Typing
rest_type e x a [] c t found = found
rest_type e x a (b ∷ bs) c t found = and_typing found (λ d. then_path (get_type true a (attributes_of e.schema t)) (λ u. path_type e (get x a) b bs (d ++ c) u))

-- a path has the type that it has from where it is reached on, or is never true
abbrev pub Advances : Typing → Environment → Text → List Text → Capabilities → Result (Option Reached) TypingError → Type 0
Advances x e b bs c (Ok (Some r)) = x ≡ rest_type e (bare r.of.value) b bs c (type_view r.of_type) (typing_view r.found)
Advances x e b bs c (Ok None) = x ≡ known false
Advances x e b bs c (Err k) = Lacks ⊥ x k

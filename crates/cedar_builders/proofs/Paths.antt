-- A path of attributes, as the own builder makes it and as it is written.
use Rattle.std.proofs.Common.{◌≡◌, refl, List, [], ◌∷◌}
use Rattle.cedar_language.specs.Uid.{Text}
use Rattle.cedar_language.specs.Tree.{Tree, HasPath}
use Rattle.cedar_grammar.specs.Build.{has}
use Rattle.cedar_builders.specs.Own.{own_apply}

pub path_has : (a : Text) (rest : List Text) (t : Tree) → own_apply (HasPath a rest) (t ∷ []) ≡ has (a ∷ rest) t
path_has a [] t = refl
path_has a (b ∷ rest) t = refl

-- The attributes of a path.
use Rattle.std.specs.Prelude.{List, ◌∷◌, map}
use Rattle.std.specs.Global.{Global}
use Rattle.std.specs.Rc.{rc_str_bytes}
use Rattle.std.specs.declared.rc.RcStr.{RcStr}
use Rattle.cedar_language.specs.Uid.{Text}
use Rattle.cedar_trees.specs.declared.unknowns.NonEmpty.{NonEmpty}

abbrev pub path_texts : NonEmpty (RcStr Global) → List Text
path_texts p = rc_str_bytes p.head ∷ map rc_str_bytes p.tail.items

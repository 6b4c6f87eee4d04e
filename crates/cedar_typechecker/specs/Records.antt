-- Records that are written.
use Rattle.std.specs.Prelude.{List, [], ◌∷◌, map}
use Rattle.std.specs.Rc.{rc_str_bytes}
use Rattle.std.specs.declared.rc.RcStr.{RcStr}
use Rattle.std.specs.declared.alloc.Global.{Global}
use Rattle.cedar_language.specs.Uid.{Text}
use Rattle.cedar_typing.specs.Types.{Required, CedarType, Field}

abbrev pub texts : {A : Type 0} → List (RcStr Global × A) → List Text
texts es = map (λ e. rc_str_bytes e.0) es

-- fields of these names and types, which each record has
abbrev pub required : List Text → List CedarType → List (Text × Field)
required (k ∷ ks) (t ∷ ts) = (k, record { presence = Required; type = t }) ∷ required ks ts
required ks ts = []

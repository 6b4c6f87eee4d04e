-- The fields of a record, passed one by one.
use Rattle.std.specs.Prelude.{cond, List, [], ◌∷◌, Option, Some, None}
use Rattle.std.specs.declared.alloc.Global.{Global}
use Rattle.std.specs.declared.rc.RcStr.{RcStr}
use Rattle.std.specs.Rc.{rc_str_bytes}
use Rattle.cedar_language.specs.Uid.{Text}
use Rattle.cedar_language.specs.Value.{Value}
use Rattle.cedar_language.specs.Order.{same_text}

abbrev pub Entry : Type 0
Entry = RcStr Global × Value

-- the value of a field, where it is of this name
abbrev pub value_there : Text → Option Entry → Option Value
value_there n None = None
value_there n (Some e) = cond (same_text (rc_str_bytes e.0) n) (Some e.1) None

-- the fields that are left, where this one is the next: none where there is no next one
abbrev pub left_of : Option Entry → List Entry → List Entry
left_of None es = []
left_of (Some e) es = e ∷ es

-- Records from pairs of a key and a value.
use Rattle.std.specs.Prelude.{◌≡◌, List, [], ◌∷◌, length, Option, None, Some, if◌then◌else◌}
use Rattle.std.specs.declared.alloc.Global.{Global}
use Rattle.std.specs.declared.rc.RcStr.{RcStr}
use Rattle.std.specs.List.Sorted.{IsStrictlySortedBy}
use Rattle.std.specs.Option.{option_or}
use Rattle.std.specs.Rc.{rc_str_bytes}
use Rattle.cedar_language.specs.Uid.{Text}
use Rattle.cedar_language.specs.Value.{Value, RecordOf}
use Rattle.cedar_language.specs.Order.{text_cmp, same_text}
use Rattle.cedar_language.specs.Operators.{found, count}

-- the value of the last pair with this key
abbrev pub last_at : List (RcStr Global × Value) → Text → Option Value
last_at [] a = None
last_at (e ∷ es) a = option_or (last_at es a) (if same_text (rc_str_bytes e.0) a then Some e.1 else None)

-- the record of these pairs: its keys rise, and at each key stands the last value that was handed in for it
abbrev pub IsRecordOf : List (RcStr Global × Value) → Value → Type 0
IsRecordOf es (RecordOf ks vs) = record {
  rising : IsStrictlySortedBy text_cmp ks;
  as_many : length ks ≡ count vs;
  last : (a : Text) → found ks vs a ≡ last_at es a;
}
IsRecordOf es _ = ⊥

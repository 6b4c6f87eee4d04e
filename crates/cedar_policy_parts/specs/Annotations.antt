-- Annotations and their values.
use Rattle.std.specs.Prelude.{◌≡◌, List, [], Option, Some, None}
use Rattle.std.specs.List.Sorted.{IsStrictlySortedBy}
use Rattle.std.specs.Map.{keys_of, lookup, update_all}
use Rattle.std.specs.Ordering.{eq_by_cmp}
use Rattle.std.specs.Rc.{rc_str_bytes}
use Rattle.std.specs.declared.rc.RcStr.{RcStr}
use Rattle.std.specs.declared.alloc.Global.{Global}
use Rattle.cedar_language.specs.Uid.{Text}
use Rattle.cedar_language.specs.Order.{text_cmp}
use Rattle.cedar_grammar.specs.Build.{Keyed}

-- the text, or the empty one
abbrev pub text_or_empty : Option (RcStr Global) → Text
text_or_empty (Some s) = rc_str_bytes s
text_or_empty None = []

-- each key with the last text that stands with it, the keys in rising order
abbrev pub IsGathered : List (Keyed Text) → List (Keyed Text) → Type 0
IsGathered given gathered =
    ((key : Text) → lookup (eq_by_cmp text_cmp key) gathered ≡ update_all (eq_by_cmp text_cmp) (λ _. None) given key) × IsStrictlySortedBy text_cmp (keys_of gathered)

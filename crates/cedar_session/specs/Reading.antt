-- What an id is read as.
use Rattle.std.specs.Prelude.{◌≡◌, true, Some, None, Result, Ok, Err}
use Rattle.std.specs.declared.alloc.Global.{Global}
use Rattle.std.specs.declared.rc.RcStr.{RcStr}
use Rattle.std.specs.Rc.{rc_str_bytes}
use Rattle.cedar_language.specs.Uid as uid
use Rattle.cedar_language.specs.Tree.{Tree}
use Rattle.cedar_world.specs.Bodies.{is_restricted, string_of}
use Rattle.cedar_world.specs.Setting.{Setting}
use Rattle.cedar_replies.specs.declared.refusal.Refusal.{Refusal}
use Rattle.cedar_replies.specs.declared.refusal.Refusal.TheVariants.{Shape}
use Rattle.cedar_session.specs.TextReading.{IsLowBody, ReadsBody}

-- the text is a body that may hold no more than values and calls, and that says this
abbrev pub IsValueBody : Setting → uid.Text → (Tree → Type 0) → Type 0
IsValueBody by text Says = IsLowBody by text (λ tree. (is_restricted tree ≡ true) × Says tree)

-- the id that a text states as a body, or why it states none
abbrev pub ReadsId : Setting → uid.Text → Result (RcStr Global) Refusal → Type 0
ReadsId by text (Ok id) = IsValueBody by text (λ tree. string_of tree ≡ Some (rc_str_bytes id))
ReadsId by text (Err Shape) = IsValueBody by text (λ tree. string_of tree ≡ None)
ReadsId by text (Err r) = ReadsBody by text (Err r)

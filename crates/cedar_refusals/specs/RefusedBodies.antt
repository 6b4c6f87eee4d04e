-- What is told of a body that a session refuses.
use Rattle.std.specs.Prelude.{◌≡◌, ◌++◌, Bool, true, false, codes, Option, None, Ok, Err}
use Rattle.cedar_language.specs.Uid.{Text}
use Rattle.cedar_grammar.specs.Functions.{body_names}
use Rattle.cedar_parser.specs.Strict.{ReadsRestricted}
use Rattle.cedar_parser.specs.declared.restricted.RestrictedExpressionParseError.{RestrictedExpressionParseError}
use Rattle.cedar_parser.specs.declared.restricted.RestrictedExpressionParseError.TheVariants as parse
use Rattle.cedar_restricted.specs.declared.errors.RestrictedExpressionError.TheVariants as refused
use Rattle.cedar_restricted.specs.declared.restricted.RestrictedExpr.{RestrictedExpr}
use Rattle.cedar_world.specs.Commands.{Refusal, Shape, Evaluation, NotAValue, BadUnknown, Duplicate, Cycle, NoSuchUnknown, AlreadyTold, WrongKind}
use Rattle.cedar_world.specs.Lines.{refusal_name}
use Rattle.cedar_world.specs.Setting.{Setting}
use Rattle.cedar_messages.specs.declared.places.Position.{Position}
use Rattle.cedar_messages.specs.Faults.{TellsErrors}
use Rattle.cedar_messages.specs.Telling.{line_of, IsLine, TellsOf}

-- whether a body is so refused for what a part of it is
abbrev pub is_for_a_part : Refusal → Bool
is_for_a_part Shape = true
is_for_a_part Evaluation = true
is_for_a_part NotAValue = true
is_for_a_part BadUnknown = true
is_for_a_part Duplicate = true
is_for_a_part Cycle = true
is_for_a_part NoSuchUnknown = true
is_for_a_part AlreadyTold = true
is_for_a_part WrongKind = true
is_for_a_part r = false

-- within the limit the text is a body
abbrev pub IsBodyWithin : Setting → Text → Type 0
IsBodyWithin by text = (body : RestrictedExpr) × ReadsRestricted (body_names by.functions) by.depth text (Ok body)

abbrev pub TellsOfAPart : Text → Text → Type 0
TellsOfAPart name told = (place : Option Position) × TellsOf name place told

-- a line that says the kind of a refusal, and what that is
abbrev pub TellsKind : Text → Refusal → Text → Type 0
TellsKind name r told = (words : Text) × IsLine words × (told ≡ line_of name None (((codes "refused " ++ refusal_name r) ++ codes ": ") ++ words))

-- a text isn't read as a body: each error is told, in order, or the part that may not stand there
abbrev pub TellsUnread : Text → Text → RestrictedExpressionParseError → Text → Type 0
TellsUnread name text (parse.Parse errors) told = TellsErrors name text errors told
TellsUnread name text (parse.InvalidRestrictedExpression (refused.InvalidRestrictedExpression e)) told = TellsOfAPart name told
TellsUnread name text (parse.InvalidRestrictedExpression (refused.Memory e)) told = ⊥

-- A body is refused so: it isn't read, or what is told is a part of it, or else the kind.
pub data TellsBody (by : Setting) (name text : Text) (r : Refusal) (told : Text) : Type 0 where
  unread : (error : RestrictedExpressionParseError) → ReadsRestricted (body_names by.functions) by.depth text (Err error)
      → TellsUnread name text error told → TellsBody by name text r told
  a_part : IsBodyWithin by text → is_for_a_part r ≡ true → TellsOfAPart name told → TellsBody by name text r told
  a_kind : IsBodyWithin by text → TellsKind name r told → TellsBody by name text r told

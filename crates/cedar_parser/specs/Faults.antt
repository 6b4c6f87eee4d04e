-- Which kinds of faults the errors of a text tell: kinds that the loose tree of the text shows.
use Rattle.std.specs.Prelude.{◌≡◌, ◌⊎◌, ⊤, ℕ, true, List, [], ◌∷◌, Option, Some, None, Result}
use Rattle.std.specs.List.{AllByRecursion, list_any}
use Rattle.std.specs.Rc.{rc_str_bytes}
use Rattle.cedar_language.specs.Slots.{tree_slots}
use Rattle.cedar_language.specs.Tree.{SlotId, Tree}
use Rattle.cedar_language.specs.Uid.{Text}
use Rattle.cedar_grammar.specs.Converting.{expr_tree, primary_tree}
use Rattle.cedar_grammar.specs.Loose as loose
use Rattle.cedar_grammar.specs.Names.{Names}
use Rattle.cedar_grammar.specs.Policy.{is_slot}
use Rattle.cedar_grammar.specs.Token.{Token}
use Rattle.cedar_grammar.specs.LooseReading.{Fault}
use Rattle.cedar_literals.specs.Slots.{slot_text}
use Rattle.cedar_faults.specs.Reasons.{listed}
use Rattle.cedar_faults.specs.declared.kinds.ToASTErrorKind.{ToASTErrorKind}
use Rattle.cedar_faults.specs.declared.kinds.ToASTErrorKind.TheVariants as kinds
use Rattle.cedar_conversion.specs.Shows.{expr_shows, operand_shows}
use Rattle.cedar_loose.specs.Texts.{IsRead}
use Rattle.cedar_parser.specs.Errors.{Cause, outside_the_grammar, means_nothing, nested_too_deep, out_of_memory, cause_of}
use Rattle.cedar_parser.specs.declared.errors.ParseError.{ParseError}
use Rattle.cedar_parser.specs.declared.errors.ParseError.TheVariants as error
use Rattle.cedar_parser.specs.declared.errors.ParseErrors.{ParseErrors}
use Rattle.cedar_parser.specs.declared.literals.LiteralParseError.{LiteralParseError}
use Rattle.cedar_parser.specs.declared.literals.LiteralParseError.TheVariants as literal
use Rattle.cedar_parser.specs.declared.restricted.RestrictedExpressionParseError.{RestrictedExpressionParseError}
use Rattle.cedar_parser.specs.declared.restricted.RestrictedExpressionParseError.TheVariants as restricted

-- one of the errors is a fault of this kind
abbrev pub HoldFault : List ParseError → ToASTErrorKind → Type 0
HoldFault [] kind = ⊥
HoldFault (error.ToCST e ∷ es) kind = HoldFault es kind
HoldFault (error.ToAST f ∷ es) kind = (f.kind ≡ kind) ⊎ HoldFault es kind
HoldFault (error.Depth ∷ es) kind = HoldFault es kind
HoldFault (error.Memory ∷ es) kind = HoldFault es kind

-- what stands behind an error: behind a fault other faults, and behind each other error nothing
abbrev pub StandBehind : Cause → List ParseError → Type 0
StandBehind outside_the_grammar others = others ≡ []
StandBehind means_nothing others = AllByRecursion (λ e. cause_of e ≡ means_nothing) others
StandBehind nested_too_deep others = others ≡ []
StandBehind out_of_memory others = others ≡ []

-- the errors are faults, each of a kind that is shown; or another error alone
pub record TellOnly (errors : ParseErrors) (shown : ToASTErrorKind → Type 0) : Type 0 where
  pub each : (kind : ToASTErrorKind) → HoldFault (listed errors.0) kind → shown kind
  pub behind : StandBehind (cause_of errors.0.head) errors.0.tail.items

-- the fault of this slot of templates
abbrev pub IsSlotFault : SlotId → ToASTErrorKind → Type 0
IsSlotFault s (kinds.InvalidSlot text) = rc_str_bytes text ≡ slot_text s
IsSlotFault s kind = ⊥

-- of a tree where no slot may stand: one that it holds
abbrev pub slots_show : Option Tree → ToASTErrorKind → Type 0
slots_show None kind = ⊥
slots_show (Some t) kind = (s : SlotId) × (list_any (is_slot s) (tree_slots t) ≡ true) × IsSlotFault s kind

-- of an expression that is no policy's, and of an operand alone
abbrev pub strict_shows : Names → loose.Expr → ToASTErrorKind → Type 0
strict_shows names e kind = expr_shows names e kind ⊎ slots_show (expr_tree names e) kind

abbrev pub strict_operand_shows : Names → loose.Primary → ToASTErrorKind → Type 0
strict_operand_shows names p kind = operand_shows names p kind ⊎ slots_show (primary_tree names p) kind

-- by the loose tree that the text's tokens read as, with a nesting of at most n
abbrev pub text_shows : {A : Type 0} → (ℕ → List Token → Result A Fault) → ℕ → Text → (A → ToASTErrorKind → Type 0) → ToASTErrorKind → Type 0
text_shows {A} read n text shows kind = (x : A) × IsRead read n text x × shows x kind

-- the errors by which a literal's text, or that of a restricted expression, is refused as no text of an expression
abbrev pub LiteralTellsOnly : LiteralParseError → (ToASTErrorKind → Type 0) → Type 0
LiteralTellsOnly (literal.Parse errors) shown = TellOnly errors shown
LiteralTellsOnly (literal.InvalidLiteral e) shown = ⊤

abbrev pub RestrictedTellsOnly : RestrictedExpressionParseError → (ToASTErrorKind → Type 0) → Type 0
RestrictedTellsOnly (restricted.Parse errors) shown = TellOnly errors shown
RestrictedTellsOnly (restricted.InvalidRestrictedExpression e) shown = ⊤

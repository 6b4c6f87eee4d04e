-- What a text is as a literal, or why it is none. (Cedar language reference, "Data types".)
use Rattle.std.specs.Prelude.{◌≡◌, ℕ, List, Option, Some, None, Result, Ok, Err}
use Rattle.cedar_language.specs.Uid.{Text}
use Rattle.cedar_language.specs.Tree as tree
use Rattle.cedar_language.specs.Tree.{Tree, Lit}
use Rattle.cedar_grammar.specs.Converting.{converted, primary_tree, without_slots}
use Rattle.cedar_grammar.specs.Grammar.{IsLiteral}
use Rattle.cedar_grammar.specs.Loose as loose
use Rattle.cedar_grammar.specs.LooseReading.{read_primary}
use Rattle.cedar_grammar.specs.Steps.{◌>>=◌}
use Rattle.cedar_grammar.specs.Names.{Names}
use Rattle.cedar_grammar.specs.Token.{Token}
use Rattle.cedar_grammar.specs.Tokens.{IsTokens}
use Rattle.cedar_literals.specs.Literals.{literal_of}
use Rattle.cedar_literals.specs.declared.literals.Literal.{Literal}
use Rattle.cedar_parser.specs.Errors.{cause_of}
use Rattle.cedar_trees.specs.Bare.{bare}
use Rattle.cedar_parser.specs.Strict.{IsRefused, WritesNot}
use Rattle.cedar_parser.specs.declared.literals.LiteralParseError.{LiteralParseError}
use Rattle.cedar_parser.specs.declared.literals.LiteralParseError.TheVariants.{Parse, InvalidLiteral}

-- the text is this literal within this nesting
abbrev pub IsLiteralText : Names → ℕ → Text → tree.Literal → Type 0
IsLiteralText names n text l = (ts : List Token) × IsTokens text ts × IsLiteral names n ts l

-- what an operand writes, where no slot stands in it
abbrev pub free_operand : Names → loose.Primary → Option Tree
free_operand names p = primary_tree names p >>= without_slots

-- the text is an operand alone that writes this tree, within this nesting
abbrev pub IsOperandText : Names → ℕ → Text → Tree → Type 0
IsOperandText names n text t = (ts : List Token) × IsTokens text ts × (converted (free_operand names) (read_primary n ts) ≡ Some t)

abbrev pub ReadsLiteral : Names → ℕ → Text → Result Literal LiteralParseError → Type 0
ReadsLiteral names n text (Ok l) = IsLiteralText names n text (literal_of l)
ReadsLiteral names n text (Err (Parse errors)) = IsRefused (λ m l. IsLiteralText names m text l) n text (cause_of errors.0.head)
ReadsLiteral names n text (Err (InvalidLiteral e)) =
    IsOperandText names n text (bare e) × ((m : ℕ) (l : tree.Literal) → IsLiteralText names m text l → ⊥)

-- ---- on the way there

-- the literal that a tree is
abbrev pub literal_in : Tree → Option tree.Literal
literal_in (Lit l) = Some l
literal_in t = None

-- the literal in a tree, or the tree, where it is none
abbrev pub TakesLiteral : Tree → Result Literal LiteralParseError → Type 0
TakesLiteral t (Ok l) = t ≡ Lit (literal_of l)
TakesLiteral t (Err (Parse errors)) = ⊥
TakesLiteral t (Err (InvalidLiteral e)) = (t ≡ bare e) × (literal_in t ≡ None)

-- the literal that a loose tree writes, or the tree that it writes, where that is none
abbrev pub WritesLiteral : Result Literal LiteralParseError → Option Tree → Type 0
WritesLiteral (Ok l) want = want ≡ Some (Lit (literal_of l))
WritesLiteral (Err (Parse errors)) want = WritesNot (cause_of errors.0.head) want
WritesLiteral (Err (InvalidLiteral e)) want = (want ≡ Some (bare e)) × (literal_in (bare e) ≡ None)

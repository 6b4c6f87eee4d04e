-- White space and comments that are put into a text. (Cedar language reference, "Grammar specification".)
use Rattle.std.specs.Prelude.{◌≡◌, ◌↔◌, ℕ, true, false, List, [], ◌∷◌, ◌++◌, All, encode_utf8_all}
use lib.Utf8.{scalar, scalars}
use Rattle.std.specs.Char.{is_whitespace}
use Rattle.cedar_language.specs.Uid.{Text}
use Rattle.cedar_language.specs.Tree.{Tree}
use Rattle.cedar_grammar.specs.Token.{Token}
use Rattle.cedar_grammar.specs.Tokens.{slash, is_line_end, Blank, Front, IsTokens}
use Rattle.cedar_grammar.specs.Names.{Names}
use Rattle.cedar_grammar.specs.Policy.{Policy}
use Rattle.cedar_grammar.specs.Policies.{Reads, ReadsExpr}

-- characters that begin with white space, and are white space and comments alone whatever follows them
abbrev pub IsGap : List ℕ → Type 0
IsGap [] = ⊥
IsGap (c ∷ gap) = (is_whitespace c ≡ true) × ((rest : List ℕ) → Blank (c ∷ (gap ++ rest)) rest)

-- a text of one white space, or of one space and a line comment with its line end
pub data WhiteText : Text → Type 0 where
  white_space : (c : ℕ) → scalar c ≡ true → is_whitespace c ≡ true → WhiteText (encode_utf8_all (c ∷ []))
  line_comment : (line : List ℕ) (c : ℕ) → scalars line ≡ true → All (λ d. is_line_end d ≡ false) line → is_line_end c ≡ true → WhiteText (encode_utf8_all (32 ∷ slash ∷ slash ∷ (line ++ (c ∷ []))))

-- what is left of the characters before one of their tokens, or behind the last one
pub data Border : List ℕ → List ℕ → Type 0 where
  before_token : (t : Token) {cs mid after : List ℕ} → Blank cs mid → Front mid t after → Border cs mid
  behind_last : {cs : List ℕ} → Blank cs [] → Border cs cs
  further : (t : Token) {cs mid after rest : List ℕ} → Blank cs mid → Front mid t after → Border after rest → Border cs rest

-- the two texts have the same tokens, and are the same policies and the same expression
abbrev pub AreReadAlike : Text → Text → Type 0
AreReadAlike old new =
    ((ts : List Token) → IsTokens old ts ↔ IsTokens new ts) × ((names : Names) (n : ℕ) (ps : List Policy) → Reads names n old ps ↔ Reads names n new ps) × ((names : Names) (n : ℕ) (t : Tree) → ReadsExpr names n old t ↔ ReadsExpr names n new t)

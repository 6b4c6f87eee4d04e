-- What the code that reads answers, by the reading functions of the loose grammar.
use Rattle.std.specs.Prelude.{◌≡◌, List, [], ◌∷◌, Option, Some, None, Result, Ok, Err, Bool, true, false, ⊤}
use Rattle.cedar_grammar.specs.Token.{Token}
use Rattle.cedar_tokens.specs.declared.tokens.TokenKind.{TokenKind}
use Rattle.cedar_tokens.specs.declared.error.TokenError.{TokenError}
use Rattle.cedar_tokens.specs.declared.error.TokenError.TheVariants as token
use Rattle.cedar_tokens.specs.View.{kind_view}
use Rattle.cedar_grammar.specs.LooseReading.{Fault, syntax, depth, Reading}
use Rattle.cedar_loose.specs.declared.error.Unexpected.{Unexpected}
use Rattle.cedar_loose.specs.declared.error.ReadError.{ReadError}
use Rattle.cedar_loose.specs.declared.error.ReadError.TheVariants as error

-- the tokens begin with one of this kind, or there are none
abbrev pub Begins : List Token → Option TokenKind → Type 0
Begins ts None = ts ≡ []
Begins ts (Some k) = (rest : List Token) × (ts ≡ kind_view k ∷ rest)

-- of want of memory nothing is said
abbrev pub Fails : {A : Type 0} → ReadError → Result A Fault → Type 0
Fails (error.Syntax fault) read = read ≡ Err syntax
Fails error.Depth read = read ≡ Err depth
Fails error.Memory read = ⊤

-- what was made is seen as what is read, with the tokens that are left
abbrev pub Gives : {X A : Type 0} → (X → A) → Result X ReadError → List Token → Reading A → Type 0
Gives view (Ok x) rest read = read ≡ Ok (view x, rest)
Gives view (Err e) rest read = Fails e read

-- the tokens that are left behind what has to be next
abbrev pub Leaves : Result (Unit {0}) ReadError → List Token → Result (List Token) Fault → Type 0
Leaves (Ok x) rest read = read ≡ Ok rest
Leaves (Err e) rest read = Fails e read

-- whether something was next; it is taken then, and else nothing is
abbrev pub Eats : Bool → List Token → Option (List Token) → List Token → Type 0
Eats true rest found ts = found ≡ Some rest
Eats false rest found ts = (found ≡ None) × (rest ≡ ts)

-- the operator that was next, which is taken; nothing is taken where none was
abbrev pub TakesOperator : {X Op : Type 0} → (X → Op) → Option X → List Token → Option (Op × List Token) → List Token → Type 0
TakesOperator view (Some x) rest found ts = found ≡ Some (view x, rest)
TakesOperator view None rest found ts = (found ≡ None) × (rest ≡ ts)

-- a text without tokens isn't of the loose grammar; want of memory is told
abbrev pub TellsTokenError : TokenError → ReadError → Type 0
TellsTokenError (token.Unexpected place) e = (at : Unexpected) × (e ≡ error.Syntax at)
TellsTokenError token.Memory e = e ≡ error.Memory

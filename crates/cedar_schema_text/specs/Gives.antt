-- What the code that reads answers, by the reading functions of the grammar.
use Rattle.std.specs.Prelude.{◌≡◌, ℕ, suc, ◌<◌, List, [], ◌∷◌, map, length, drop, Option, Some, None, Result, Ok, Err, Bool, true, false, ⊤}
use Rattle.cedar_schema_grammar.specs.Tokens.{Token}
use Rattle.cedar_schema_grammar.specs.Reading.{Read, Key}
use Rattle.cedar_schema_syntax.specs.declared.names.Name.{Name}
use Rattle.cedar_schema_syntax.specs.declared.types.Presence.{Presence}
use Rattle.cedar_schema_syntax.specs.View.{name_view, presence_view}
use Rattle.cedar_schema_text.specs.declared.read_error.ReadError.{ReadError}
use Rattle.cedar_schema_text.specs.declared.read_error.ReadError.TheVariants as error
use Rattle.cedar_schema_text.specs.declared.reader.Reader.{Reader}
use Rattle.cedar_schema_text.specs.declared.tokens.TokenKind.{TokenKind}
use Rattle.cedar_schema_text.specs.View.{kind_view, token_of}

-- the tokens from one of them on
abbrev pub left : Reader → ℕ → List Token
left r at = map token_of (drop at r.tokens.items)

-- more than there are tokens
abbrev pub bound : Reader → ℕ
bound r = suc (length r.tokens.items)

-- a token of this kind is the first of the tokens, and the rest follows; or there are none
abbrev pub Begins : List Token → Option TokenKind → List Token → Type 0
Begins ts None rest = ts ≡ []
Begins ts (Some k) rest = ts ≡ kind_view k ∷ rest

-- the second place is behind the first, at which a token stands
abbrev pub IsBehind : Reader → ℕ → ℕ → Type 0
IsBehind r a b = (a < b) × (a < length r.tokens.items)

abbrev pub Advances : Reader → Bool → ℕ → ℕ → Type 0
Advances r true a b = IsBehind r a b
Advances r false a b = ⊤

abbrev pub AdvancesIfOk : {X : Type 0} → Reader → Result X ReadError → ℕ → ℕ → Type 0
AdvancesIfOk r (Ok x) a b = IsBehind r a b
AdvancesIfOk r (Err e) a b = ⊤

-- of want of memory nothing is said
abbrev pub Fails : {A : Type 0} → ReadError → Option A → Type 0
Fails (error.Syntax fault place) read = read ≡ None
Fails error.Memory read = ⊤

-- what was made is seen as what is read, and these tokens are left
abbrev pub Gives : {X A : Type 0} → (X → A) → Result X ReadError → List Token → Read A → Type 0
Gives view (Ok x) rest read = read ≡ Some (view x, rest)
Gives view (Err e) rest read = Fails e read

-- the tokens that are left behind what has to be next
abbrev pub Leaves : Result (Unit {0}) ReadError → List Token → Option (List Token) → Type 0
Leaves (Ok x) rest read = read ≡ Some rest
Leaves (Err e) rest read = Fails e read

-- whether something was next; it is taken then, and else nothing is
abbrev pub Eats : Bool → List Token → Option (List Token) → List Token → Type 0
Eats true rest found ts = found ≡ Some rest
Eats false rest found ts = (found ≡ None) × (rest ≡ ts)

-- the name of an attribute and its presence
abbrev pub key_view : Name × Presence → Key
key_view k = record { name = name_view k.0; presence = presence_view k.1 }

-- all tokens are seen as what is read
abbrev pub GivesAll : {X A : Type 0} → (X → A) → Result X ReadError → Option A → Type 0
GivesAll view (Ok x) read = read ≡ Some (view x)
GivesAll view (Err e) read = Fails e read

-- What is said of a text: what it reads as within a nesting, and what keeps it from being read.
use Rattle.std.specs.Prelude.{◌≡◌, ◌⊎◌, ℕ, ◌<◌, ◌≤◌, List, Result, Ok, Err, ⊤}
use Rattle.cedar_language.specs.Uid.{Text}
use Rattle.cedar_grammar.specs.Token.{Token}
use Rattle.cedar_grammar.specs.Tokens.{IsTokens}
use Rattle.cedar_grammar.specs.Nesting.{loose_nesting}
use Rattle.cedar_grammar.specs.LooseReading.{Fault}
use Rattle.cedar_loose.specs.declared.error.ReadError.{ReadError}
use Rattle.cedar_loose.specs.declared.error.ReadError.TheVariants as stop
use Rattle.cedar_loose.specs.Gives.{Fails}
use Rattle.cedar_loose.specs.Errors.{Cause, outside_the_grammar, means_nothing, nested_too_deep, out_of_memory, cause_of}
use Rattle.cedar_loose.specs.declared.errors.LooseError.{LooseError}

-- the loose tree that the text's tokens read as, with a nesting of at most n
abbrev pub IsRead : {A : Type 0} → (ℕ → List Token → Result A Fault) → ℕ → Text → A → Type 0
IsRead read n bytes x = (ts : List Token) × IsTokens bytes ts × (read n ts ≡ Ok x)

-- The text reads as nothing within any nesting; or as nothing within the limit, and it has places beyond it. Of memory nothing is said. What is read isn't asked what it means.
abbrev pub IsRefused : {A : Type 0} → (ℕ → List Token → Result A Fault) → ℕ → Text → Cause → Type 0
IsRefused {A} read limit bytes outside_the_grammar = (n : ℕ) (x : A) → IsRead read n bytes x → ⊥
IsRefused read limit bytes means_nothing = ⊥
IsRefused {A} read limit bytes nested_too_deep = ((n : ℕ) (x : A) → n ≤ limit → IsRead read n bytes x → ⊥) × (limit < loose_nesting bytes)
IsRefused read limit bytes out_of_memory = ⊤

-- the text reads as nothing; of memory nothing is said
abbrev pub IsOutside : {A : Type 0} → (ℕ → List Token → Result A Fault) → Text → Cause → Type 0
IsOutside {A} read bytes outside_the_grammar = (n : ℕ) (x : A) → IsRead read n bytes x → ⊥
IsOutside read bytes means_nothing = ⊥
IsOutside read bytes nested_too_deep = ⊥
IsOutside read bytes out_of_memory = ⊤

-- the error says so
abbrev pub Refuses : {A : Type 0} → (ℕ → List Token → Result A Fault) → ℕ → Text → LooseError → Type 0
Refuses read limit bytes error = IsRefused read limit bytes (cause_of error)

abbrev pub RefusesFlat : {A : Type 0} → (ℕ → List Token → Result A Fault) → Text → LooseError → Type 0
RefusesFlat read bytes error = IsOutside read bytes (cause_of error)

-- what nothing nests in is read alike within every nesting
abbrev pub flat : {A : Type 0} → (List Token → Result A Fault) → ℕ → List Token → Result A Fault
flat read n ts = read ts

abbrev pub stop_cause : ReadError → Cause
stop_cause (stop.Syntax at) = outside_the_grammar
stop_cause stop.Depth = nested_too_deep
stop_cause stop.Memory = out_of_memory

-- the cause is told; an error with a place may want memory for it, and then that is told instead
abbrev pub IsTold : Cause → Cause → Type 0
IsTold outside_the_grammar told = (told ≡ outside_the_grammar) ⊎ (told ≡ out_of_memory)
IsTold means_nothing told = told ≡ means_nothing
IsTold nested_too_deep told = told ≡ nested_too_deep
IsTold out_of_memory told = told ≡ out_of_memory

-- what was made of all tokens is seen as what is read
abbrev pub GivesAll : {X A : Type 0} → (X → A) → Result X ReadError → Result A Fault → Type 0
GivesAll view (Ok x) read = read ≡ Ok (view x)
GivesAll view (Err e) read = Fails e read

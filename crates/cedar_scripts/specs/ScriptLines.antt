-- The lines of a script, and what each says.
use Rattle.std.specs.Prelude.{◌≡◌, ℕ, List, [], ◌∷◌, codes, length, Bool, true, false, ◌==◌, ◌||◌}
use Rattle.std.specs.List.{before_first, after_first}
use Rattle.std.specs.Str.{trim}
use Rattle.cedar_language.specs.Uid.{Text}
use Rattle.cedar_frames.specs.declared.verb.Verb.{Verb}
use Rattle.cedar_frames.specs.Heads.{verb_name}

-- what a line says: nothing, how a body goes on, that a test of this name begins, what must be answered, or a command with what its body begins with
pub data Said : Type 0 where
  Nothing : Said
  Further : Text → Said
  Title : Text → Said
  Answer : Text → Said
  Command : Verb → Text → Said

-- the line begins with this byte
abbrev pub begins_with : ℕ → Text → Bool
begins_with byte [] = false
begins_with byte (b ∷ bs) = b == byte

-- no more than white space, as these words may be
abbrev pub is_blank : Text → Bool
is_blank text = length (trim text) == 0

-- a blank line, or a comment
abbrev pub is_idle : Text → Bool
is_idle line = begins_with 35 line || is_blank line

-- the line begins with a space or a tab
abbrev pub is_indented : Text → Bool
is_indented line = begins_with 32 line || begins_with 9 line

-- what stands before the first space, and what stands behind it
abbrev pub first_word : Text → Text
first_word line = before_first (λ b. b == 32) line

abbrev pub others : Text → Text
others line = after_first (λ b. b == 32) line

-- The line, which isn't idle, begins with this word, and these stand behind it.
pub record IsWorded (word words line : Text) : Type 0 where
  pub busy : is_idle line ≡ false
  pub word_is : first_word line ≡ word
  pub words_are : others line ≡ words

-- an indented line goes on with a body, indent and all
pub record IsFurther (text line : Text) : Type 0 where
  pub busy : is_idle line ≡ false
  pub indented : is_indented line ≡ true
  pub is : line ≡ text

-- The line says this.
abbrev pub Says : Text → Said → Type 0
Says line Nothing = is_idle line ≡ true
Says line (Further text) = IsFurther text line
Says line (Title name) = IsWorded (codes "test") name line
Says line (Answer words) = IsWorded (codes "=>") words line
Says line (Command verb body) = IsWorded (verb_name verb) body line

-- It says nothing that a script may say.
abbrev pub SaysNone : Text → Type 0
SaysNone line = (said : Said) → Says line said → ⊥

-- each line says what stands in its place
abbrev pub SayInTurn : List Text → List Said → Type 0
SayInTurn [] [] = Unit {0}
SayInTurn (line ∷ lines) (said ∷ more) = Says line said × SayInTurn lines more
SayInTurn _ _ = ⊥

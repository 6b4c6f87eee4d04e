-- What is told of a text: lines that begin with its name, and with a place in it.
use Rattle.std.specs.Prelude.{◌≡◌, ℕ, Bool, not, nat_lt, ◌&&◌, ◌||◌, ◌==◌, count_by, List, [], ◌∷◌, ◌++◌, codes, All, Option, Some, None}
use Rattle.std.specs.Fmt.{decimal}
use Rattle.std.specs.List.{flat_map}
use Rattle.cedar_language.specs.Uid.{Text}
use Rattle.cedar_messages.specs.declared.places.Position.{Position}

-- a control character of ASCII that isn't the tab
abbrev pub hides : ℕ → Bool
hides b = (nat_lt b 32 && not (b == 9)) || b == 127

-- it has no control characters but tabs, so no line feed
abbrev pub IsLine : Text → Type 0
IsLine text = count_by hides text ≡ 0

-- a line that stands below another, behind a space
abbrev pub below : Text → Text
below line = (codes " " ++ line) ++ codes "\n"

-- lines that stand below another
abbrev pub AreBelow : Text → Type 0
AreBelow told = (lines : List Text) × All IsLine lines × (told ≡ flat_map below lines)

-- `NAME:LINE:COLUMN: `, or `NAME: ` where no place is known
abbrev pub heading : Text → Option Position → Text
heading name None = name ++ codes ": "
heading name (Some at) = (((name ++ (codes ":" ++ decimal at.line)) ++ codes ":") ++ decimal at.column) ++ codes ": "

-- a line that says a message of a place
abbrev pub line_of : Text → Option Position → Text → Text
line_of name place message = (heading name place ++ message) ++ codes "\n"

-- A line says a message of a place, and lines below it perhaps show more.
abbrev pub TellsOf : Text → Option Position → Text → Type 0
TellsOf name place told = (message further : Text) × IsLine message × AreBelow further × (told ≡ line_of name place message ++ further)

-- Something is told of each of these, of one behind the other.
abbrev pub TellsEach : {X : Type 0} → (X → Text → Type 0) → List X → Text → Type 0
TellsEach Tells [] told = told ≡ []
TellsEach Tells (x ∷ xs) told = (first others : Text) × Tells x first × TellsEach Tells xs others × (told ≡ first ++ others)

-- what is told of it is added
abbrev pub Adds : (Text → Type 0) → Text → Text → Type 0
Adds Tells old new = (more : Text) × Tells more × (new ≡ old ++ more)

-- Which common types are written in which, by their numbers.
use Rattle.std.specs.Prelude.{◌≡◌, ℕ, List, ◌++◌, map, Option, Some, option_to_list}
use Rattle.std.specs.Global.{Vec}
use Rattle.cedar_language.specs.Uid.{Name}
use Rattle.cedar_schema_grammar.specs.Syntax.{TypeSyntax, AttributesSyntax}
use Rattle.cedar_schema_grammar.specs.Declared.{Library, CommonType, Declared}
use Rattle.cedar_schema_grammar.specs.Written.{mentions, mentions_in}
use Rattle.cedar_schema_resolution.specs.Numbers.{number_of, AreNumbersOf}
use Rattle.cedar_schema_resolution.specs.declared.numbers.CommonNumbers.{CommonNumbers}

abbrev pub with_number : List ℕ → Option ℕ → List ℕ
with_number xs o = xs ++ option_to_list o

-- the first numbers, and behind them those of these names
abbrev pub AreBehind : Declared → List Name → List ℕ → List ℕ → Type 0
AreBehind d names old new = map Some new ≡ map Some old ++ map (number_of d) names

-- whatever is declared by these numbers: those of what a type mentions stand behind the others
abbrev pub IsMentioned : CommonNumbers → Name → TypeSyntax → List ℕ → List ℕ → Type 0
IsMentioned c namespace t old new = (d : Declared) (l : Library) → AreNumbersOf d c → AreBehind d (mentions d l namespace t) old new

abbrev pub IsMentionedIn : CommonNumbers → Name → AttributesSyntax → List ℕ → List ℕ → Type 0
IsMentionedIn c namespace xs old new = (d : Declared) (l : Library) → AreNumbersOf d c → AreBehind d (mentions_in d l namespace xs) old new

-- the numbers of what common types mention
abbrev pub mentioned_numbers : Declared → Library → CommonType → List (Option ℕ)
mentioned_numbers d l t = map (number_of d) (mentions d l t.namespace t.type)

-- the edges of these common types are to those that they mention
abbrev pub AreMentionsOf : Declared → Library → List CommonType → List (Vec ℕ) → Type 0
AreMentionsOf d l ts edges = map (λ row. map Some row.items) edges ≡ map (mentioned_numbers d l) ts

abbrev pub AreMentioned : CommonNumbers → List CommonType → List (Vec ℕ) → Type 0
AreMentioned c ts edges = (d : Declared) (l : Library) → AreNumbersOf d c → AreMentionsOf d l ts edges

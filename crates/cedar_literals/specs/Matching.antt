-- A search for a match: where it stands, where it began behind the last wildcard, and what it may still find.
use Rattle.std.specs.Prelude.{◌≡◌, ◌↔◌, ⊤, ◌+◌, ◌*◌, ◌<◌, ◌⊎◌, ℕ, Bool, true, false, List, ◌∷◌, ◌++◌, map, length, Option, Some, None}
use Rattle.std.specs.Str.{chars}
use Rattle.cedar_language.specs.Tree.{PatternElem, Char, Wildcard}
use Rattle.cedar_language.specs.Pattern.{Matches}
use Rattle.cedar_literals.specs.Patterns.{elem_of}
use Rattle.cedar_literals.specs.declared.matching.Place.{Place}
use Rattle.cedar_literals.specs.declared.matching.Search.{Search}

abbrev pub is_wildcard : PatternElem → Bool
is_wildcard (Char c) = false
is_wildcard Wildcard = true

-- what is left of the pattern, and of the text
abbrev pub elems_at : Place → List PatternElem
elems_at p = map elem_of p.elems.now

abbrev pub chars_at : Place → List ℕ
chars_at p = chars p.rest.now

abbrev pub MatchesAt : Place → Type 0
MatchesAt p = Matches (elems_at p) (chars_at p)

-- a match that begins behind the last wildcard, at a later character than the search did
abbrev pub MatchesLater : Option Place → Type 0
MatchesLater None = ⊥
MatchesLater (Some p) = (c : ℕ) × (cs : List ℕ) × (chars_at p ≡ c ∷ cs) × Matches (Wildcard ∷ elems_at p) cs

abbrev pub CanMatch : Search → Type 0
CanMatch s = MatchesAt s.at ⊎ MatchesLater s.start

-- from the start to the place each element stands for itself
abbrev pub HasCome : Option Place → Place → Type 0
HasCome None p = ⊤
HasCome (Some q) p = (run : List ℕ) × (elems_at q ≡ map Char run ++ elems_at p) × (chars_at q ≡ run ++ chars_at p)

abbrev pub begun : Option Place → Place → Place
begun None p = p
begun (Some q) p = q

-- a search from its start takes no more turns than this: at first n * m + n for n characters and m elements
abbrev pub turns_left : Search → ℕ
turns_left s = length (chars_at (begun s.start s.at)) * length (elems_at (begun s.start s.at)) + length (chars_at s.at)

-- what a turn makes of a search: one that can match where it could, or none where it couldn't
abbrev pub TurnsTo : Search → Option Search → Type 0
TurnsTo s None = ¬ (CanMatch s)
TurnsTo s (Some t) = (CanMatch s ↔ CanMatch t) × HasCome t.start t.at × (turns_left t < turns_left s)

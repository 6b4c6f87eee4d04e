-- Heads of frames: a verb, one space, and the body's length in digits without leading zeros.
use Rattle.std.specs.Prelude.{◌≡◌, ℕ, ◌+◌, ◌-◌, ◌*◌, List, [], ◌∷◌, ◌++◌, length, slice_index, codes, Bool, true, nat_le, ◌==◌, ◌&&◌, ◌||◌, not}
use Rattle.std.specs.Str.{all_ascii_digits}
use Rattle.cedar_frames.specs.declared.verb.Verb.{Verb}
use Rattle.cedar_frames.specs.declared.verb.Verb.TheVariants.{Load, Link, Unlink, RemoveStatic, RemoveTemplate, Add, Put, Remove, Ask, Tell}

-- how a verb is spelled
abbrev pub verb_name : Verb → List ℕ
verb_name Load = codes "load"
verb_name Link = codes "link"
verb_name Unlink = codes "unlink"
verb_name RemoveStatic = codes "remove-static"
verb_name RemoveTemplate = codes "remove-template"
verb_name Add = codes "add"
verb_name Put = codes "put"
verb_name Remove = codes "remove"
verb_name Ask = codes "ask"
verb_name Tell = codes "tell"

-- digits, at least one, and no zero before others
abbrev pub is_numeral : List ℕ → Bool
is_numeral digits = all_ascii_digits digits && (not (length digits == 0) && (nat_le (length digits) 1 || not (slice_index digits 0 == 48)))

-- the number that digits spell after what stands before them
abbrev pub number_after : ℕ → List ℕ → ℕ
number_after before [] = before
number_after before (b ∷ bs) = number_after (before * 10 + (b - 48)) bs

abbrev pub number_of : List ℕ → ℕ
number_of digits = number_after 0 digits

-- the line, without its line feed, is a head with this verb and this length
abbrev pub IsHead : List ℕ → Verb → ℕ → Type 0
IsHead line verb len =
    (digits : List ℕ) × (line ≡ verb_name verb ++ 32 ∷ digits) × (is_numeral digits ≡ true) × (number_of digits ≡ len)

-- no byte is this one
abbrev pub lacks : ℕ → List ℕ → Bool
lacks byte [] = true
lacks byte (b ∷ bs) = not (b == byte) && lacks byte bs

-- a head's greatest length, without its line feed
abbrev pub head_limit : ℕ
head_limit = 32

-- a body's greatest length
abbrev pub body_limit : ℕ
body_limit = 1048576

-- Where a byte of a text stands, as editors count.
use Rattle.std.specs.Prelude.{◌≡◌, ◌<◌, ℕ, List, Bool, nat_lt, nat_le, ◌+◌, ◌*◌, ◌||◌, ◌==◌, count_by, get_or, length, take}
use Rattle.std.specs.List.{after_last}
use Rattle.cedar_language.specs.Uid.{Text}
use Rattle.cedar_names.specs.declared.places.Span.{Span}
use Rattle.cedar_messages.specs.declared.places.Extent.{Extent}
use Rattle.cedar_messages.specs.declared.places.Position.{Position}

-- how many line feeds stand among these bytes
abbrev pub line_feeds : List ℕ → ℕ
line_feeds bytes = count_by (λ b. b == 10) bytes

-- what stands behind the last line feed, or all where there is none
abbrev pub last_line : List ℕ → List ℕ
last_line bytes = after_last (λ b. b == 10) bytes

-- a byte with which a character begins: those that go on with one are 128 to 191
abbrev pub begins_character : ℕ → Bool
begins_character b = nat_lt b 128 || nat_le 192 b

-- how many characters begin among these bytes
abbrev pub characters : List ℕ → ℕ
characters bytes = count_by begins_character bytes

-- the line and the column of a byte
abbrev pub position_at : List ℕ → ℕ → Position
position_at bytes byte = record { line = 1 + line_feeds (take byte bytes); column = 1 + characters (last_line (take byte bytes)) }

-- from its first byte to the first one behind it
abbrev pub extent_at : Text → Span → Extent
extent_at text span = record { start = position_at text span.start; end = position_at text span.end }

-- of every 256th byte its line and column, from the first
abbrev pub AreCounted : List ℕ → List Position → Type 0
AreCounted bytes counted = (k : ℕ) (other : Position) → k < length counted → get_or counted k other ≡ position_at bytes (k * 256)

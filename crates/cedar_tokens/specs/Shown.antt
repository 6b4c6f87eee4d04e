-- Which kinds of tokens a configuration shows.
use Rattle.std.specs.Prelude.{ℕ, Bool, not, ◌&&◌, List, map}
use Rattle.std.specs.List.{list_any}
use Rattle.std.specs.Str.{bytes_eq}
use Rattle.std.specs.Borrow.{Bor}
use Rattle.cedar_tokens.specs.declared.expected.ExpectedTokenConfig.{ExpectedTokenConfig}

-- the kind is one of these
abbrev pub is_among : List (List ℕ) → List ℕ → Bool
is_among kinds kind = list_any (λ k. bytes_eq k kind) kinds

-- the texts that are lent
abbrev pub texts : List (Bor (List ℕ)) → List (List ℕ)
texts kinds = map (λ k. k.now) kinds

-- an identifier is expected
abbrev pub expects_identifier : ExpectedTokenConfig → List (List ℕ) → Bool
expects_identifier config expected = is_among expected config.identifier_sentinel.now

-- an expression is expected
abbrev pub expects_expression : ExpectedTokenConfig → List (List ℕ) → Bool
expects_expression config expected = is_among expected config.first_set_sentinel.now

-- The kind is shown where these are expected: none that the conversion refuses, no word beside an identifier, and none that begins an expression beside an identifier alone.
abbrev pub is_shown : ExpectedTokenConfig → List (List ℕ) → List ℕ → Bool
is_shown config expected kind =
    not (is_among (texts config.impossible_tokens.now) kind)
    && not (expects_identifier config expected && is_among (texts config.special_identifier_tokens.now) kind)
    && not (expects_identifier config expected && not (expects_expression config expected) && is_among (texts config.first_set_identifier_tokens.now) kind)

-- one of the kinds that are expected is shown
abbrev pub shows : ExpectedTokenConfig → List (List ℕ) → Bool
shows config expected = list_any (is_shown config expected) expected

-- Where a loop stands that reads parts as long as the tokens begin one.
use Rattle.std.specs.Prelude.{◌≡◌, ℕ, ◌<◌, Bool, List, ◌++◌, length, Ok}
use Rattle.cedar_grammar.specs.Token.{Token}
use Rattle.cedar_grammar.specs.LooseReading.{Reading, Reader, ◌>>◌, each_at}

module _ {A : Type 0} where
  -- what was read before, and then this
  abbrev pub after_items : List A → Reading (List A) → Reading (List A)
  after_items front read = read >> λ xs. Ok (front ++ xs.0, xs.1)

  -- the parts so far and those that are read from here on are the whole
  pub record Each (begins : List Token → Bool) (item : Reader A) (front : List A) (ts : List Token) (whole : Reading (List A)) : Type 0 where
    pub turns : ℕ
    pub enough : length ts < turns
    pub same : after_items front (each_at begins item turns ts) ≡ whole

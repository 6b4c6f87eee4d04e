-- What is appended to a text.
use Rattle.std.specs.Prelude.{◌≡◌, ℕ, List, ◌++◌, Result, OnOk, string_bytes, encode_utf8_all, String}

-- on success these characters stand behind what stood there
abbrev pub Appends : {A E Z : Type 0} → Result A E → String Z → String Z → List ℕ → Type 0
Appends result old new cs = OnOk result (string_bytes new ≡ string_bytes old ++ encode_utf8_all cs)

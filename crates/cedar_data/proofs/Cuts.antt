-- Where a text may be cut behind a run.
use Rattle.std.specs.Str.{IsUtf8, IsCharBoundary}
use Rattle.std.proofs.Common.{◌≡◌, ℕ, List, Bool, drop, get_or, sym, subst, arith}
use Rattle.std.specs.Char.{is_ascii_digit}
use Rattle.std.proofs.lemmas.Str.{IsCharBoundary-from_drop, IsUtf8-drop}
use Rattle.cedar_grammar.specs.Tokens.{is_in_word, quote}
use Rattle.cedar_data.specs.Classes.{test_of}
use Rattle.cedar_data.specs.Runs.{run_length, is_blank, is_plain}
use Rattle.cedar_data.specs.declared.runs.Class.{Class}
use Rattle.cedar_data.specs.declared.runs.Class.TheVariants.{Blank, Word, Digit, Plain}
use Rattle.cedar_data.proofs.Ascii.{IsAsciiTest, blanks_ascii, words_ascii, digits_ascii, run_bytes}
use Rattle.cedar_data.proofs.Tokens.{after_first}
use Rattle.cedar_data.proofs.Strings.{plain_boundary}

ascii_boundary : (test : ℕ → Bool) → IsAsciiTest test → (bs : List ℕ) → IsUtf8 bs → IsCharBoundary bs (run_length test bs)
ascii_boundary test ascii bs u = let run = run_bytes test ascii bs u in IsCharBoundary-from_drop bs (run_length test bs) run.within run.utf8

pub run_boundary : (class : Class) (bs : List ℕ) → IsUtf8 bs → IsCharBoundary bs (run_length (test_of class) bs)
run_boundary Blank bs u = ascii_boundary is_blank blanks_ascii bs u
run_boundary Word bs u = ascii_boundary is_in_word words_ascii bs u
run_boundary Digit bs u = ascii_boundary is_ascii_digit digits_ascii bs u
run_boundary Plain bs u = plain_boundary bs u

-- what follows the plain bytes behind a quote is a text
pub behind_string : (bs rest : List ℕ) → IsUtf8 bs → get_or bs 0 0 ≡ quote → rest ≡ drop (run_length is_plain (drop 1 bs)) (drop 1 bs) → IsUtf8 rest
behind_string bs rest u first back =
    let inside = IsUtf8-drop bs 1 u (after_first bs u (omega arith) (omega arith)) in
    subst IsUtf8 (sym back) (IsUtf8-drop (drop 1 bs) (run_length is_plain (drop 1 bs)) inside (plain_boundary (drop 1 bs) inside))

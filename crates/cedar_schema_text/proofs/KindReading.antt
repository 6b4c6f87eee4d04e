-- The token at the start of characters.
use Rattle.std.proofs.Common.{◌≡◌, ℕ, Bool, true, false, true≢false, List, [], ◌∷◌, ◌++◌, Option, Some, None, refl, sym, ap, ◌∙◌}
use Rattle.std.specs.Prelude.{◌==◌}
use Rattle.std.specs.Str.{chars, IsUtf8}
use Rattle.std.proofs.lemmas.Bool.{ne_eqb}
use Rattle.cedar_grammar.specs.Tokens.{quote, colon, begins_word, is_in_word, run_of, inside_of}
use Rattle.cedar_tokens.specs.Rest.{StartsWith, IsRest}
use Rattle.cedar_tokens.specs.Strings.{ReadsInside}
use Rattle.cedar_schema_grammar.specs.Tokens.{Mark, Token, word, text, mark, mark_of, mark_read, colons_read, text_read, word_read, token_read}
use Rattle.cedar_schema_text.specs.Reads.{front_read, ReadsToken}
use Rattle.cedar_tokens.proofs.Rests.{rest_past, rest_all, rest_rest, shorter-past}
use Rattle.cedar_tokens.proofs.Runs.{run-first, run-shorter}
use Rattle.cedar_tokens.proofs.Ascii.{chars-run, words-ascii, begins-in}

word-read : (c : ℕ) (cs : List ℕ) → begins_word c ≡ true → token_read c cs ≡ Some (word (c ∷ (run_of is_in_word cs).0), (run_of is_in_word cs).1)
unfolding token_read
word-read c cs e = rw (e, token_read)

quote-read : (c : ℕ) (cs : List ℕ) → c ≡ quote → token_read c cs ≡ text_read (inside_of cs)
unfolding token_read
quote-read c cs e = ap (λ x. token_read x cs) e

colon-read : (c : ℕ) (cs : List ℕ) → c ≡ colon → token_read c cs ≡ Some (colons_read cs)
unfolding token_read
colon-read c cs e = ap (λ x. token_read x cs) e

other-read : (c : ℕ) (cs : List ℕ) → begins_word c ≡ false → (c ≡ quote → ⊥) → (c ≡ colon → ⊥) → token_read c cs ≡ mark_read (mark_of c) cs
unfolding token_read
other-read c cs e f g = by (begins_word c) (c == quote) (c == colon) e (ne_eqb c quote f) (ne_eqb c colon g)
  where
    by : (w q l : Bool) → w ≡ false → q ≡ false → l ≡ false
        → (elim w as (λ _. Option (Token × List ℕ)) [
          | true ↦ Some (word_read c (run_of is_in_word cs))
          | false ↦
              elim q as (λ _. Option (Token × List ℕ)) [
                | true ↦ text_read (inside_of cs)
                | false ↦ elim l as (λ _. Option (Token × List ℕ)) [ true ↦ Some (colons_read cs) | false ↦ mark_read (mark_of c) cs ]
              ]
        ]) ≡ mark_read (mark_of c) cs
    by true q l h i j = absurd (true≢false h)
    by false true l h i j = absurd (true≢false i)
    by false false true h i j = absurd (true≢false j)
    by false false false h i j = refl

pub no_token : (cs : List ℕ) → cs ≡ [] → front_read cs ≡ None
no_token cs e = ap front_read e

module _ (source after : List ℕ) (c : ℕ) (s : StartsWith source c after) where
  pub token-word : (run rest : List ℕ) → begins_word c ≡ true → run_of is_in_word (chars source) ≡ (chars run, chars rest) → source ≡ run ++ rest → IsUtf8 run → IsRest source rest → ReadsToken source (word run) rest
  token-word run rest b h whole u r =
      let parts = run-first is_in_word source run rest c (chars after) s.characters (begins-in c b) h in
      let bytes : c ∷ (run_of is_in_word (chars after)).0 ≡ run = sym parts.0 ∙ chars-run is_in_word words-ascii (chars source) run (chars rest) u h in
      record {
        token = ap front_read s.characters ∙ word-read c (chars after) b ∙ ap (λ x. Some (word x, (run_of is_in_word (chars after)).1)) bytes ∙ ap (λ x. Some (word run, x)) parts.1;
        cut = r;
        shorter = run-shorter source run rest c (run_of is_in_word (chars after)).0 parts.0 whole;
      }

  pub token-text : (raw rest : List ℕ) → IsUtf8 source → c ≡ quote → ReadsInside after raw rest → ReadsToken source (text (chars raw)) rest
  token-text raw rest u e r =
      record {
        token = ap front_read s.characters ∙ quote-read c (chars after) e ∙ ap text_read r.inside;
        cut = rest_rest source after rest (rest_past source source after c (rest_all source u) s) r.cut;
        shorter = shorter-past source after rest c s r.cut;
      }

  pub no_text : c ≡ quote → inside_of (chars after) ≡ None → front_read (chars source) ≡ None
  no_text e n = ap front_read s.characters ∙ quote-read c (chars after) e ∙ ap text_read n

  pub token-colons : (t : Token) (rest : List ℕ) → IsUtf8 source → c ≡ colon → (t, chars rest) ≡ colons_read (chars after) → IsRest after rest → ReadsToken source t rest
  token-colons t rest u e r cut =
      record {
        token = ap front_read s.characters ∙ colon-read c (chars after) e ∙ ap Some (sym r);
        cut = rest_rest source after rest (rest_past source source after c (rest_all source u) s) cut;
        shorter = shorter-past source after rest c s cut;
      }

  other : begins_word c ≡ false → (c ≡ quote → ⊥) → (c ≡ colon → ⊥) → (o : Option Mark) → o ≡ mark_of c → front_read (chars source) ≡ mark_read o (chars after)
  other b e f o m = ap front_read s.characters ∙ other-read c (chars after) b e f ∙ ap (λ x. mark_read x (chars after)) (sym m)

  pub token-mark : (m : Mark) → IsUtf8 source → begins_word c ≡ false → (c ≡ quote → ⊥) → (c ≡ colon → ⊥) → Some m ≡ mark_of c → ReadsToken source (mark m) after
  token-mark m u b e f h = record { token = other b e f (Some m) h; cut = rest_past source source after c (rest_all source u) s; shorter = s.shorter }

  pub no_mark : begins_word c ≡ false → (c ≡ quote → ⊥) → (c ≡ colon → ⊥) → None ≡ mark_of c → front_read (chars source) ≡ None
  no_mark b e f h = other b e f None h

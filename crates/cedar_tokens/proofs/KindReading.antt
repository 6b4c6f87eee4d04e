-- The token at the start of characters.
use Rattle.std.proofs.Common.{◌≡◌, ℕ, true, false, List, [], ◌∷◌, ◌++◌, Some, None, refl, sym, ap, ◌∙◌, subst}
use Rattle.std.specs.Char.{is_ascii_digit}
use Rattle.std.specs.Str.{chars, IsUtf8}
use Rattle.std.specs.Str.Parse.{digits_value, IsNumeral}
use Rattle.std.proofs.lemmas.Bool.{ne_eqb}
use Rattle.cedar_grammar.specs.Token.{Word, Mark, word, number, text, slot, mark, word_of}
use Rattle.cedar_grammar.specs.Tokens.{quote, question, begins_word, is_in_word, Stops, run_of, inside_of, all_marks, mark_among, text_read, slot_read, token_read}
use Rattle.cedar_tokens.specs.Rest.{StartsWith, IsRest}
use Rattle.cedar_tokens.specs.Reads.{ReadsWord, ReadsToken}
use Rattle.cedar_tokens.specs.Spelling.{is_word}
use Rattle.cedar_tokens.specs.Marks.{ReadsMark}
use Rattle.cedar_tokens.specs.Strings.{ReadsInside}
use Rattle.cedar_tokens.proofs.Rests.{rest_past, rest_all, rest_rest, shorter-past}
use Rattle.cedar_tokens.proofs.Runs.{run-first, run-shorter}
use Rattle.cedar_tokens.proofs.Ascii.{chars-run, digits-ascii, words-ascii, begins-in, numeral, word_text}

pub word_at : (source run rest : List ℕ) (c : ℕ) (more : List ℕ) (w : Word) → chars source ≡ c ∷ more → begins_word c ≡ true → run_of is_in_word (chars source) ≡ (chars run, chars rest) → source ≡ run ++ rest → IsUtf8 run → IsRest source rest → w ≡ word_of run → ReadsWord source w rest
word_at source run rest c more w e b h whole u r is =
    let parts = run-first is_in_word source run rest c more e (begins-in c b) h in
    record {
      first = c;
      more = more;
      characters = e;
      begins = b;
      word = is ∙ ap word_of (sym (chars-run is_in_word words-ascii (chars source) run (chars rest) u h) ∙ parts.0);
      further = parts.1;
      cut = r;
      shorter = run-shorter source run rest c (run_of is_in_word more).0 parts.0 whole;
    }

pub word_spelled : (source run rest : List ℕ) (c : ℕ) (more : List ℕ) → chars source ≡ c ∷ more → begins_word c ≡ true → run_of is_in_word (chars source) ≡ (chars run, chars rest) → IsUtf8 run → is_word run ≡ true
word_spelled source run rest c more e b h u =
    let parts = run-first is_in_word source run rest c more e (begins-in c b) h in
    let bytes : c ∷ (run_of is_in_word more).0 ≡ run = sym parts.0 ∙ chars-run is_in_word words-ascii (chars source) run (chars rest) u h in
    subst (λ x. is_word x ≡ true) bytes (word_text c more b)

pub number_spelled : (source after run rest : List ℕ) (c : ℕ) → StartsWith source c after → is_ascii_digit c ≡ true → run_of is_ascii_digit (chars source) ≡ (chars run, chars rest) → IsUtf8 run → IsNumeral 10 run
number_spelled source after run rest c s d h u =
    let parts = run-first is_ascii_digit source run rest c (chars after) s.characters d h in
    let bytes : c ∷ (run_of is_ascii_digit (chars after)).0 ≡ run = sym parts.0 ∙ chars-run is_ascii_digit digits-ascii (chars source) run (chars rest) u h in
    subst (IsNumeral 10) bytes (numeral c (chars after) d)

word-read : (c : ℕ) (cs : List ℕ) → begins_word c ≡ true → token_read (c ∷ cs) ≡ Some (word (word_of (c ∷ (run_of is_in_word cs).0)), (run_of is_in_word cs).1)
unfolding token_read
word-read c cs e = rw (e, token_read)

number-read : (c : ℕ) (cs : List ℕ) → begins_word c ≡ false → is_ascii_digit c ≡ true → token_read (c ∷ cs) ≡ Some (number (digits_value 10 (c ∷ (run_of is_ascii_digit cs).0)), (run_of is_ascii_digit cs).1)
unfolding token_read
number-read c cs e f = rw (e, f, token_read)

quote-read : (c : ℕ) (cs : List ℕ) → c ≡ quote → token_read (c ∷ cs) ≡ text_read (inside_of cs)
unfolding token_read
quote-read c cs e = ap (λ x. token_read (x ∷ cs)) e

question-read : (c : ℕ) (cs : List ℕ) → c ≡ question → token_read (c ∷ cs) ≡ slot_read cs
unfolding token_read
question-read c cs e = ap (λ x. token_read (x ∷ cs)) e

other-read : (c : ℕ) (cs : List ℕ) → begins_word c ≡ false → is_ascii_digit c ≡ false → (c ≡ quote → ⊥) → (c ≡ question → ⊥) → token_read (c ∷ cs) ≡ mark_among all_marks (c ∷ cs)
unfolding token_read
other-read c cs e f g h = rw (e, f, ne_eqb c quote g, ne_eqb c question h, token_read)

pub no_token : (cs : List ℕ) → cs ≡ [] → token_read cs ≡ None
unfolding token_read
no_token cs e = ap token_read e

slot-word : (c : ℕ) (cs : List ℕ) → begins_word c ≡ true → slot_read (c ∷ cs) ≡ Some (slot (word_of (c ∷ (run_of is_in_word cs).0)), (run_of is_in_word cs).1)
slot-word c cs e = rw (e, slot_read)

slot-none : (cs : List ℕ) → Stops begins_word cs → slot_read cs ≡ None
slot-none [] h = refl
slot-none (c ∷ cs) h = rw (h, slot_read)

pub token-word : (source : List ℕ) (w : Word) (rest : List ℕ) → ReadsWord source w rest → ReadsToken source (word w) rest
token-word source w rest r =
    record {
      token = ap token_read r.characters ∙ word-read r.first r.more r.begins ∙ ap (λ x. Some (word x, (run_of is_in_word r.more).1)) (sym r.word) ∙ ap (λ x. Some (word w, x)) r.further;
      cut = r.cut;
      shorter = r.shorter;
    }

-- after the first character of a text that begins with no word
abbrev pub NoWord : List ℕ → Type 0
NoWord source = Stops begins_word (chars source)

no_word-first : (source rest : List ℕ) (c : ℕ) → StartsWith source c rest → NoWord source → begins_word c ≡ false
no_word-first source rest c s n = subst (Stops begins_word) s.characters n

pub token-number : (source after run rest : List ℕ) (c : ℕ) → StartsWith source c after → NoWord source → is_ascii_digit c ≡ true → run_of is_ascii_digit (chars source) ≡ (chars run, chars rest) → source ≡ run ++ rest → IsUtf8 run → IsRest source rest → ReadsToken source (number (digits_value 10 run)) rest
token-number source after run rest c s n d h whole u r =
    let parts = run-first is_ascii_digit source run rest c (chars after) s.characters d h in
    let bytes : c ∷ (run_of is_ascii_digit (chars after)).0 ≡ run = sym parts.0 ∙ chars-run is_ascii_digit digits-ascii (chars source) run (chars rest) u h in
    record {
      token = ap token_read s.characters ∙ number-read c (chars after) (no_word-first source after c s n) d ∙ ap (λ x. Some (number (digits_value 10 x), (run_of is_ascii_digit (chars after)).1)) bytes ∙ ap (λ x. Some (number (digits_value 10 run), x)) parts.1;
      cut = r;
      shorter = run-shorter source run rest c (run_of is_ascii_digit (chars after)).0 parts.0 whole;
    }

pub token-text : (source after raw rest : List ℕ) (c : ℕ) → IsUtf8 source → StartsWith source c after → c ≡ quote → ReadsInside after raw rest → ReadsToken source (text (chars raw)) rest
token-text source after raw rest c u s e r =
    record {
      token = ap token_read s.characters ∙ quote-read c (chars after) e ∙ ap text_read r.inside;
      cut = rest_rest source after rest (rest_past source source after c (rest_all source u) s) r.cut;
      shorter = shorter-past source after rest c s r.cut;
    }

pub no_text : (source after : List ℕ) (c : ℕ) → StartsWith source c after → c ≡ quote → inside_of (chars after) ≡ None → token_read (chars source) ≡ None
no_text source after c s e n = ap token_read s.characters ∙ quote-read c (chars after) e ∙ ap text_read n

pub token-slot : (source after : List ℕ) (w : Word) (rest : List ℕ) (c : ℕ) → IsUtf8 source → StartsWith source c after → c ≡ question → ReadsWord after w rest → ReadsToken source (slot w) rest
token-slot source after w rest c u s e r =
    record {
      token = ap token_read s.characters ∙ question-read c (chars after) e ∙ ap slot_read r.characters ∙ slot-word r.first r.more r.begins ∙ ap (λ x. Some (slot x, (run_of is_in_word r.more).1)) (sym r.word) ∙ ap (λ x. Some (slot w, x)) r.further;
      cut = rest_rest source after rest (rest_past source source after c (rest_all source u) s) r.cut;
      shorter = shorter-past source after rest c s r.cut;
    }

pub no_slot : (source after : List ℕ) (c : ℕ) → StartsWith source c after → c ≡ question → NoWord after → token_read (chars source) ≡ None
no_slot source after c s e n = ap token_read s.characters ∙ question-read c (chars after) e ∙ slot-none (chars after) n

-- a text that begins with no word, digit, string or slot
pub other_token : (source after : List ℕ) (c : ℕ) → StartsWith source c after → NoWord source → is_ascii_digit c ≡ false → (c ≡ quote → ⊥) → (c ≡ question → ⊥) → token_read (chars source) ≡ mark_among all_marks (chars source)
other_token source after c s n d e f = ap token_read s.characters ∙ other-read c (chars after) (no_word-first source after c s n) d e f ∙ ap (mark_among all_marks) (sym s.characters)

pub token-mark : (source after : List ℕ) (m : Mark) (rest : List ℕ) (c : ℕ) → StartsWith source c after → NoWord source → is_ascii_digit c ≡ false → (c ≡ quote → ⊥) → (c ≡ question → ⊥) → ReadsMark source m rest → ReadsToken source (mark m) rest
token-mark source after m rest c s n d e f r = record { token = other_token source after c s n d e f ∙ r.token; cut = r.cut; shorter = r.shorter }

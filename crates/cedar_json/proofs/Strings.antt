-- A text between quotes is read as that text.
use Rattle.std.proofs.Common.{◌≡◌, ℕ, Bool, true, false, cond, List, [], ◌∷◌, ◌++◌, Option, Some, None, refl, sym, ap, ◌∙◌, subst, append_assoc}
use Rattle.std.specs.Prelude.{◌==◌, ◌||◌, encode_utf8_all, IsUtf8}
use Rattle.std.specs.Str.{chars}
use Rattle.std.proofs.lemmas.Bool.{eqb-true}
use Rattle.std.proofs.lemmas.Str.{encodes-chars}
use Rattle.cedar_language.specs.Uid.{Text}
use Rattle.cedar_grammar.specs.Escape.{Part, between, itself, named, before, simple_escape, parts_from, parts_of, string_chars, string_of}
use Rattle.cedar_grammar.specs.Token.{text}
use Rattle.cedar_grammar.specs.Tokens.{line_feed, quote, backslash, carriage_return, Inside, closes, plain, escaped as escaped_pair, Front, is_text}
use Rattle.cedar_json.specs.Written.{escaped_char, escaped, quoted}

-- what stands for a character that is a quote, a backslash or a carriage return, and for one that is none
abbrev char_by : Bool → Bool → Bool → ℕ → List ℕ
char_by a b d c = cond (a || b) (backslash ∷ c ∷ []) (cond d (backslash ∷ 114 ∷ []) (c ∷ []))

-- ---- the token

no_line_feed : (c n : ℕ) → (n == line_feed) ≡ false → (c == n) ≡ true → (c == line_feed) ≡ false
no_line_feed c n other e = subst (λ x. (x == line_feed) ≡ false) (sym (eqb-true c n e)) other

inside_by : (c : ℕ) (front raw rest : List ℕ) → Inside front raw rest → (a : Bool) → (c == quote) ≡ a → (b : Bool) → (c == backslash) ≡ b → (d : Bool)
    → (c == carriage_return) ≡ d
    → Inside (char_by a b d c ++ front) (char_by a b d c ++ raw) rest
inside_by c front raw rest more true e b f d g = escaped_pair backslash c refl (no_line_feed c quote refl e) more
inside_by c front raw rest more false e true f d g = escaped_pair backslash c refl (no_line_feed c backslash refl f) more
inside_by c front raw rest more false e false f true g = escaped_pair backslash 114 refl refl more
inside_by c front raw rest more false e false f false g = plain c e f more

inside : (cs rest : List ℕ) → Inside (escaped cs ++ quote ∷ rest) (escaped cs) rest
inside [] rest = closes quote refl
inside (c ∷ cs) rest =
    subst (λ x. Inside x (escaped (c ∷ cs)) rest) (sym (append_assoc (escaped_char c) (escaped cs) (quote ∷ rest)))
    (inside_by c (escaped cs ++ quote ∷ rest) (escaped cs) rest (inside cs rest) (c == quote) refl (c == backslash) refl (c == carriage_return) refl)

pub quoted_front : (s : Text) (rest : List ℕ) → Front (quoted s ++ rest) (text (escaped (chars s))) rest
quoted_front s rest =
    subst (λ x. Front (quote ∷ x) (text (escaped (chars s))) rest) (sym (append_assoc (escaped (chars s)) (quote ∷ []) rest))
    (is_text quote refl (inside (chars s) rest))

-- ---- what it stands for

record StandsFor (raw cs : List ℕ) : Type 0 where
  pub parts : List Part
  pub are : parts_of raw ≡ Some parts
  pub characters : string_chars parts ≡ Some cs

part_plain : (c : ℕ) (cs : List ℕ) → (c == backslash) ≡ false → (c == carriage_return) ≡ false
    → parts_from between (c ∷ cs) ≡ before (Some (itself c)) (parts_from between cs)
unfolding parts_from
part_plain c cs e f = rw (e, f, parts_from)

part_escaped : (c : ℕ) (cs : List ℕ) → (c == 120) ≡ false → (c == 117) ≡ false
    → parts_from between (backslash ∷ c ∷ cs) ≡ before (simple_escape c) (parts_from between cs)
unfolding parts_from
part_escaped c cs e f = rw (e, f, parts_from)

no_parts : parts_from between [] ≡ Some []
unfolding parts_from
no_parts = refl

abbrev with_char : ℕ → Option (List ℕ) → Option (List ℕ)
with_char c o = elim o as (λ _. Option (List ℕ)) [ None ↦ None | Some ds ↦ Some (c ∷ ds) ]

named_stands : (c n : ℕ) (raw cs : List ℕ) → simple_escape c ≡ Some (named n) → (c == 120) ≡ false → (c == 117) ≡ false → StandsFor raw cs
    → StandsFor (backslash ∷ c ∷ raw) (n ∷ cs)
named_stands c n raw cs e f g more =
    record {
      parts = named n ∷ more.parts;
      are = part_escaped c raw f g ∙ ap (λ p. before p (parts_from between raw)) e ∙ ap (before (Some (named n))) more.are;
      characters = ap (with_char n) more.characters;
    }

stands_by : (c : ℕ) (raw cs : List ℕ) → StandsFor raw cs → (a : Bool) → (c == quote) ≡ a → (b : Bool) → (c == backslash) ≡ b → (d : Bool)
    → (c == carriage_return) ≡ d → StandsFor (char_by a b d c ++ raw) (c ∷ cs)
stands_by c raw cs more true e b f d g =
    subst (λ x. StandsFor (backslash ∷ x ∷ raw) (x ∷ cs)) (sym (eqb-true c quote e)) (named_stands quote quote raw cs refl refl refl more)
stands_by c raw cs more false e true f d g =
    subst (λ x. StandsFor (backslash ∷ x ∷ raw) (x ∷ cs)) (sym (eqb-true c backslash f)) (named_stands backslash backslash raw cs refl refl refl more)
stands_by c raw cs more false e false f true g =
    subst (λ x. StandsFor (backslash ∷ 114 ∷ raw) (x ∷ cs)) (sym (eqb-true c carriage_return g)) (named_stands 114 carriage_return raw cs refl refl refl more)
stands_by c raw cs more false e false f false g =
    record {
      parts = itself c ∷ more.parts;
      are = part_plain c raw f g ∙ ap (before (Some (itself c))) more.are;
      characters = ap (with_char c) more.characters;
    }

stands : (cs : List ℕ) → StandsFor (escaped cs) cs
stands [] = record { parts = []; are = no_parts; characters = refl }
stands (c ∷ cs) = stands_by c (escaped cs) cs (stands cs) (c == quote) refl (c == backslash) refl (c == carriage_return) refl

string_written : (raw cs : List ℕ) → StandsFor raw cs → string_of raw ≡ Some (encode_utf8_all cs)
unfolding string_of
string_written raw cs for =
    ap (λ o. elim o as (λ _. Option Text) [
      | None ↦ None
      | Some qs ↦ elim (string_chars qs) as
          (λ _. Option Text) [ None ↦ None | Some ds ↦ Some (encode_utf8_all ds) ]
    ]) for.are
    ∙ ap (λ o. elim o as (λ _. Option Text) [ None ↦ None | Some ds ↦ Some (encode_utf8_all ds) ]) for.characters

pub quoted_string : (s : Text) → IsUtf8 s → string_of (escaped (chars s)) ≡ Some s
quoted_string s u = string_written (escaped (chars s)) (chars s) (stands (chars s)) ∙ ap Some (encodes-chars s u)

-- How a text is read from between quotes, and that no two texts stand so alike.
use Rattle.std.proofs.Common.{◌≡◌, ◌≢◌, ℕ, List, [], ◌∷◌, ◌++◌, length, refl, sym, ap, subst, ◌∙◌, arith, append_assoc, append-nil, IsUtf8, encode_utf8, encode_utf8_all, flat_map, chars}
use Rattle.std.proofs.lemmas.Grind.{flat_map-append}
use Rattle.std.proofs.lemmas.Str.{encodes-append, chars_from_encodes, encodes-chars}
use Rattle.cedar_language.specs.Uid.{Text}
use Rattle.cedar_literals.specs.Escapes.{escaped_char, escaped}
use Rattle.cedar_literals.specs.Unescaping.{BeginsWithNone}
use Rattle.cedar_literals.proofs.Escaping.{nothing_begins, escapes_alike}

-- what is read of a text, and the text after it
pub record IsRead (text done rest : Text) : Type 0 where
  pub cs : List ℕ
  pub coded : done ≡ encode_utf8_all cs
  pub whole : text ≡ flat_map escaped_char cs ++ rest
  pub only : (t : Text) → escaped t ≡ text → (ds : List ℕ) × (flat_map escaped_char ds ≡ rest)

pub no_length : (rest : Text) → length rest ≡ 0 → rest ≡ []
no_length [] h = refl
no_length (b ∷ bs) h = absurd (omega (arith, h))

pub none_read : (text done : Text) → done ≡ [] → IsRead text done text
none_read text done e = record { cs = []; coded = e; whole = refl; only = λ t f. (chars t, f) }

first_of : (ds : List ℕ) (rest after : Text) (c : ℕ) → flat_map escaped_char ds ≡ rest → rest ≡ escaped_char c ++ after → (es : List ℕ) × (flat_map escaped_char es ≡ after)
first_of [] rest after c e f = absurd (nothing_begins rest (sym e) c after f)
first_of (d ∷ ds) rest after c e f = (ds, (escapes_alike d c (flat_map escaped_char ds) after (e ∙ f)).1)

one_more : (cs : List ℕ) (c : ℕ) → encode_utf8_all (cs ++ c ∷ []) ≡ encode_utf8_all cs ++ encode_utf8 c
one_more cs c = encodes-append cs (c ∷ []) ∙ ap (λ bs. encode_utf8_all cs ++ bs) (append-nil (encode_utf8 c))

pub more_read : (text done rest after : Text) (c : ℕ) (made : Text) → IsRead text done rest → rest ≡ escaped_char c ++ after → made ≡ done ++ encode_utf8 c → IsRead text made after
more_read text done rest after c made r e f =
    record {
      cs = r.cs ++ c ∷ [];
      coded = f ∙ ap (λ bs. bs ++ encode_utf8 c) r.coded ∙ sym (one_more r.cs c);
      whole =
          r.whole ∙ ap (λ bs. flat_map escaped_char r.cs ++ bs) e ∙ sym (append_assoc (flat_map escaped_char r.cs) (escaped_char c) after)
          ∙ ap (λ bs. (flat_map escaped_char r.cs ++ bs) ++ after) (sym (append-nil (escaped_char c))) ∙ ap (λ bs. bs ++ after) (sym (flat_map-append escaped_char r.cs (c ∷ [])));
      only = λ t g. let ds = r.only t g in first_of ds.0 rest after c ds.1 e;
    }

pub all_read : (text done rest made : Text) → IsRead text done rest → rest ≡ [] → IsUtf8 done → made ≡ done → (escaped made ≡ text) × IsUtf8 made
all_read text done rest made r none utf8 e = (
  ap escaped e ∙ ap (flat_map escaped_char) (sym (chars_from_encodes r.cs done utf8 (sym r.coded))) ∙ sym (append-nil (flat_map escaped_char r.cs)) ∙ ap (λ bs. flat_map escaped_char r.cs ++ bs) (sym none) ∙ sym r.whole,
  subst IsUtf8 (sym e) utf8,
)

begins_none : (ds : List ℕ) (rest : Text) → flat_map escaped_char ds ≡ rest → BeginsWithNone rest → rest ≡ []
begins_none [] rest e none = sym e
begins_none (d ∷ ds) rest e none = absurd (none d (flat_map escaped_char ds) (sym e))

pub nothing_read : (text done rest : Text) → IsRead text done rest → BeginsWithNone rest → rest ≢ [] → (t : Text) → escaped t ≢ text
nothing_read text done rest r none some t e = let ds = r.only t e in some (begins_none ds.0 rest ds.1 none)

-- two texts of characters stand so alike where they are the same
alike : (cs ds : List ℕ) → flat_map escaped_char cs ≡ flat_map escaped_char ds → cs ≡ ds
alike [] [] e = refl
alike [] (d ∷ ds) e = absurd (nothing_begins [] refl d (flat_map escaped_char ds) e)
alike (c ∷ cs) [] e = absurd (nothing_begins [] refl c (flat_map escaped_char cs) (sym e))
alike (c ∷ cs) (d ∷ ds) e =
    let r = escapes_alike c d (flat_map escaped_char cs) (flat_map escaped_char ds) e in
    let more = alike cs ds r.1 in
    λ i. r.0 i ∷ more i

pub texts_alike : (s t : Text) → IsUtf8 s → IsUtf8 t → escaped s ≡ escaped t → s ≡ t
texts_alike s t u v e = sym (encodes-chars s u) ∙ ap encode_utf8_all (alike (chars s) (chars t) e) ∙ encodes-chars t v

-- Entities in a string, word by word.
use Rattle.std.proofs.Common.{◌≡◌, ◌≢◌, ℕ, Bool, true, false, cond, List, [], ◌∷◌, ◌++◌, Option, Some, None, is_some, Result, Ok, Err, refl, sym, ap, ◌∙◌, append_assoc, lit<}
use Rattle.std.specs.Prelude.{OnOk, encode_utf8_all}
use Rattle.std.specs.Str.{chars}
use Rattle.std.proofs.lemmas.Str.{encodes-append}
use Rattle.cedar_language.specs.Uid.{Text, Name}
use Rattle.cedar_grammar.specs.Escape.{string_of}
use Rattle.cedar_grammar.specs.Steps.{is_mark}
use Rattle.cedar_grammar.specs.Token as token
use Rattle.cedar_grammar.specs.Token.{ColonColon, Token, word, text, slot, mark, id_of}
use Rattle.cedar_grammar.specs.Tokens.{quote, colon, IsTokens, tokens_of}
use Rattle.cedar_grammar.proofs.TokensComplete.{reads_tokens}
use Rattle.cedar_tokens.specs.declared.error.TokenError.{TokenError}
use Rattle.cedar_tokens.specs.declared.error.TokenError.TheVariants as token_error
use Rattle.cedar_tokens.specs.Refusal.{RefusesText}
use Rattle.cedar_world.specs.Bodies.{and_then}
use Rattle.cedar_json.specs.declared.reading.Unread.{Unread}
use Rattle.cedar_json.specs.declared.reading.Unread.TheVariants as unread
use Rattle.cedar_json.specs.Questions.{longer, or_else, string_alone, path_in, uid_told, uid_read}
use Rattle.cedar_json.specs.QuestionsWritten.{told_written}
use Rattle.cedar_json.specs.Said.{Tells}
use Rattle.cedar_json.specs.Told.{GoesOn}
use Rattle.cedar_json.specs.Written.{path}
use Rattle.cedar_json.proofs.Appending.{grown, two_pushed}
use Rattle.cedar_json.proofs.Names.{path_small}
use Rattle.cedar_json.proofs.Saying.{none_is}
use Rattle.cedar_json.proofs.Sound.{some_map}
use Rattle.cedar_json.proofs.Tokens.{encodes_small}

-- ---- what is told

module _ {A B C : Type 0} where
  pub tells_same : (r : Result A Unread) (o : Option B) (p : Option C) → is_some o ≡ is_some p → Tells r o → Tells r p
  tells_same (Ok a) o p e h = sym e ∙ h
  tells_same (Err unread.Memory) o p e h = tt
  tells_same (Err unread.Unsaid) o p e h = none_is p (sym e ∙ ap is_some h)

-- ---- a name and a string

named_by : (o : Option Text) (q : Option (Name × List ℕ)) (y : Name × List ℕ) → longer o q ≡ Some y → y.0 ≢ []
named_by None q y e = absurd (cc e)
named_by (Some s) None y e = absurd (cc e)
named_by (Some s) (Some x) y e = λ none. let same : (s ∷ x.0, x.1) ≡ y = cc e in absurd (cc (ap (λ z. z.0) same, none))

step_named : (b : Bool) (o : Option Text) (q : Option (Name × List ℕ)) (y : Name × List ℕ) → cond b (longer o q) None ≡ Some y → y.0 ≢ []
step_named true o q y e = named_by o q y e
step_named false o q y e = absurd (cc e)

path_named : (ts : List Token) (y : Name × List ℕ) → path_in ts ≡ Some y → y.0 ≢ []
path_named [] y e = absurd (cc e)
path_named (t ∷ []) y e = absurd (cc e)
path_named (word w ∷ t ∷ ts) y e = step_named (is_mark ColonColon t) (id_of w) (or_else (string_alone ts) (path_in ts)) y e
path_named (token.number n ∷ t ∷ ts) y e = absurd (cc e)
path_named (text raw ∷ t ∷ ts) y e = absurd (cc e)
path_named (slot w ∷ t ∷ ts) y e = absurd (cc e)
path_named (mark m ∷ t ∷ ts) y e = absurd (cc e)

-- a word changes nothing of whether an entity is told
same_told : (name : Text) (q : Option (Name × List ℕ)) → is_some (uid_told (longer (Some name) q)) ≡ is_some (uid_told q)
same_told name None = refl
same_told name (Some x) = some_map _ (string_of x.1) ∙ sym (some_map _ (string_of x.1))

word_written : (name : Text) (y : Name × List ℕ) → y.0 ≢ []
    → told_written (longer (Some name) (Some y)) ≡ (name ++ colon ∷ colon ∷ []) ++ told_written (Some y)
word_written name y some = by y.0 some
  where
    rest : List ℕ
    rest = colon ∷ colon ∷ quote ∷ (y.1 ++ quote ∷ [])

    by : (p : Name) → p ≢ [] → path (name ∷ p) ++ rest ≡ (name ++ colon ∷ colon ∷ []) ++ (path p ++ rest)
    by [] some = absurd (some refl)
    by (w ∷ ws) some =
        append_assoc name (colon ∷ colon ∷ path (w ∷ ws)) rest ∙ sym (append_assoc name (colon ∷ colon ∷ []) (path (w ∷ ws) ++ rest))

-- ---- the loop over the words

-- what is written already, and what is left, tell and write the whole
pub record IsOnPath (all left : List Token) (old new : List ℕ) : Type 0 where
  pub told : is_some (uid_told (path_in left)) ≡ is_some (uid_told (path_in all))
  pub written : (y : Name × List ℕ) → path_in left ≡ Some y
      → new ++ encode_utf8_all (told_written (path_in left)) ≡ old ++ encode_utf8_all (told_written (path_in all))

-- a word and `::` are written
word_put : (name : Text) (all others : List Token) → GoesOn name all others → (a b c : List ℕ) → b ≡ a ++ name → c ≡ b ++ colon ∷ colon ∷ []
    → c ≡ a ++ encode_utf8_all (name ++ colon ∷ colon ∷ [])
word_put name all others on a b c e f =
    let small = path_small (name ∷ []) (rw on.free refl) in
    grown a b c name (colon ∷ colon ∷ []) (e ∙ ap (λ s. a ++ s) (sym (encodes_small name small))) (two_pushed b c colon colon (lit< tt) (lit< tt) f)

both_put : (a c xs ys : List ℕ) → c ≡ a ++ encode_utf8_all xs → c ++ encode_utf8_all ys ≡ a ++ encode_utf8_all (xs ++ ys)
both_put a c xs ys e =
    ap (λ s. s ++ encode_utf8_all ys) e ∙ append_assoc a (encode_utf8_all xs) (encode_utf8_all ys) ∙ ap (λ s. a ++ s) (sym (encodes-append xs ys))

no_string : (name : Text) (left others : List Token) → GoesOn name left others → string_alone others ≡ None
    → path_in left ≡ longer (Some name) (path_in others)
no_string name left others on none = on.path ∙ ap (λ o. longer (Some name) (or_else o (path_in others))) none

pub word_more : (name : Text) (all left others : List Token) (old a b c : List ℕ) → IsOnPath all left old a → GoesOn name left others
    → string_alone others ≡ None → b ≡ a ++ name → c ≡ b ++ colon ∷ colon ∷ [] → IsOnPath all others old c
word_more name all left others old a b c so on none e f =
    let step = no_string name left others on none in
    record {
      told = sym (ap (λ q. is_some (uid_told q)) step ∙ same_told name (path_in others)) ∙ so.told;
      written = λ y g.
          let here : path_in left ≡ longer (Some name) (Some y) = step ∙ ap (longer (Some name)) g in
          let put = both_put a c (name ++ colon ∷ colon ∷ []) (told_written (Some y)) (word_put name left others on a b c e f) in
          ap (λ q. c ++ encode_utf8_all (told_written q)) g ∙ put
          ∙ ap (λ s. a ++ encode_utf8_all s) (sym (ap told_written here ∙ word_written name y (path_named others y g)))
          ∙ so.written (name ∷ y.0, y.1) here;
    }

-- the last word, and the string behind it
last_is : (name raw : Text) (left others : List Token) → GoesOn name left others → string_alone others ≡ Some ([], chars raw)
    → path_in left ≡ Some (name ∷ [], chars raw)
last_is name raw left others on some = on.path ∙ ap (λ o. longer (Some name) (or_else o (path_in others))) some

pub last_written : {A : Type 0} → (r : Result A Unread) (name raw : Text) (all left others : List Token) (old a b c d : List ℕ) → IsOnPath all left old a
    → GoesOn name left others → string_alone others ≡ Some ([], chars raw) → b ≡ a ++ name → c ≡ b ++ colon ∷ colon ∷ []
    → OnOk r (d ≡ c ++ encode_utf8_all (quote ∷ (chars raw ++ quote ∷ []))) → OnOk r (d ≡ old ++ encode_utf8_all (told_written (path_in all)))
last_written (Err x) name raw all left others old a b c d so on some e f h = tt
last_written (Ok x) name raw all left others old a b c d so on some e f h =
    let here = last_is name raw left others on some in
    let end = quote ∷ (chars raw ++ quote ∷ []) in
    h ∙ both_put a c (name ++ colon ∷ colon ∷ []) end (word_put name left others on a b c e f)
    ∙ ap (λ s. a ++ encode_utf8_all s) (append_assoc name (colon ∷ colon ∷ []) end) ∙ ap (λ q. a ++ encode_utf8_all (told_written q)) (sym here)
    ∙ so.written (name ∷ [], chars raw) here

-- ---- a text

pub tokens_are : (s : Text) (ts : List Token) → IsTokens s ts → tokens_of (chars s) ≡ Some ts
tokens_are s ts are = (reads_tokens (chars s) ts).0 are

pub no_tokens : (s : Text) (e : TokenError) → RefusesText s e → uid_read s ≡ None
no_tokens s token_error.Memory h = absurd h
no_tokens s (token_error.Unexpected place) h = by (tokens_of (chars s)) refl
  where
    by : (o : Option (List Token)) → tokens_of (chars s) ≡ o → and_then o (λ ts. uid_told (path_in ts)) ≡ None
    by None e = refl
    by (Some ts) e = absurd (h.2 ts ((reads_tokens (chars s) ts).1 e))

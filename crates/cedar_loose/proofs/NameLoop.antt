-- What the loop keeps that reads the words of a name.
use Rattle.std.proofs.Common.{◌≡◌, ℕ, zero, suc, ◌<◌, List, [], ◌∷◌, ◌++◌, length, Option, Some, None, Ok, Err, refl, sym, ap, ◌∙◌, arith}
use Rattle.std.proofs.lemmas.List.{append-nil, append_assoc}
use Rattle.cedar_grammar.specs.Token.{Word, Token}
use Rattle.cedar_grammar.specs.Steps.{word_read}
use Rattle.cedar_grammar.specs.Loose.{Ident, ident, Name, missing_name, name}
use Rattle.cedar_grammar.specs.LooseReading.{Fault, syntax, Reading, ◌>>◌, mapped, needed, next_word, qualified, name_next, name_at, name_of}
use Rattle.cedar_grammar.proofs.Basics.{ok_pair, word_read-is, next_word-is}
use Rattle.cedar_loose.specs.declared.error.ReadError.{ReadError}
use Rattle.cedar_loose.specs.Gives.{Fails}
use Rattle.cedar_loose.proofs.Loops.{fails_by}

abbrev WordOf : Option (Word × List Token) → Ident → List Token → Type 0
WordOf o i us = (w : Word) × (o ≡ Some (w, us)) × (i ≡ ident w)

word-of : (o : Option (Word × List Token)) (i : Ident) (us : List Token) → mapped ident (needed o) ≡ Ok (i, us) → WordOf o i us
word-of None i us e = absurd (cc e)
word-of (Some x) i us e = let p = ok_pair e in (x.0, ap (λ q. Some (x.0, q)) p.1, sym p.0)

-- the words of a namespace before a name
abbrev pub under : List Ident → Name → Name
under front missing_name = missing_name
under front (name is i) = name (front ++ is) i

no_words : (read : Reading Name) → mapped (under []) read ≡ read
no_words (Ok (missing_name, ts)) = refl
no_words (Ok (name is i, ts)) = refl
no_words (Err e) = refl

one_word : (front : List Ident) (w : Word) (read : Reading Name) → mapped (under front) (mapped (qualified w) read) ≡ mapped (under (front ++ (ident w ∷ []))) read
one_word front w (Ok (missing_name, ts)) = refl
one_word front w (Ok (name is i, ts)) = ap (λ q. Ok (name q i, ts)) (sym (append_assoc front (ident w ∷ []) is))
one_word front w (Err e) = refl

-- the words so far, the last of them, and those that follow are the whole
pub record Words (front : List Ident) (last : Ident) (ts : List Token) (whole : Reading Name) : Type 0 where
  pub w : Word
  pub is : last ≡ ident w
  pub turns : ℕ
  pub enough : length ts < turns
  pub same : mapped (under front) (name_next (name_at turns) w ts (next_word ts)) ≡ whole

word-fewer : (ts us : List Token) (w : Word) → word_read ts ≡ Some (w, us) → length us < length ts
word-fewer ts us w e = let long = ap length (word_read-is ts us w e) in omega (arith, long)

pub words_start : (ts us : List Token) (i : Ident) → mapped ident (needed (word_read ts)) ≡ Ok (i, us) → Words [] i us (name_of ts)
unfolding name_of name_at
words_start ts us i e =
    let one = word-of (word_read ts) i us e in
    record { w = one.0; is = one.2; turns = length ts; enough = word-fewer ts us one.0 one.1; same = no_words (name_next (name_at (length ts)) one.0 us (next_word us)) ∙ sym (ap (λ o. needed o >> λ w. name_next (name_at (length ts)) w.0 w.1 (next_word w.1)) one.1) }

pub words_first_fails : (e : ReadError) (ts : List Token) → Fails e (mapped ident (needed (word_read ts))) → Fails e (name_of ts)
unfolding name_of name_at
words_first_fails e ts h = fails_by e (mapped ident (needed (word_read ts))) (name_at (suc (length ts)) ts) (λ f i. by f (word_read ts) refl i) h
  where
    by : (f : Fault) (o : Option (Word × List Token)) → word_read ts ≡ o → mapped ident (needed o) ≡ Err f → name_at (suc (length ts)) ts ≡ Err f
    by f None g i = let s : syntax ≡ f = cc i in rw g (ap (λ x. Err x) s)
    by f (Some x) g i = absurd (cc i)

module _ (front : List Ident) (last : Ident) (ts : List Token) (whole : Reading Name) (k : Words front last ts whole) where
  pub words_done : (us : List Token) → (next_word ts ≡ None) × (us ≡ ts) → whole ≡ Ok (name front last, us)
  words_done us o = sym k.same ∙ rw (o.0, k.is, o.1, append-nil front) refl

  module _ (us : List Token) (found : next_word ts ≡ Some us) where
    fail-at : (f : Fault) (n : ℕ) → length ts < n → mapped (under front) (name_next (name_at n) k.w ts (next_word ts)) ≡ whole → mapped ident (needed (word_read us)) ≡ Err f → whole ≡ Err f
    unfolding name_at
    fail-at f zero lt e i = absurd (omega arith)
    fail-at f (suc n) lt e i = by (word_read us) refl i
      where
        by : (o : Option (Word × List Token)) → word_read us ≡ o → mapped ident (needed o) ≡ Err f → whole ≡ Err f
        by None g j = let s : syntax ≡ f = cc j in sym e ∙ rw (found, g) (ap (λ x. Err x) s)
        by (Some x) g j = absurd (cc j)

    pub words_fail : (e : ReadError) → Fails e (mapped ident (needed (word_read us))) → Fails e whole
    words_fail e h = fails_by e (mapped ident (needed (word_read us))) whole (λ f i. fail-at f k.turns k.enough k.same i) h

    module _ (i : Ident) (vs : List Token) (next : mapped ident (needed (word_read us)) ≡ Ok (i, vs)) where
      pub words_fewer : length vs < length ts
      words_fewer = let one = word-of (word_read us) i vs next in let a = word-fewer us vs one.0 one.1 in let b = ap length (next_word-is ts us found) in omega (arith, a, b)

      more-at : (n : ℕ) → length ts < n → mapped (under front) (name_next (name_at n) k.w ts (next_word ts)) ≡ whole → Words (front ++ (last ∷ [])) i vs whole
      unfolding name_at
      more-at zero lt e = absurd (omega arith)
      more-at (suc n) lt e =
          let one = word-of (word_read us) i vs next in
          let turn = ap (name_next (name_at (suc n)) k.w ts) found ∙ ap (λ o. mapped (qualified k.w) (needed o >> λ w. name_next (name_at n) w.0 w.1 (next_word w.1))) one.1 in
          record {
            w = one.0;
            is = one.2;
            turns = n;
            enough = let a = words_fewer in omega arith;
            same = ap (λ l. mapped (under (front ++ (l ∷ []))) (name_next (name_at n) one.0 vs (next_word vs))) k.is ∙ (sym (one_word front k.w (name_next (name_at n) one.0 vs (next_word vs))) ∙ (sym (ap (mapped (under front)) turn) ∙ e));
          }

      pub words_more : Words (front ++ (last ∷ [])) i vs whole
      words_more = more-at k.turns k.enough k.same

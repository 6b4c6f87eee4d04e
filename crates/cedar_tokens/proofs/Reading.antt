-- The tokens read so far, and those that are left.
use Rattle.std.proofs.Common.{◌≡◌, ℕ, zero, suc, ◌-◌, ◌<◌, ◌≤◌, List, [], ◌∷◌, ◌++◌, length, drop, Option, Some, None, refl, sym, ap, ◌∙◌, append_assoc, append-nil, arith}
use Rattle.std.specs.Str.{chars, IsUtf8}
use Rattle.cedar_grammar.specs.Token.{Token}
use Rattle.cedar_grammar.specs.Tokens.{IsTokens, after_blank, token_read, token_then, tokens_step, tokens_at, tokens_of}
use Rattle.cedar_grammar.proofs.TokensComplete.{reads_tokens}
use Rattle.cedar_tokens.specs.declared.tokens.Token as placed
use Rattle.cedar_tokens.specs.View.{token_of}
use Rattle.cedar_tokens.specs.Rest.{IsRest}
use Rattle.cedar_tokens.specs.Reads.{ReadsToken}
use Rattle.cedar_tokens.specs.Places.{StandsIn, ArePlaced}
use Rattle.cedar_tokens.proofs.Rests.{chars-short, chars-shorter, rest_rest}

-- tokens, and then what was read
abbrev pub after_tokens : List Token → Option (List Token) → Option (List Token)
after_tokens ts None = None
after_tokens ts (Some us) = Some (ts ++ us)

-- the tokens of the text are those done, and then those of the rest, at which no white space stands
pub record Left (text rest : List ℕ) (done : List Token) : Type 0 where
  pub turns : ℕ
  pub enough : length (chars rest) ≤ turns
  pub same : after_tokens done (tokens_step (tokens_at turns) (chars rest)) ≡ tokens_of (chars text)

none-after : (o : Option (List Token)) → after_tokens [] o ≡ o
none-after None = refl
none-after (Some us) = refl

pub left_all : (text rest : List ℕ) → IsUtf8 text → IsRest text rest → chars rest ≡ after_blank (chars text) → Left text rest []
unfolding tokens_of tokens_at
left_all text rest u r e =
    record {
      turns = length (chars text);
      enough = chars-short text rest u r;
      same = none-after (tokens_step (tokens_at (length (chars text))) (chars rest)) ∙ ap (tokens_step (tokens_at (length (chars text)))) e;
    }

step-some : (more : List ℕ → Option (List Token)) (cs : List ℕ) (k : ℕ) → k < length cs → tokens_step more cs ≡ token_then more (token_read cs)
step-some more [] k lt = absurd (omega arith)
step-some more (c ∷ cs) k lt = refl

abbrev then_of : Token → Option (List Token) → Option (List Token)
then_of t o = elim o as (λ _. Option (List Token)) [ None ↦ None | Some ts ↦ Some (t ∷ ts) ]

after-then : (done : List Token) (t : Token) (o : Option (List Token)) → after_tokens done (then_of t o) ≡ after_tokens (done ++ (t ∷ [])) o
after-then done t None = refl
after-then done t (Some us) = ap Some (sym (append_assoc done (t ∷ []) us))

turn : (text rest after next : List ℕ) (done : List Token) (t : Token) (turns : ℕ) → length (chars rest) ≤ turns → length (chars after) < length (chars rest) → length (chars next) ≤ length (chars after)
    → after_tokens done (tokens_step (tokens_at turns) (chars rest)) ≡ tokens_of (chars text) → token_read (chars rest) ≡ Some (t, chars after) → chars next ≡ after_blank (chars after) → Left text next (done ++ (t ∷ []))
unfolding tokens_at
turn text rest after next done t zero lt shorter short same read blank = absurd (omega arith)
turn text rest after next done t (suc k) lt shorter short same read blank =
    record {
      turns = k;
      enough = omega arith;
      same =
          sym (after-then done t (tokens_step (tokens_at k) (chars next)))
          ∙ ap (λ cs. after_tokens done (then_of t (tokens_step (tokens_at k) cs))) blank
          ∙ ap (λ o. after_tokens done (token_then (tokens_at (suc k)) o)) (sym read)
          ∙ ap (after_tokens done) (sym (step-some (tokens_at (suc k)) (chars rest) (length (chars after)) shorter))
          ∙ same;
    }

pub left_more : (text rest after next : List ℕ) (done : List Token) (t : Token) → Left text rest done → IsUtf8 rest → ReadsToken rest t after → IsRest after next → chars next ≡ after_blank (chars after) → Left text next (done ++ (t ∷ []))
left_more text rest after next done t left u r s blank =
    turn text rest after next done t left.turns left.enough (chars-shorter rest after u r.cut r.shorter) (chars-short after next r.cut.utf8 s) left.same r.token blank

pub left_none : (text rest : List ℕ) (done : List Token) → Left text rest done → chars rest ≡ [] → IsTokens text done
left_none text rest done left e =
    (reads_tokens (chars text) done).1
    (sym (ap (λ cs. after_tokens done (tokens_step (tokens_at left.turns) cs)) (sym e) ∙ left.same) ∙ ap Some (append-nil done))

pub left_stuck : (text rest : List ℕ) (done : List Token) → Left text rest done → 0 < length (chars rest) → token_read (chars rest) ≡ None → (ts : List Token) → ¬ IsTokens text ts
left_stuck text rest done left some read ts is =
    let one : tokens_of (chars text) ≡ Some ts = (reads_tokens (chars text) ts).0 is in
    let two : tokens_of (chars text) ≡ None = sym left.same ∙ ap (after_tokens done) (step-some (tokens_at left.turns) (chars rest) 0 some ∙ ap (token_then (tokens_at left.turns)) read) in
    let three : None ≡ Some ts = sym two ∙ one in cc three

-- ---- places

pub placed_more : (text : List ℕ) (from upto : ℕ) (ts : List placed.Token) (t : placed.Token) → ArePlaced text from ts upto → upto ≤ t.span.start → StandsIn text t → (next : ℕ) → t.span.end ≤ next → ArePlaced text from (ts ++ (t ∷ [])) next
placed_more text from upto [] t h le s next below = (omega arith, s, below)
placed_more text from upto (u ∷ us) t h le s next below = (h.0, h.1, placed_more text u.span.end upto us t h.2 le s next below)

-- the token that was read of the rest of a text
pub stands : (text rest after : List ℕ) (t : placed.Token) → IsRest text rest → ReadsToken rest (token_of t) after → t.span.start ≡ length text - length rest → t.span.end ≡ length text - length after → StandsIn text t
stands text rest after t r read s e =
    let past = rest_rest text rest after r read.cut in
    record {
      long = let one = r.short in let two = read.shorter in omega arith;
      read =
          ap (λ n. token_read (chars (drop n text))) s ∙ ap (λ x. token_read (chars x)) r.bytes ∙ read.token
          ∙ ap (λ x. Some (token_of t, chars x)) (sym past.bytes) ∙ ap (λ n. Some (token_of t, chars (drop n text))) (sym e);
    }

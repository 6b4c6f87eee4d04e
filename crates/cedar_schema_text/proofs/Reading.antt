-- The tokens read so far, and those that are left.
use Rattle.std.proofs.Common.{◌≡◌, ℕ, zero, suc, ◌<◌, ◌≤◌, List, [], ◌∷◌, ◌++◌, length, Option, Some, None, refl, sym, ap, ◌∙◌, append_assoc, append-nil, arith}
use Rattle.std.specs.Str.{chars, IsUtf8}
use Rattle.cedar_grammar.specs.Tokens.{after_blank}
use Rattle.cedar_tokens.specs.Rest.{IsRest}
use Rattle.cedar_schema_grammar.specs.Tokens.{Token, before, token_then, tokens_step, tokens_at, tokens_of}
use Rattle.cedar_schema_text.specs.Reads.{front_read, ReadsToken}
use Rattle.cedar_tokens.proofs.Rests.{chars-short, chars-shorter}

-- tokens, and then what was read
abbrev pub after_tokens : List Token → Option (List Token) → Option (List Token)
after_tokens ts None = None
after_tokens ts (Some us) = Some (ts ++ us)

-- the tokens of the text are those done, and then those of the rest, at which no white space stands
pub record Left (text rest : List ℕ) (done : List Token) : Type 0 where
  pub turns : ℕ
  pub enough : length (chars rest) ≤ turns
  pub same : after_tokens done (tokens_step (tokens_at turns) (chars rest)) ≡ tokens_of (chars text)

none-after : (o : Option (List Token)) → after_tokens [] o ≡ o
none-after None = refl
none-after (Some us) = refl

pub left_all : (text rest : List ℕ) → IsUtf8 text → IsRest text rest → chars rest ≡ after_blank (chars text) → Left text rest []
unfolding tokens_of tokens_at
left_all text rest u r e =
    record {
      turns = length (chars text);
      enough = chars-short text rest u r;
      same = none-after (tokens_step (tokens_at (length (chars text))) (chars rest)) ∙ ap (tokens_step (tokens_at (length (chars text)))) e;
    }

step-some : (more : List ℕ → Option (List Token)) (cs : List ℕ) (k : ℕ) → k < length cs → tokens_step more cs ≡ token_then more (front_read cs)
step-some more [] k lt = absurd (omega arith)
step-some more (c ∷ cs) k lt = refl

after-then : (done : List Token) (t : Token) (o : Option (List Token)) → after_tokens done (before t o) ≡ after_tokens (done ++ (t ∷ [])) o
after-then done t None = refl
after-then done t (Some us) = ap Some (sym (append_assoc done (t ∷ []) us))

turn : (text rest after next : List ℕ) (done : List Token) (t : Token) (turns : ℕ) → length (chars rest) ≤ turns → length (chars after) < length (chars rest) → length (chars next) ≤ length (chars after)
    → after_tokens done (tokens_step (tokens_at turns) (chars rest)) ≡ tokens_of (chars text) → front_read (chars rest) ≡ Some (t, chars after) → chars next ≡ after_blank (chars after) → Left text next (done ++ (t ∷ []))
unfolding tokens_at
turn text rest after next done t zero lt shorter short same read blank = absurd (omega arith)
turn text rest after next done t (suc k) lt shorter short same read blank =
    record {
      turns = k;
      enough = omega arith;
      same =
          sym (after-then done t (tokens_step (tokens_at k) (chars next)))
          ∙ ap (λ cs. after_tokens done (before t (tokens_step (tokens_at k) cs))) blank
          ∙ ap (λ o. after_tokens done (token_then (tokens_at (suc k)) o)) (sym read)
          ∙ ap (after_tokens done) (sym (step-some (tokens_at (suc k)) (chars rest) (length (chars after)) shorter))
          ∙ same;
    }

pub left_more : (text rest after next : List ℕ) (done : List Token) (t : Token) → Left text rest done → IsUtf8 rest → ReadsToken rest t after → IsRest after next → chars next ≡ after_blank (chars after) → Left text next (done ++ (t ∷ []))
left_more text rest after next done t left u r s blank =
    turn text rest after next done t left.turns left.enough (chars-shorter rest after u r.cut r.shorter) (chars-short after next r.cut.utf8 s) left.same r.token blank

pub left_none : (text rest : List ℕ) (done : List Token) → Left text rest done → chars rest ≡ [] → tokens_of (chars text) ≡ Some done
left_none text rest done left e =
    sym (ap (λ cs. after_tokens done (tokens_step (tokens_at left.turns) cs)) (sym e) ∙ left.same) ∙ ap Some (append-nil done)

pub left_stuck : (text rest : List ℕ) (done : List Token) → Left text rest done → 0 < length (chars rest) → front_read (chars rest) ≡ None → tokens_of (chars text) ≡ None
left_stuck text rest done left some read =
    sym left.same ∙ ap (after_tokens done) (step-some (tokens_at left.turns) (chars rest) 0 some ∙ ap (token_then (tokens_at left.turns)) read)

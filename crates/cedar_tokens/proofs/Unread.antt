-- Tokens that are read one at a time.
use Rattle.std.proofs.Common.{◌≡◌, ℕ, List, [], ◌∷◌, Option, Some, None, refl, sym, ap, ◌∙◌, subst}
use Rattle.std.specs.Prelude.{IsSome}
use Rattle.std.specs.Str.{chars}
use Rattle.cedar_grammar.specs.Token.{Token}
use Rattle.cedar_grammar.specs.Tokens.{AreTokens, none, next, after_blank, token_read, tokens_at, tokens_of}
use Rattle.cedar_grammar.proofs.Parts.{some_pair}
use Rattle.cedar_grammar.proofs.TokensComplete.{blank-complete, blank-nil, front-blank, front-complete, reads_tokens}
use Rattle.cedar_tokens.specs.declared.tokens.Token as placed
use Rattle.cedar_tokens.specs.View.{token_of}
use Rattle.cedar_tokens.specs.Unread.{without_first, listed, all_tokens, next_and_others, IsReadable}
use Rattle.cedar_tokens.proofs.Reading.{Left}

-- the tokens of the text are some, and then those of the rest
pub record Passed (text rest : List ℕ) : Type 0 where
  pub done : List Token
  pub left : Left text rest done

pub some_tokens : (cs : List ℕ) (ts : List Token) → AreTokens cs ts → IsSome (tokens_of cs)
some_tokens cs ts are = subst IsSome (sym ((reads_tokens cs ts).0 are)) refl

listed_tokens : (cs : List ℕ) (ts : List Token) → AreTokens cs ts → all_tokens cs ≡ ts
listed_tokens cs ts are = ap listed ((reads_tokens cs ts).0 are)

pub are_tokens : (cs : List ℕ) → IsSome (tokens_of cs) → AreTokens cs (all_tokens cs)
are_tokens cs some = (reads_tokens cs (all_tokens cs)).1 (by (tokens_of cs) some)
  where
    by : (o : Option (List Token)) → IsSome o → o ≡ Some (listed o)
    by None h = absurd (cc h)
    by (Some ts) h = refl

nothing_read : token_read [] ≡ None
unfolding token_read
nothing_read = refl

-- behind the token that is read first stand the others
abbrev Reads : List Token → Token → List ℕ → Type 0
Reads ts t after = (us : List Token) × (ts ≡ t ∷ us) × AreTokens after us

reads : (cs : List ℕ) (ts : List Token) (t : Token) (after : List ℕ) → AreTokens cs ts → token_read (after_blank cs) ≡ Some (t, after) → Reads ts t after
reads cs ts t after (none b) e =
    let no : None ≡ Some (t, after) = sym nothing_read ∙ ap token_read (sym (blank-complete cs [] b blank-nil)) ∙ e in absurd (cc no)
reads cs ts t after (next u mid more {ts = us} b f d) e =
    let at : after_blank cs ≡ mid = blank-complete cs mid b (front-blank mid u more f) in
    let same = some_pair (sym (front-complete mid u more f) ∙ ap token_read (sym at) ∙ e) in
    (us, ap (λ x. x ∷ us) same.0, subst (λ x. AreTokens x us) same.1 d)

pub next_read : (cs after : List ℕ) (t : placed.Token) → IsSome (tokens_of cs) → token_read (after_blank cs) ≡ Some (token_of t, after) → IsSome (tokens_of after) × (next_and_others (Some t) after ≡ all_tokens cs)
next_read cs after t some e =
    let read = reads cs (all_tokens cs) (token_of t) after (are_tokens cs some) e in
    (some_tokens after read.0 read.2, ap (λ us. token_of t ∷ us) (listed_tokens after read.0 read.2) ∙ sym read.1)

ends : (cs : List ℕ) (ts : List Token) → AreTokens cs ts → token_read (after_blank cs) ≡ None → (after_blank cs ≡ []) × (ts ≡ [])
ends cs ts (none b) e = (blank-complete cs [] b blank-nil, refl)
ends cs ts (next u mid more {ts = us} b f d) e =
    let at : after_blank cs ≡ mid = blank-complete cs mid b (front-blank mid u more f) in
    let no : Some (u, more) ≡ None = sym (front-complete mid u more f) ∙ ap token_read (sym at) ∙ e in absurd (cc no)

pub none_read : (cs : List ℕ) → IsSome (tokens_of cs) → token_read (after_blank cs) ≡ None → (after_blank cs ≡ []) × ([] ≡ all_tokens cs)
none_read cs some e = let end = ends cs (all_tokens cs) (are_tokens cs some) e in (end.0, sym end.1)

end_tokens : tokens_of [] ≡ Some []
unfolding tokens_of tokens_at after_blank
end_tokens = refl

pub end_some : (cs : List ℕ) → cs ≡ [] → IsSome (tokens_of cs)
end_some cs e = subst (λ x. IsSome (tokens_of x)) (sym e) (subst IsSome (sym end_tokens) refl)

pub others_left : (text : List ℕ) (first : Option placed.Token) (rest : List ℕ) → IsReadable text first rest → all_tokens (chars rest) ≡ without_first (next_and_others first (chars rest))
others_left text None rest h = ap all_tokens h.first ∙ ap listed end_tokens
others_left text (Some t) rest h = refl

-- Tokens of which each is one of some text are the tokens of a text, with a line feed behind each.
use Rattle.std.proofs.Common.{◌≡◌, ℕ, Bool, true, false, List, [], ◌∷◌, ◌++◌, refl, sym, ap, ◌∙◌, subst}
use Rattle.std.specs.Prelude.{All, IsUtf8, encode_utf8_all}
use Rattle.std.specs.Str.{chars}
use Rattle.std.proofs.lemmas.List.{append_assoc, append-nil}
use Rattle.std.proofs.lemmas.List.Elements.{All-nil, All-cons, All-head, All-tail}
use Rattle.std.proofs.lemmas.Str.{IsUtf8-nil, IsUtf8-append, chars-nil, chars-append, chars-encodes, scalars-chars}
use lib.Utf8.{scalar, scalars}
use Rattle.cedar_language.specs.Uid.{Text}
use Rattle.cedar_grammar.specs.Token.{Token}
use Rattle.cedar_grammar.specs.Tokens.{line_feed, Run, ends, goes_on, is_in_line, Blank, nothing, space, comment, Front, AreTokens, IsTokens, none, next}
use Rattle.cedar_grammar.specs.Policies.{IsToken}
use Rattle.cedar_grammar.specs.Laws.{OneToken, TokensOfTexts}
use Rattle.cedar_grammar.proofs.Parts.{some_pair}
use Rattle.cedar_grammar.proofs.TokensComplete.{front-complete}
use Rattle.cedar_grammar.proofs.Gaps.{StartsAs, blank-move, blank-join, front-cut, front-visible, front-split, blank-split, and-true}

pub one_token : OneToken
one_token cs t u rest more d e = some_pair (sym (front-complete cs t rest d) ∙ front-complete cs u more e)

-- ---- a line feed behind a token

run-on : (test : ℕ → Bool) (cs front rest more : List ℕ) → test line_feed ≡ false → Run test cs front rest → Run test (cs ++ (line_feed ∷ more)) front (rest ++ (line_feed ∷ more))
run-on test [] front rest more e (ends h) = ends e
run-on test (c ∷ cs) front rest more e (ends h) = ends h
run-on test cs front rest more e (goes_on c {cs = ds} {front = gs} f d) = goes_on c f (run-on test ds gs rest more e d)

-- a line feed ends a comment at the end of the text
blank-on : (cs mid more : List ℕ) → mid ≡ [] → Blank cs mid → Blank (cs ++ (line_feed ∷ more)) more
blank-on cs mid more e nothing = subst (λ q. Blank (q ++ (line_feed ∷ more)) more) (sym e) (space line_feed refl nothing)
blank-on cs mid more e (space c {cs = ds} w d) = space c w (blank-on ds mid more e d)
blank-on cs mid more e (comment c d {cs = ds} {front} {mid = ms} g h r b) = comment c d g h (run-on is_in_line ds front ms more refl r) (blank-on ms mid more e b)

starts-on : (after more : List ℕ) → StartsAs after (after ++ (line_feed ∷ more))
starts-on [] more test w h = w line_feed refl
starts-on (c ∷ after) more test w h = h

after-blank : (cs ds : List ℕ) (ts : List Token) → Blank cs ds → AreTokens ds ts → AreTokens cs ts
after-blank cs ds ts b (none c) = none (blank-join cs ds [] b c)
after-blank cs ds ts b (next t mid after c f d) = next t mid after (blank-join cs ds mid b c) f d

one-more : (cs ds : List ℕ) (t : Token) (ts : List Token) → AreTokens cs (t ∷ []) → AreTokens ds ts → AreTokens (cs ++ (line_feed ∷ ds)) (t ∷ ts)
one-more cs ds t ts (next u mid after b f (none c)) d =
    let v = blank-split cs mid b in
    let w = front-split mid t after f in
    let rest = after ++ (line_feed ∷ ds) in
    let front = front-cut mid t after f w.0 after rest w.1 refl (starts-on after ds) in
    let blank = blank-move cs mid b v.0 mid (w.0 ++ rest) v.1 refl (front-visible mid t after f) in
    let same : v.0 ++ (w.0 ++ rest) ≡ cs ++ (line_feed ∷ ds) = ap (λ q. v.0 ++ q) (sym (append_assoc w.0 after (line_feed ∷ ds)) ∙ ap (λ q. q ++ (line_feed ∷ ds)) (sym w.1)) ∙ sym (append_assoc v.0 mid (line_feed ∷ ds)) ∙ ap (λ q. q ++ (line_feed ∷ ds)) (sym v.1) in
    subst (λ q. AreTokens q (t ∷ ts)) same (next t (w.0 ++ rest) rest blank front (after-blank rest ds ts (blank-on after [] ds refl c) d))

text-of : (ts : List Token) → All IsToken ts → (bytes : Text) × IsUtf8 bytes × IsTokens bytes ts
unfolding lib.Utf8.encode
text-of [] h = ([], IsUtf8-nil, subst (λ q. AreTokens q []) (sym chars-nil) (none nothing))
text-of (t ∷ ts) h =
    let one = All-head IsToken t ts h in
    let more = text-of ts (All-tail IsToken t ts h) in
    let line : Text = line_feed ∷ [] in
    let utf8 : IsUtf8 line = (line, (refl, refl)) in
    let same = chars-append one.0 (line ++ more.0) one.1 ∙ ap (λ q. chars one.0 ++ q) (chars-append line more.0 utf8 ∙ ap (λ q. q ++ chars more.0) (chars-encodes line refl)) in
    (one.0 ++ (line ++ more.0), IsUtf8-append one.0 (line ++ more.0) one.1 (IsUtf8-append line more.0 utf8 more.1), subst (λ q. AreTokens q (t ∷ ts)) (sym same) (one-more (chars one.0) (chars more.0) t ts one.2 more.2))

-- ---- each token of a text alone

scalars-front : (cs ds : List ℕ) → scalars (cs ++ ds) ≡ true → scalars cs ≡ true
scalars-front [] ds e = refl
scalars-front (c ∷ cs) ds e = let v = and-true (scalar c) (scalars (cs ++ ds)) e in rw (v.0, scalars-front cs ds v.1)

scalars-rest : (cs ds : List ℕ) → scalars (cs ++ ds) ≡ true → scalars ds ≡ true
scalars-rest [] ds e = e
scalars-rest (c ∷ cs) ds e = scalars-rest cs ds (and-true (scalar c) (scalars (cs ++ ds)) e).1

alone : (mid : List ℕ) (t : Token) (after : List ℕ) → scalars mid ≡ true → Front mid t after → IsToken t
alone mid t after e f =
    let w = front-split mid t after f in
    let plain = scalars-front w.0 after (ap scalars (sym w.1) ∙ e) in
    let front = subst (λ q. Front q t []) (append-nil w.0) (front-cut mid t after f w.0 after [] w.1 refl (λ test white h. tt)) in
    (encode_utf8_all w.0, (w.0, (plain, refl)), subst (λ q. AreTokens q (t ∷ [])) (sym (chars-encodes w.0 plain)) (next t w.0 [] nothing front (none nothing)))

each-alone : (cs : List ℕ) (ts : List Token) → scalars cs ≡ true → AreTokens cs ts → All IsToken ts
each-alone cs ts e (none b) = All-nil IsToken
each-alone cs ts e (next t mid after {ts = us} b f d) =
    let v = blank-split cs mid b in
    let w = front-split mid t after f in
    let at = scalars-rest v.0 mid (ap scalars (sym v.1) ∙ e) in
    All-cons IsToken t us (alone mid t after at f) (each-alone after us (scalars-rest w.0 after (ap scalars (sym w.1) ∙ at)) d)

pub tokens_of_texts : TokensOfTexts
tokens_of_texts ts = (text-of ts, λ r. each-alone (chars r.0) ts (scalars-chars r.0 r.1) r.2)

-- The tokens of a name that a text spells.
use Rattle.std.proofs.Common.{◌≡◌, ◌≢◌, ℕ, Bool, true, false, cond, ◌&&◌, Some, None, is_some, List, [], ◌∷◌, ◌++◌, drop, refl, sym, ap, ◌∙◌, subst, append_assoc}
use Rattle.std.specs.Prelude.{◌==◌, IsUtf8}
use Rattle.std.specs.List.{list_all}
use Rattle.std.specs.Str.{bytes_eq, chars}
use Rattle.std.proofs.lemmas.Slice.Eq.{bytes_eq-Decides}
use Rattle.std.proofs.lemmas.Bool.{eqb-true, and_parts}
use Rattle.cedar_language.specs.Uid.{Text, Name}
use Rattle.cedar_grammar.specs.Grammar.{Ids, one_id, more_ids}
use Rattle.cedar_grammar.specs.Token as token
use Rattle.cedar_grammar.specs.Token.{Word, Token, word, mark, spelled, word_of, word_among, named_words, id_of}
use Rattle.cedar_grammar.specs.Tokens.{colon, begins_word, is_in_word, Stops, AreTokens}
use Rattle.cedar_world.specs.Bodies.{onto_first, words_between, behind_colon, is_free_word, name_spelled}
pub use Rattle.cedar_json.specs.Written.{path}
use Rattle.cedar_json.proofs.Tokens.{in_front, two_colons, word_front, is_small, word_small, first_in_word, all_weaker, all_append, small_chars}

-- ---- words that aren't reserved

step : (P : Word → Type 0) (w : Word) (ws : List Word) (s : Text) → (spelled w ≡ s → P w) → P (word_among ws s) → P (word_among (w ∷ ws) s)
step P w ws s h k = by (bytes_eq (spelled w) s) refl
  where
    by : (b : Bool) → bytes_eq (spelled w) s ≡ b → P (word_among (w ∷ ws) s)
    by true e = rw e (h ((bytes_eq-Decides (spelled w) s).0 e))
    by false e = rw e k

-- what is no reserved word is its own identifier
pub free_word_is : (s : Text) → is_some (id_of (word_of s)) ≡ true → id_of (word_of s) ≡ Some s
free_word_is s =
    let P : Word → Type 0 = λ w. is_some (id_of w) ≡ true → id_of w ≡ Some s in
    step P token.True (drop 1 named_words) s (λ e q. absurd (cc q))
    (step P token.False (drop 2 named_words) s (λ e q. absurd (cc q))
    (step P token.If (drop 3 named_words) s (λ e q. absurd (cc q))
    (step P token.Then (drop 4 named_words) s (λ e q. absurd (cc q))
    (step P token.Else (drop 5 named_words) s (λ e q. absurd (cc q))
    (step P token.In (drop 6 named_words) s (λ e q. absurd (cc q))
    (step P token.Like (drop 7 named_words) s (λ e q. absurd (cc q))
    (step P token.Has (drop 8 named_words) s (λ e q. absurd (cc q))
    (step P token.Is (drop 9 named_words) s (λ e q. absurd (cc q))
    (step P token.Cedar (drop 10 named_words) s (λ e q. absurd (cc q))
    (step P token.Permit (drop 11 named_words) s (λ e q. ap Some e)
    (step P token.Forbid (drop 12 named_words) s (λ e q. ap Some e)
    (step P token.When (drop 13 named_words) s (λ e q. ap Some e)
    (step P token.Unless (drop 14 named_words) s (λ e q. ap Some e)
    (step P token.Principal (drop 15 named_words) s (λ e q. ap Some e)
    (step P token.Action (drop 16 named_words) s (λ e q. ap Some e)
    (step P token.Resource (drop 17 named_words) s (λ e q. ap Some e)
    (step P token.Context (drop 18 named_words) s (λ e q. ap Some e) (λ q. refl))))))))))))))))))

pub record FreeWord (c : ℕ) (cs : Text) : Type 0 where
  pub first : begins_word c ≡ true
  pub others : list_all is_in_word cs ≡ true
  pub id : id_of (word_of (c ∷ cs)) ≡ Some (c ∷ cs)

pub free_word : (c : ℕ) (cs : Text) → is_free_word (c ∷ cs) ≡ true → FreeWord c cs
free_word c cs h =
    let both = and_parts (begins_word c && list_all is_in_word cs) (is_some (id_of (word_of (c ∷ cs)))) h in
    let word_ = and_parts (begins_word c) (list_all is_in_word cs) both.0 in
    record { first = word_.0; others = word_.1; id = free_word_is (c ∷ cs) both.1 }

-- ---- the words of a name, with `::` between them

onto_text : (c : ℕ) (ws : List Text) → path (onto_first c ws) ≡ c ∷ path ws
onto_text c [] = refl
onto_text c (w ∷ []) = refl
onto_text c (w ∷ v ∷ vs) = refl

nothing_before : (ws : List Text) → ws ≢ [] → path ([] ∷ ws) ≡ colon ∷ colon ∷ path ws
nothing_before [] some = absurd (some refl)
nothing_before (w ∷ ws) some = refl

onto_some : (c : ℕ) (ws : List Text) → onto_first c ws ≢ []
onto_some c [] e = cc
onto_some c (w ∷ ws) e = cc

some_by : (c : ℕ) (ws vs : List Text) → vs ≢ [] → (b : Bool) → (elim b as (λ _. List Text) [ true ↦ vs | false ↦ onto_first c ws ]) ≢ []
some_by c ws vs some true e = some e
some_by c ws vs some false e = onto_some c ws e

mutual
  pub some_words : (s : Text) → words_between s ≢ []
  some_words [] = λ e. cc
  some_words (c ∷ cs) = some_by c (words_between cs) (behind_colon cs) (some_behind cs) (c == colon)

  some_behind : (s : Text) → behind_colon s ≢ []
  some_behind [] = λ e. cc
  some_behind (c ∷ cs) = some_by colon (onto_first c (words_between cs)) ([] ∷ words_between cs) (λ e. cc) (c == colon)

joined_by : (c : ℕ) (cs : Text) → path (words_between cs) ≡ cs → path (behind_colon cs) ≡ colon ∷ cs → (b : Bool) → (c == colon) ≡ b →
    path (elim b as (λ _. List Text) [ true ↦ behind_colon cs | false ↦ onto_first c (words_between cs) ]) ≡ c ∷ cs
joined_by c cs words behind true e = behind ∙ ap (λ (d : ℕ). d ∷ cs) (sym (eqb-true c colon e))
joined_by c cs words behind false e = onto_text c (words_between cs) ∙ ap (λ (t : Text). c ∷ t) words

behind_by : (c : ℕ) (cs : Text) → path (words_between cs) ≡ cs → (b : Bool) → (c == colon) ≡ b →
    path (elim b as (λ _. List Text) [ true ↦ [] ∷ words_between cs | false ↦ onto_first colon (onto_first c (words_between cs)) ]) ≡ colon ∷ c ∷ cs
behind_by c cs words true e =
    nothing_before (words_between cs) (some_words cs) ∙ ap (λ (t : Text). colon ∷ colon ∷ t) words ∙ ap (λ (d : ℕ). colon ∷ d ∷ cs) (sym (eqb-true c colon e))
behind_by c cs words false e =
    onto_text colon (onto_first c (words_between cs)) ∙ ap (λ (t : Text). colon ∷ t) (onto_text c (words_between cs) ∙ ap (λ (t : Text). c ∷ t) words)

mutual
  pub joined : (s : Text) → path (words_between s) ≡ s
  joined [] = refl
  joined (c ∷ cs) = joined_by c cs (joined cs) (joined_behind cs) (c == colon) refl

  joined_behind : (s : Text) → path (behind_colon s) ≡ colon ∷ s
  joined_behind [] = refl
  joined_behind (c ∷ cs) = behind_by c cs (joined cs) (c == colon) refl

-- the text is this name's path, of words that aren't reserved
pub record IsNamed (s : Text) (p : Name) : Type 0 where
  pub spelled : s ≡ path p
  pub free : list_all is_free_word p ≡ true
  pub some : p ≢ []

pub is_named : (s : Text) (p : Name) → name_spelled s ≡ Some p → IsNamed s p
is_named s p e = by (list_all is_free_word (words_between s)) refl e
  where
    by : (b : Bool) → list_all is_free_word (words_between s) ≡ b → cond b (Some (words_between s)) None ≡ Some p → IsNamed s p
    by true h e = let same : words_between s ≡ p = cc e in subst (IsNamed s) same (record { spelled = sym (joined s); free = h; some = some_words s })
    by false h e = absurd (cc e)

-- ---- its tokens

abbrev pub PathRead : List ℕ → Name → List Token → Type 0
PathRead cs p us = (ts : List Token) × AreTokens cs ts × Ids token.ColonColon ts p us

pub path_read : (p : Name) (rest : List ℕ) (us : List Token) → list_all is_free_word p ≡ true → p ≢ [] → Stops is_in_word rest → AreTokens rest us
    → PathRead (path p ++ rest) p us
path_read [] rest us h some stop are = absurd (some refl)
path_read ([] ∷ ws) rest us h some stop are = absurd (cc h)
path_read ((c ∷ cs) ∷ []) rest us h some stop are =
    let w = free_word c cs (and_parts (is_free_word (c ∷ cs)) true h).0 in
    (word (word_of (c ∷ cs)) ∷ us, in_front _ _ rest us (word_front c cs rest w.first w.others stop) are, one_id w.id)
path_read ((c ∷ cs) ∷ v ∷ vs) rest us h some stop are =
    let both = and_parts (is_free_word (c ∷ cs)) (list_all is_free_word (v ∷ vs)) h in
    let w = free_word c cs both.0 in
    let more = path_read (v ∷ vs) rest us both.1 (λ e. cc) stop are in
    let after = colon ∷ colon ∷ (path (v ∷ vs) ++ rest) in
    let colons = in_front (mark token.ColonColon) after (path (v ∷ vs) ++ rest) more.0 (two_colons (path (v ∷ vs) ++ rest)) more.1 in (
      word (word_of (c ∷ cs)) ∷ mark token.ColonColon ∷ more.0,
      subst (λ x. AreTokens (c ∷ x) (word (word_of (c ∷ cs)) ∷ mark token.ColonColon ∷ more.0)) (sym (append_assoc cs (colon ∷ colon ∷ path (v ∷ vs)) rest))
          (in_front _ _ after (mark token.ColonColon ∷ more.0) (word_front c cs after w.first w.others refl) colons),
      more_ids w.id more.2,
    )

-- ---- its characters

pub path_small : (p : Name) → list_all is_free_word p ≡ true → list_all is_small (path p) ≡ true
path_small [] h = refl
path_small ([] ∷ ws) h = absurd (cc h)
path_small ((c ∷ cs) ∷ []) h =
    let w = free_word c cs (and_parts (is_free_word (c ∷ cs)) true h).0 in
    all_weaker is_in_word is_small word_small (c ∷ cs) (rw (first_in_word c w.first) w.others)
path_small ((c ∷ cs) ∷ v ∷ vs) h =
    let both = and_parts (is_free_word (c ∷ cs)) (list_all is_free_word (v ∷ vs)) h in
    let w = free_word c cs both.0 in
    all_append is_small (c ∷ cs) (colon ∷ colon ∷ path (v ∷ vs)) (all_weaker is_in_word is_small word_small (c ∷ cs) (rw (first_in_word c w.first) w.others))
    (path_small (v ∷ vs) both.1)

-- the characters of a text that is a name's path
pub named_chars : (s : Text) (p : Name) → IsUtf8 s → IsNamed s p → chars s ≡ path p
named_chars s p u named = small_chars s u (subst (λ x. list_all is_small x ≡ true) (sym named.spelled) (path_small p named.free)) ∙ named.spelled

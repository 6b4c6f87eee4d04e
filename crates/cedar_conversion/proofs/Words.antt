-- Words, by their spelling.
use Rattle.std.proofs.Common.{◌≡◌, ◌<◌, length, arith, Bool, true, false, List, [], ◌∷◌, drop, refl, sym, ap, ◌∙◌, Option, Some, None}
use Rattle.std.specs.Prelude.{cond, not, ◌&&◌}
use Rattle.std.specs.Str.{bytes_eq}
use Rattle.std.proofs.lemmas.Bool.{and_parts}
use Rattle.std.proofs.lemmas.Slice.Eq.{bytes_eq-Decides}
use Rattle.cedar_language.specs.Uid.{Text}
use Rattle.cedar_grammar.specs.Token as token
use Rattle.cedar_grammar.specs.Token.{Word, Other, spelled, word_of, word_among, named_words, id_of}
use Rattle.cedar_grammar.specs.Names.{variable_of}
use Rattle.cedar_names.specs.Identifiers.{is_identifier, is_keyword, is_id, IsUnreservedId}
use Rattle.cedar_grammar.specs.Loose as loose
use Rattle.cedar_grammar.specs.Converting.{ident_text, ident_spelling, name_variable}
use Rattle.cedar_cst.specs.LeafView.{written_ident}
use Rattle.cedar_grammar.specs.Steps.{◌>>=◌}
use Rattle.cedar_faults.proofs.Words.{step, word_is}
use Rattle.cedar_conversion.specs.Words.{ident_variable, valid_text}

-- ---- identifiers

pub written_is : (s : Text) → IsUnreservedId s → ident_text (written_ident s) ≡ Some s
written_is s h = ap (λ b. ident_text (cond b (loose.ident (word_of s)) (loose.invalid_ident s))) ((and_parts (is_identifier s) (not (is_keyword s)) h.0).0) ∙ word_is s h

differs : (k s : Text) → bytes_eq k s ≡ false → bytes_eq s k ≡ false
differs k s e = by (bytes_eq s k) refl
  where
    by : (b : Bool) → bytes_eq s k ≡ b → b ≡ false
    by true f = let same = (bytes_eq-Decides k s).1 (sym ((bytes_eq-Decides s k).0 f)) in absurd (cc (e, same))
    by false f = refl

-- not spelled as the first of these words, nor as another
abbrev Later : (Word → Type 0) → Word → List Word → Text → Type 0
Later P w ws s = (bytes_eq s (spelled w) ≡ false) × P (word_among ws s)

later : (P : Word → Type 0) (w : Word) (ws : List Word) (s : Text) → (P w → ⊥) → P (word_among (w ∷ ws) s) → Later P w ws s
later P w ws s other p = by (bytes_eq (spelled w) s) refl
  where
    by : (b : Bool) → bytes_eq (spelled w) s ≡ b → Later P w ws s
    by true f = absurd (other (rw f at p))
    by false f = (differs (spelled w) s f, rw f at p)

identified : (s t : Text) → is_identifier s ≡ true → id_of (word_of s) ≡ Some t → IsUnreservedId s
identified s t i e =
    let P : Word → Type 0 = λ w. id_of w ≡ Some t in
    let a = later P token.True (drop 1 named_words) s (λ p. cc p) e in
    let b = later P token.False (drop 2 named_words) s (λ p. cc p) a.1 in
    let c = later P token.If (drop 3 named_words) s (λ p. cc p) b.1 in
    let d = later P token.Then (drop 4 named_words) s (λ p. cc p) c.1 in
    let f = later P token.Else (drop 5 named_words) s (λ p. cc p) d.1 in
    let g = later P token.In (drop 6 named_words) s (λ p. cc p) f.1 in
    let h = later P token.Like (drop 7 named_words) s (λ p. cc p) g.1 in
    let j = later P token.Has (drop 8 named_words) s (λ p. cc p) h.1 in
    let k = later P token.Is (drop 9 named_words) s (λ p. cc p) j.1 in
    let l = later P token.Cedar (drop 10 named_words) s (λ p. cc p) k.1 in
    (rw (i, a.0, b.0, c.0, d.0, f.0, g.0, h.0, j.0, k.0), rw l.0)

-- a word that is no identifier has none
pub written_not : (s : Text) → (IsUnreservedId s → ⊥) → ident_text (written_ident s) ≡ None
written_not s none = by (is_identifier s) refl (id_of (word_of s)) refl
  where
    by : (b : Bool) → is_identifier s ≡ b → (o : Option Text) → id_of (word_of s) ≡ o → ident_text (written_ident s) ≡ None
    by false i o e = ap (λ b. ident_text (cond b (loose.ident (word_of s)) (loose.invalid_ident s))) i
    by true i None e = ap (λ b. ident_text (cond b (loose.ident (word_of s)) (loose.invalid_ident s))) i ∙ e
    by true i (Some t) e = absurd (none (identified s t i e))

-- ---- identifiers that may be reserved

pub word_spelled : (s : Text) → spelled (word_of s) ≡ s
word_spelled s =
    let P : Word → Type 0 = λ w. spelled w ≡ s in
    step P token.True (drop 1 named_words) s (λ e. e)
    (step P token.False (drop 2 named_words) s (λ e. e)
    (step P token.If (drop 3 named_words) s (λ e. e)
    (step P token.Then (drop 4 named_words) s (λ e. e)
    (step P token.Else (drop 5 named_words) s (λ e. e)
    (step P token.In (drop 6 named_words) s (λ e. e)
    (step P token.Like (drop 7 named_words) s (λ e. e)
    (step P token.Has (drop 8 named_words) s (λ e. e)
    (step P token.Is (drop 9 named_words) s (λ e. e)
    (step P token.Cedar (drop 10 named_words) s (λ e. e)
    (step P token.Permit (drop 11 named_words) s (λ e. e)
    (step P token.Forbid (drop 12 named_words) s (λ e. e)
    (step P token.When (drop 13 named_words) s (λ e. e)
    (step P token.Unless (drop 14 named_words) s (λ e. e)
    (step P token.Principal (drop 15 named_words) s (λ e. e)
    (step P token.Action (drop 16 named_words) s (λ e. e)
    (step P token.Resource (drop 17 named_words) s (λ e. e)
    (step P token.Context (drop 18 named_words) s (λ e. e) refl)))))))))))))))))

pub any_written : (s : Text) → is_identifier s ≡ true → ident_spelling (written_ident s) ≡ Some s
any_written s i = ap (λ b. ident_spelling (cond b (loose.ident (word_of s)) (loose.invalid_ident s))) i ∙ ap Some (word_spelled s)

pub none_written : (s : Text) → (is_identifier s ≡ true → ⊥) → ident_spelling (written_ident s) ≡ None
none_written s none = by (is_identifier s) refl
  where
    by : (b : Bool) → is_identifier s ≡ b → ident_spelling (written_ident s) ≡ None
    by true i = absurd (none i)
    by false i = ap (λ b. ident_spelling (cond b (loose.ident (word_of s)) (loose.invalid_ident s))) i

-- ---- identifiers that may be the one that Cedar keeps for itself

unless_keyword : (s : Text) → is_identifier s ≡ true → valid_text (written_ident s) ≡ cond (is_keyword s) None (Some s)
unless_keyword s i = ap (λ o. o >>= λ t. cond (is_keyword t) None (Some t)) (any_written s i)

pub valid_written : (s : Text) → is_id s ≡ true → valid_text (written_ident s) ≡ Some s
valid_written s h = by (is_identifier s) refl (is_keyword s) refl h
  where
    by : (b : Bool) → is_identifier s ≡ b → (k : Bool) → is_keyword s ≡ k → (b && not k) ≡ true → valid_text (written_ident s) ≡ Some s
    by true i false k h = unless_keyword s i ∙ ap (λ b. cond b None (Some s)) k
    by true i true k h = cc h
    by false i k e h = cc h

pub none_valid : (s : Text) → (is_id s ≡ true → ⊥) → valid_text (written_ident s) ≡ None
none_valid s none = by (is_identifier s) refl (is_keyword s) refl none
  where
    by : (b : Bool) → is_identifier s ≡ b → (k : Bool) → is_keyword s ≡ k → ((b && not k) ≡ true → ⊥) → valid_text (written_ident s) ≡ None
    by true i false k none = absurd (none refl)
    by true i true k none = unless_keyword s i ∙ ap (λ b. cond b None (Some s)) k
    by false i k e none = ap (λ o. o >>= λ t. cond (is_keyword t) None (Some t)) (none_written s (λ t. cc (i, t)))

-- ---- words that are no identifiers

pub no_spelling : (i : loose.Ident) → ident_spelling i ≡ None → ident_text i ≡ None
no_spelling loose.missing_ident e = refl
no_spelling (loose.ident w) e = cc
no_spelling (loose.invalid_ident s) e = refl

pub no_valid_text : (s : Text) → valid_text (written_ident s) ≡ None → ident_text (written_ident s) ≡ None
no_valid_text s none = written_not s (λ h. let some : valid_text (written_ident s) ≡ Some s = valid_written s h.0 in absurd (cc (none, some)))

-- ---- variables

pub no_variable : (s : Text) → (s ≡ spelled token.Principal → ⊥) → (s ≡ spelled token.Action → ⊥) → (s ≡ spelled token.Resource → ⊥) → (s ≡ spelled token.Context → ⊥) → ident_variable (written_ident s) ≡ None
no_variable s p a r c =
    let P : Word → Type 0 = λ w. variable_of w ≡ None in
    let none : variable_of (word_of s) ≡ None =
    step P token.True (drop 1 named_words) s (λ e. refl)
    (step P token.False (drop 2 named_words) s (λ e. refl)
    (step P token.If (drop 3 named_words) s (λ e. refl)
    (step P token.Then (drop 4 named_words) s (λ e. refl)
    (step P token.Else (drop 5 named_words) s (λ e. refl)
    (step P token.In (drop 6 named_words) s (λ e. refl)
    (step P token.Like (drop 7 named_words) s (λ e. refl)
    (step P token.Has (drop 8 named_words) s (λ e. refl)
    (step P token.Is (drop 9 named_words) s (λ e. refl)
    (step P token.Cedar (drop 10 named_words) s (λ e. refl)
    (step P token.Permit (drop 11 named_words) s (λ e. refl)
    (step P token.Forbid (drop 12 named_words) s (λ e. refl)
    (step P token.When (drop 13 named_words) s (λ e. refl)
    (step P token.Unless (drop 14 named_words) s (λ e. refl)
    (step P token.Principal (drop 15 named_words) s (λ e. absurd (p (sym e)))
    (step P token.Action (drop 16 named_words) s (λ e. absurd (a (sym e)))
    (step P token.Resource (drop 17 named_words) s (λ e. absurd (r (sym e)))
    (step P token.Context (drop 18 named_words) s (λ e. absurd (c (sym e))) refl))))))))))))))))) in
    by (is_identifier s) none
  where
    by : (b : Bool) → variable_of (word_of s) ≡ None → ident_variable (cond b (loose.ident (word_of s)) (loose.invalid_ident s)) ≡ None
    by true e = e
    by false e = refl

no_word : (w : Word) → id_of w ≡ None → variable_of w ≡ None
no_word token.True e = refl
no_word token.False e = refl
no_word token.If e = refl
no_word token.Then e = refl
no_word token.Else e = refl
no_word token.In e = refl
no_word token.Like e = refl
no_word token.Has e = refl
no_word token.Is e = refl
no_word token.Cedar e = refl
no_word token.Permit e = refl
no_word token.Forbid e = refl
no_word token.When e = refl
no_word token.Unless e = refl
no_word token.Principal e = cc
no_word token.Action e = cc
no_word token.Resource e = cc
no_word token.Context e = cc
no_word (Other s) e = refl

pub no_text_no_variable : (i : loose.Ident) → ident_text i ≡ None → ident_variable i ≡ None
no_text_no_variable loose.missing_ident e = refl
no_text_no_variable (loose.ident w) e = no_word w e
no_text_no_variable (loose.invalid_ident s) e = refl

pub alone_variable : (i : loose.Ident) → name_variable (loose.name [] i) ≡ ident_variable i
alone_variable loose.missing_ident = refl
alone_variable (loose.ident w) = refl
alone_variable (loose.invalid_ident s) = refl

pub path_variable : (is : List loose.Ident) (i : loose.Ident) → 0 < length is → name_variable (loose.name is i) ≡ None
path_variable [] i h = absurd (omega arith)
path_variable (x ∷ xs) loose.missing_ident h = refl
path_variable (x ∷ xs) (loose.ident w) h = refl
path_variable (x ∷ xs) (loose.invalid_ident s) h = refl

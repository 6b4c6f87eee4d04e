-- What reading the tokens of a text within a nesting says of the text.
use Rattle.std.proofs.Common.{◌≡◌, ℕ, zero, suc, ◌-◌, ◌<◌, ◌≤◌, ◌⊎◌, inl, inr, List, [], ◌∷◌, Option, Some, None, Result, Ok, Err, refl, sym, ap, ◌∙◌, subst, arith}
use Rattle.std.specs.Prelude.{IfOk, IfErr}
use Rattle.std.specs.Str.{chars}
use Rattle.std.proofs.lemmas.Bool.{cases_lt}
use Rattle.cedar_language.specs.Uid.{Text}
use Rattle.cedar_grammar.specs.Token as token
use Rattle.cedar_grammar.specs.Token.{Token}
use Rattle.cedar_grammar.specs.Tokens.{IsTokens}
use Rattle.cedar_grammar.specs.Nesting.{loose_nesting}
use Rattle.cedar_grammar.specs.Steps.{eat, word_read, is_more}
use Rattle.cedar_grammar.proofs.TokensComplete.{one_list}
use Rattle.cedar_grammar.specs.Loose as loose
use Rattle.cedar_grammar.specs.LooseReading.{Fault, syntax, depth, Reading, ◌>>◌, mapped, needed, whole, openers, each_of, name_of, ref_of, ref_rest, primary_of, expr_at, policy_of, policy_at, policies_at, read_policies, read_policy, read_primary, read_ref, read_name, read_ident}
use Rattle.cedar_grammar.proofs.Deep.{name-never, ref_rest-never, bind-deep, needed-deep}
use Rattle.cedar_loose.specs.declared.error.ReadError.{ReadError}
use Rattle.cedar_loose.specs.declared.error.ReadError.TheVariants.{Syntax, Depth, Memory}
use Rattle.cedar_tokens.specs.Refusal as tokens
use Rattle.cedar_tokens.specs.declared.error.TokenError.{TokenError}
use Rattle.cedar_tokens.specs.declared.error.TokenError.TheVariants as unread
use Rattle.cedar_loose.specs.Gives.{Fails, TellsTokenError}
use Rattle.cedar_loose.specs.Steps.{ended}
use Rattle.cedar_loose.proofs.Loops.{fails_by}
use Rattle.cedar_loose.specs.Texts.{IsRead, IsRefused, IsOutside, GivesAll, flat, stop_cause}

module _ {A : Type 0} (read : ℕ → List Token → Result A Fault) (bytes : Text) (ts : List Token) (are : IsTokens bytes ts) where
  read-of : (n : ℕ) (x : A) → IsRead read n bytes x → read n ts ≡ Ok x
  read-of n x d = subst (λ us. read n us ≡ Ok x) (one_list (chars bytes) d.0 ts d.1 are) d.2

  pub is_read : {X : Type 0} (view : X → A) (n : ℕ) (r : Result X ReadError) → GivesAll view r (read n ts) → IfOk r (λ x. IsRead read n bytes (view x))
  is_read view n (Ok x) h = (ts, are, h)
  is_read view n (Err e) h = tt

  module _ (limit : ℕ) (stay : (m n : ℕ) (us : List Token) → m ≤ n → (read m us ≡ Err depth → ⊥) → read n us ≡ read m us) (nest : (n : ℕ) (us : List Token) → read n us ≡ Err depth → n ≤ openers us) (places : openers ts < loose_nesting bytes) where
    outside : read limit ts ≡ Err syntax → (n : ℕ) (x : A) → IsRead read n bytes x → ⊥
    outside e n x d = by (cases_lt limit n)
      where
        by : (limit < n) ⊎ (n ≤ limit) → ⊥
        by (inl lt) = let le : limit ≤ n = omega arith in cc (sym e ∙ (sym (stay limit n ts le (λ f. cc (sym e ∙ f))) ∙ read-of n x d))
        by (inr le) = cc (sym e ∙ (stay n limit ts le (λ f. cc (sym (read-of n x d) ∙ f)) ∙ read-of n x d))

    deep : read limit ts ≡ Err depth → (n : ℕ) (x : A) → n ≤ limit → IsRead read n bytes x → ⊥
    deep e n x le d = cc (sym e ∙ (stay n limit ts le (λ f. cc (sym (read-of n x d) ∙ f)) ∙ read-of n x d))

    refused : (e : ReadError) → Fails e (read limit ts) → IsRefused read limit bytes (stop_cause e)
    refused (Syntax at) h = outside h
    refused Depth h = (deep h, let more = nest limit ts h in omega arith)
    refused Memory h = tt

    pub is_refused : {X : Type 0} (view : X → A) (r : Result X ReadError) → GivesAll view r (read limit ts) → IfErr r (λ e. IsRefused read limit bytes (stop_cause e))
    is_refused view (Ok x) h = tt
    is_refused view (Err e) h = refused e h

-- ---- what nothing nests in

module _ {A : Type 0} (read : List Token → Result A Fault) (bytes : Text) (ts : List Token) (are : IsTokens bytes ts) (never : read ts ≡ Err depth → ⊥) where
  flat-refused : (e : ReadError) → Fails e (read ts) → IsOutside (flat read) bytes (stop_cause e)
  flat-refused (Syntax at) h = λ n x d. cc (sym h ∙ read-of (flat read) bytes ts are n x d)
  flat-refused Depth h = never h
  flat-refused Memory h = tt

  pub is_outside : {X : Type 0} (view : X → A) (r : Result X ReadError) → GivesAll view r (read ts) → IfErr r (λ e. IsOutside (flat read) bytes (stop_cause e))
  is_outside view (Ok x) h = tt
  is_outside view (Err e) h = flat-refused e h

whole-never : {A : Type 0} (r : Reading A) → (r ≡ Err depth → ⊥) → (r >> whole) ≡ Err depth → ⊥
whole-never {A} r h e = bind-deep r whole h (λ x f g. by x g) e
  where
    by : (x : A × List Token) → whole x ≡ Err depth → ⊥
    by (a, []) f = cc f
    by (a, t ∷ us) f = cc f

pub name_never : (ts : List Token) → read_name ts ≡ Err depth → ⊥
name_never ts e = whole-never (name_of ts) (name-never ts) e

ref-never : (ts : List Token) → ref_of ts ≡ Err depth → ⊥
unfolding ref_of
ref-never ts e = bind-deep (name_of ts) (λ p. needed (eat token.ColonColon p.1) >> λ us. ref_rest p.0 us) (name-never ts) (λ p f g. needed-deep (eat token.ColonColon p.1) (λ us. ref_rest p.0 us) (λ us h k. ref_rest-never p.0 us k) g) e

pub ref_never : (ts : List Token) → read_ref ts ≡ Err depth → ⊥
ref_never ts e = whole-never (ref_of ts) (ref-never ts) e

pub ident_never : (ts : List Token) → read_ident ts ≡ Err depth → ⊥
ident_never ts e = whole-never (mapped loose.ident (needed (word_read ts))) (by (word_read ts)) e
  where
    by : (o : Option (token.Word × List Token)) → mapped loose.ident (needed o) ≡ Err depth → ⊥
    by None f = cc f
    by (Some x) f = cc f

-- ---- texts without tokens

pub no_tokens : {A : Type 0} (read : ℕ → List Token → Result A Fault) (limit : ℕ) (bytes : Text) (e : TokenError) (r : ReadError) → tokens.RefusesText bytes e → TellsTokenError e r → IsRefused read limit bytes (stop_cause r)
no_tokens read limit bytes (unread.Unexpected place) r h t = rw t.1 (λ n x d. h.2 d.0 d.1)
no_tokens read limit bytes unread.Memory r h t = absurd h

pub no_tokens_outside : {A : Type 0} (read : ℕ → List Token → Result A Fault) (bytes : Text) (e : TokenError) (r : ReadError) → tokens.RefusesText bytes e → TellsTokenError e r → IsOutside read bytes (stop_cause r)
no_tokens_outside read bytes (unread.Unexpected place) r h t = rw t.1 (λ n x d. h.2 d.0 d.1)
no_tokens_outside read bytes unread.Memory r h t = absurd h

-- ---- all tokens

module _ {A : Type 0} (read : Reading A) (a : A) (us : List Token) (first : read ≡ Ok (a, us)) where
  ended-whole : (vs : List Token) → ended vs ≡ Ok [] → whole (a, vs) ≡ Ok a
  ended-whole [] e = refl
  ended-whole (t ∷ vs) e = absurd (cc e)

  pub all_read : ended us ≡ Ok [] → (read >> whole) ≡ Ok a
  all_read e = rw first (ended-whole us e)

  more-left : (vs : List Token) (f : Fault) → ended vs ≡ Err f → whole (a, vs) ≡ Err f
  more-left [] f e = absurd (cc e)
  more-left (t ∷ vs) f e = let same : syntax ≡ f = cc e in ap (λ x. Err x) same

  pub not_all_read : (e : ReadError) → Fails e (ended us) → Fails e (read >> whole)
  not_all_read e h = fails_by e (ended us) (read >> whole) (λ f i. rw first (more-left us f i)) h

-- ---- within a nesting that isn't none

less : (n : ℕ) → suc n - 1 ≡ n
less n = omega arith

pub policies_zero : (ts : List Token) → read_policies 0 ts ≡ Err depth
unfolding policies_at
policies_zero ts = refl

pub policy_zero : (ts : List Token) → read_policy 0 ts ≡ Err depth
unfolding policy_at
policy_zero ts = refl

pub policies_within : (n : ℕ) → (n ≡ 0 → ⊥) → (ts : List Token) → read_policies n ts ≡ (mapped loose.policies (each_of is_more (policy_of (n - 1)) ts) >> whole)
unfolding policies_at
policies_within zero some ts = absurd (some refl)
policies_within (suc n) some ts = ap (λ k. mapped loose.policies (each_of is_more (policy_of k) ts) >> whole) (sym (less n))

pub policy_within : (n : ℕ) → (n ≡ 0 → ⊥) → (ts : List Token) → read_policy n ts ≡ (policy_of (n - 1) ts >> whole)
unfolding policy_at
policy_within zero some ts = absurd (some refl)
policy_within (suc n) some ts = ap (λ k. policy_of k ts >> whole) (sym (less n))

pub primary_within : (n : ℕ) → (n ≡ 0 → ⊥) → (ts : List Token) → read_primary n ts ≡ (primary_of (expr_at (n - 1)) ts >> whole)
primary_within zero some ts = absurd (some refl)
primary_within (suc n) some ts = ap (λ k. primary_of (expr_at k) ts >> whole) (sym (less n))

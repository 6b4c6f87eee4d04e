-- What a type reads as doesn't hang on the number of turns, where that is more than the tokens.
use Rattle.std.proofs.Common.{◌≡◌, ℕ, zero, suc, ◌<◌, ◌≤◌, Bool, true, false, List, [], ◌∷◌, length, Option, Some, None, cond, refl, ap, ◌∙◌, arith}
use Rattle.std.specs.Prelude.{⊤}
use Rattle.cedar_language.specs.Uid.{Text, Name}
use Rattle.cedar_grammar.specs.Escape.{string_of}
use Rattle.cedar_grammar.specs.Steps.{◌>>=◌}
use Rattle.cedar_typing.specs.Types.{Required, Optional}
use Rattle.cedar_schema_grammar.specs.Syntax.{named, a_set, a_record, no_attributes, an_attribute}
use Rattle.cedar_schema_grammar.specs.Tokens.{LeftBrace, RightBrace, LeftParen, RightParen, LeftAngle, RightAngle, Comma, Colon, ColonColon, Question, At, Token, word, text, mark, same_token, eat}
use Rattle.cedar_schema_grammar.specs.Grammar.{is_reserved, set_word, goes_on, eat_set}
use Rattle.cedar_schema_grammar.specs.Reading.{Read, mapped, or_read, ended, id_read, text_of, string_read, name_read, path_then, path_at, any_word, value_then, keys_at, where_distinct, annotations_at, presence_read, presence_then, key_at, attribute_then, type_at, attributes_at}

-- ---- how many tokens are left

abbrev pub Within : {A : Type 0} → ℕ → Read A → Type 0
Within b None = ⊤
Within b (Some x) = length x.1 ≤ b

abbrev pub Leaves : ℕ → Option (List Token) → Type 0
Leaves b None = ⊤
Leaves b (Some us) = length us ≤ b

module _ {A B : Type 0} where
  pub then_within : (b c : ℕ) (r : Read A) (f : A × List Token → Read B) → Within b r → ((x : A × List Token) → length x.1 ≤ b → Within c (f x)) → Within c (r >>= f)
  then_within b c None f w h = tt
  then_within b c (Some x) f w h = h x w

  pub mapped_within : (b : ℕ) (r : Read A) (f : A → B) → Within b r → Within b (mapped f r)
  mapped_within b None f w = tt
  mapped_within b (Some x) f w = w

  pub then_same : (b : ℕ) (r : Read A) (f g : A × List Token → Read B) → Within b r → ((x : A × List Token) → length x.1 ≤ b → f x ≡ g x) → (r >>= f) ≡ (r >>= g)
  then_same b None f g w h = refl
  then_same b (Some x) f g w h = h x w

module _ {B : Type 0} where
  pub after_within : (b c : ℕ) (o : Option (List Token)) (f : List Token → Read B) → Leaves b o → ((us : List Token) → length us ≤ b → Within c (f us)) → Within c (o >>= f)
  after_within b c None f w h = tt
  after_within b c (Some us) f w h = h us w

  pub after_same : (b : ℕ) (o : Option (List Token)) (f g : List Token → Read B) → Leaves b o → ((us : List Token) → length us ≤ b → f us ≡ g us) → (o >>= f) ≡ (o >>= g)
  after_same b None f g w h = refl
  after_same b (Some us) f g w h = h us w

  -- one thing where a token is next, and another where it isn't
  pub either_within : (b c : ℕ) (o : Option (List Token)) (x : Read B) (f : List Token → Read B) → Leaves b o → Within c x → ((us : List Token) → length us ≤ b → Within c (f us))
      → Within c (elim o as (λ _. Read B) [ None ↦ x | Some us ↦ f us ])
  either_within b c None x f w h k = h
  either_within b c (Some us) x f w h k = k us w

  pub either_same : (b : ℕ) (o : Option (List Token)) (x y : Read B) (f g : List Token → Read B) → Leaves b o → x ≡ y → ((us : List Token) → length us ≤ b → f us ≡ g us)
      → elim o as (λ _. Read B) [ None ↦ x | Some us ↦ f us ] ≡ elim o as (λ _. Read B) [ None ↦ y | Some us ↦ g us ]
  either_same b None x y f g w h k = h
  either_same b (Some us) x y f g w h k = k us w

pub eat_leaves : (t : Token) (b : ℕ) (ts : List Token) → length ts ≤ suc b → Leaves b (eat t ts)
eat_leaves t b [] l = tt
eat_leaves t b (u ∷ us) l = by (same_token t u)
  where
    by : (q : Bool) → Leaves b (cond q (Some us) None)
    by true = omega (arith, l)
    by false = tt

pub ended_within : {A : Type 0} (t : Token) (x : A) (b : ℕ) (ts : List Token) → length ts ≤ suc b → Within b (ended t x ts)
ended_within t x b ts l = after_within b b (eat t ts) (λ us. Some (x, us)) (eat_leaves t b ts l) (λ us m. m)

id_within : (b : ℕ) (ts : List Token) → length ts ≤ suc b → Within b (id_read ts)
id_within b [] l = tt
id_within b (word s ∷ us) l = by (is_reserved s)
  where
    by : (q : Bool) → Within b (cond q None (Some (s, us)))
    by true = tt
    by false = omega (arith, l)
id_within b (text raw ∷ us) l = tt
id_within b (mark m ∷ us) l = tt

string_within : (b : ℕ) (ts : List Token) → length ts ≤ suc b → Within b (string_read ts)
string_within b [] l = tt
string_within b (word s ∷ us) l = tt
string_within b (text raw ∷ us) l = by (string_of raw)
  where
    by : (q : Option Text) → Within b (text_of q us)
    by None = tt
    by (Some s) = omega (arith, l)
string_within b (mark m ∷ us) l = tt

name_within : (b : ℕ) (ts : List Token) → length ts ≤ suc b → Within b (name_read ts)
name_within b ts l = by (id_read ts) (id_within b ts l)
  where
    by : (r : Read Text) → Within b r → Within b (or_read r (string_read ts))
    by None w = string_within b ts l
    by (Some x) w = w

any_word_within : (b : ℕ) (ts : List Token) → length ts ≤ suc b → Within b (any_word ts)
any_word_within b [] l = tt
any_word_within b (word s ∷ us) l = omega (arith, l)
any_word_within b (text raw ∷ us) l = tt
any_word_within b (mark m ∷ us) l = tt

-- ---- annotations

module _ (b : ℕ) where
  value_within : (more : List Token → Read (List Text)) → ((us : List Token) → length us ≤ b → Within b (more us)) → (ts : List Token) → length ts ≤ b → Within b (value_then more ts)
  value_within more h ts l =
      either_within b b (eat (mark LeftParen) ts) (more ts) _ (eat_leaves (mark LeftParen) b ts (omega (arith, l))) (h ts l)
      (λ us m. then_within b b (string_read us) _ (string_within b us (omega (arith, m)))
      (λ s k. after_within b b (eat (mark RightParen) s.1) more (eat_leaves (mark RightParen) b s.1 (omega (arith, k))) h))

  value_same : (more more2 : List Token → Read (List Text)) → ((us : List Token) → length us ≤ b → more us ≡ more2 us) → (ts : List Token) → length ts ≤ b → value_then more ts ≡ value_then more2 ts
  value_same more more2 h ts l =
      either_same b (eat (mark LeftParen) ts) (more ts) (more2 ts) _ _ (eat_leaves (mark LeftParen) b ts (omega (arith, l))) (h ts l)
      (λ us m. then_same b (string_read us) _ _ (string_within b us (omega (arith, m)))
      (λ s k. after_same b (eat (mark RightParen) s.1) more more2 (eat_leaves (mark RightParen) b s.1 (omega (arith, k))) h))

keys_within : (n b : ℕ) (ts : List Token) → length ts ≤ b → Within b (keys_at n ts)
unfolding keys_at
keys_within zero b ts l = tt
keys_within (suc n) b ts l =
    either_within b b (eat (mark At) ts) (Some ([], ts)) _ (eat_leaves (mark At) b ts (omega (arith, l))) l
    (λ us m. then_within b b (any_word us) _ (any_word_within b us (omega (arith, m)))
    (λ w k. mapped_within b (value_then (keys_at n) w.1) (λ ks. w.0 ∷ ks) (value_within b (keys_at n) (keys_within n b) w.1 k)))

pub keys_same : (n b : ℕ) (ts : List Token) → b < n → length ts ≤ b → keys_at n ts ≡ keys_at (suc n) ts
unfolding keys_at
keys_same zero b ts l m = absurd (omega (arith, l))
keys_same (suc n) zero [] l m = refl
keys_same (suc n) zero (t ∷ ts) l m = absurd (omega (arith, m))
keys_same (suc n) (suc b) ts l m =
    either_same b (eat (mark At) ts) (Some ([], ts)) (Some ([], ts)) _ _ (eat_leaves (mark At) b ts m) refl
    (λ us k. then_same b (any_word us) _ _ (any_word_within b us (omega (arith, k)))
    (λ w j. ap (mapped (λ ks. w.0 ∷ ks)) (value_same b (keys_at n) (keys_at (suc n)) (λ vs i. keys_same n b vs (omega (arith, l)) i) w.1 j)))

annotations_leave : (n b : ℕ) (ts : List Token) → length ts ≤ b → Leaves b (annotations_at n ts)
unfolding annotations_at
annotations_leave n b ts l = by (keys_at n ts) (keys_within n b ts l)
  where
    distinct : (q : Bool) (us : List Token) → length us ≤ b → Leaves b (cond q (Some us) None)
    distinct true us m = m
    distinct false us m = tt

    by : (r : Read (List Text)) → Within b r → Leaves b (r >>= where_distinct)
    by None w = tt
    by (Some x) w = distinct _ x.1 w

annotations_same : (n b : ℕ) (ts : List Token) → b < n → length ts ≤ b → annotations_at n ts ≡ annotations_at (suc n) ts
unfolding annotations_at
annotations_same n b ts l m = ap (λ r. r >>= where_distinct) (keys_same n b ts l m)

-- ---- paths

path_within : (n b : ℕ) (ts : List Token) → length ts ≤ b → Within b (path_at n ts)
unfolding path_at
path_within zero b ts l = tt
path_within (suc n) b ts l = then_within b b (id_read ts) (path_then (path_at n)) (id_within b ts (omega (arith, l))) (λ x m. by (path_within n b) x m (goes_on x.1))
  where
    by : ((us : List Token) → length us ≤ b → Within b (path_at n us)) → (x : Text × List Token) → length x.1 ≤ b → (q : Bool) → Within b (elim q as (λ _. Read Name) [ true ↦ eat (mark ColonColon) x.1 >>= (λ us. mapped (λ p. x.0 ∷ p) (path_at n us)) | false ↦ Some (x.0 ∷ [], x.1) ])
    by h x m true = after_within b b (eat (mark ColonColon) x.1) _ (eat_leaves (mark ColonColon) b x.1 (omega (arith, m))) (λ us k. mapped_within b (path_at n us) (λ p. x.0 ∷ p) (h us k))
    by h x m false = m

path_same : (n b : ℕ) (ts : List Token) → b < n → length ts ≤ b → path_at n ts ≡ path_at (suc n) ts
unfolding path_at
path_same zero b ts l m = absurd (omega (arith, l))
path_same (suc n) zero [] l m = refl
path_same (suc n) zero (t ∷ ts) l m = absurd (omega (arith, m))
path_same (suc n) (suc b) ts l m = then_same b (id_read ts) (path_then (path_at n)) (path_then (path_at (suc n))) (id_within b ts m) (λ x k. by (λ us j. path_same n b us (omega (arith, l)) j) x k (goes_on x.1))
  where
    by : ((us : List Token) → length us ≤ b → path_at n us ≡ path_at (suc n) us) → (x : Text × List Token) → length x.1 ≤ b → (q : Bool) → elim q as (λ _. Read Name) [ true ↦ eat (mark ColonColon) x.1 >>= (λ us. mapped (λ p. x.0 ∷ p) (path_at n us)) | false ↦ Some (x.0 ∷ [], x.1) ]
        ≡ elim q as (λ _. Read Name) [ true ↦ eat (mark ColonColon) x.1 >>= (λ us. mapped (λ p. x.0 ∷ p) (path_at (suc n) us)) | false ↦ Some (x.0 ∷ [], x.1) ]
    by h x k true = after_same b (eat (mark ColonColon) x.1) _ _ (eat_leaves (mark ColonColon) b x.1 (omega (arith, k))) (λ us j. ap (mapped (λ p. x.0 ∷ p)) (h us j))
    by h x k false = refl

-- ---- attributes and types

presence_within : (b : ℕ) (ts : List Token) → length ts ≤ b → Within b (presence_read ts)
presence_within b ts l =
    either_within b b (eat (mark Colon) ts) (eat (mark Question) ts >>= λ us. ended (mark Colon) Optional us) (λ us. Some (Required, us)) (eat_leaves (mark Colon) b ts (omega (arith, l)))
    (after_within b b (eat (mark Question) ts) _ (eat_leaves (mark Question) b ts (omega (arith, l))) (λ us m. ended_within (mark Colon) Optional b us (omega (arith, m))))
    (λ us m. m)

pub key_within : (n b : ℕ) (ts : List Token) → length ts ≤ suc b → Within b (key_at n ts)
unfolding key_at
key_within n b ts l =
    after_within (suc b) b (annotations_at n ts) _ (annotations_leave n (suc b) ts l)
    (λ us m. then_within b b (name_read us) presence_then (name_within b us m) (λ k j. mapped_within b (presence_read k.1) _ (presence_within b k.1 j)))

key_same : (n b : ℕ) (ts : List Token) → b < n → length ts ≤ b → key_at n ts ≡ key_at (suc n) ts
unfolding key_at
key_same n b ts l m = ap (λ o. o >>= λ us. name_read us >>= presence_then) (annotations_same n b ts l m)

pub set_leaves : (b : ℕ) (ts : List Token) → length ts ≤ suc b → Leaves b (eat_set ts)
set_leaves b ts l = by (eat set_word ts) (eat_leaves set_word b ts l)
  where
    by : (o : Option (List Token)) → Leaves b o → Leaves b (o >>= eat (mark LeftAngle))
    by None w = tt
    by (Some us) w = eat_leaves (mark LeftAngle) b us (omega (arith, w))

mutual
  unfolding type_at

  pub type_within : (n b : ℕ) (ts : List Token) → length ts ≤ b → Within b (type_at n ts)
  type_within zero b ts l = tt
  type_within (suc n) b ts l =
      either_within b b (eat (mark LeftBrace) ts) _ _ (eat_leaves (mark LeftBrace) b ts (omega (arith, l)))
      (either_within b b (eat_set ts) _ _ (set_leaves b ts (omega (arith, l)))
      (mapped_within b (path_at (suc n) ts) named (path_within (suc n) b ts l))
      (λ us m. then_within b b (type_at n us) _ (type_within n b us m) (λ x k. ended_within (mark RightAngle) (a_set x.0) b x.1 (omega (arith, k)))))
      (λ us m. mapped_within b (attributes_at n us) a_record (attributes_within n b us m))

  attributes_within : (n b : ℕ) (ts : List Token) → length ts ≤ b → Within b (attributes_at n ts)
  attributes_within zero b ts l = tt
  attributes_within (suc n) b ts l =
      either_within b b (eat (mark RightBrace) ts) _ (λ us. Some (no_attributes, us)) (eat_leaves (mark RightBrace) b ts (omega (arith, l)))
      (then_within b b (key_at (suc n) ts) _ (key_within (suc n) b ts (omega (arith, l)))
      (λ k m. then_within b b (type_at n k.1) (attribute_then (attributes_at n) k.0) (type_within n b k.1 m)
      (λ x j. either_within b b (eat (mark Comma) x.1) _ _ (eat_leaves (mark Comma) b x.1 (omega (arith, j)))
      (ended_within (mark RightBrace) (an_attribute k.0.name k.0.presence x.0 no_attributes) b x.1 (omega (arith, j)))
      (λ us i. mapped_within b (attributes_at n us) _ (attributes_within n b us i)))))
      (λ us m. m)

pub no_key : (n m : ℕ) → (key_at m [] >>= λ k. type_at n k.1 >>= attribute_then (attributes_at n) k.0) ≡ (key_at m [] >>= λ k. type_at (suc n) k.1 >>= attribute_then (attributes_at (suc n)) k.0)
unfolding key_at annotations_at keys_at
no_key n zero = refl
no_key n (suc m) = refl

mutual
  unfolding type_at

  pub type_same : (n b : ℕ) (ts : List Token) → b < n → length ts ≤ b → type_at n ts ≡ type_at (suc n) ts
  type_same zero b ts l m = absurd (omega (arith, l))
  type_same (suc n) zero [] l m = ap (mapped named) (path_same (suc n) 0 [] l m)
  type_same (suc n) zero (t ∷ ts) l m = absurd (omega (arith, m))
  type_same (suc n) (suc b) ts l m =
      either_same b (eat (mark LeftBrace) ts) _ _ _ _ (eat_leaves (mark LeftBrace) b ts m)
      (either_same b (eat_set ts) _ _ _ _ (set_leaves b ts m)
      (ap (mapped named) (path_same (suc n) (suc b) ts l m))
      (λ us k. ap (λ r. r >>= λ x. ended (mark RightAngle) (a_set x.0) x.1) (type_same n b us (omega (arith, l)) k)))
      (λ us k. ap (mapped a_record) (attributes_same n b us (omega (arith, l)) k))

  pub attributes_same : (n b : ℕ) (ts : List Token) → b < n → length ts ≤ b → attributes_at n ts ≡ attributes_at (suc n) ts
  attributes_same zero b ts l m = absurd (omega (arith, l))
  attributes_same (suc n) zero [] l m = ap (λ r. r >>= λ k. type_at n k.1 >>= attribute_then (attributes_at n) k.0) (key_same (suc n) 0 [] l m) ∙ no_key n (suc (suc n))
  attributes_same (suc n) zero (t ∷ ts) l m = absurd (omega (arith, m))
  attributes_same (suc n) (suc b) ts l m =
      either_same b (eat (mark RightBrace) ts) _ _ _ _ (eat_leaves (mark RightBrace) b ts m)
      (ap (λ r. r >>= λ k. type_at n k.1 >>= attribute_then (attributes_at n) k.0) (key_same (suc n) (suc b) ts l m)
      ∙ then_same b (key_at (suc (suc n)) ts) _ _ (key_within (suc (suc n)) b ts m)
      (λ k j. ap (λ r. r >>= attribute_then (attributes_at n) k.0) (type_same n b k.1 (omega (arith, l)) j)
      ∙ then_same b (type_at (suc n) k.1) (attribute_then (attributes_at n) k.0) (attribute_then (attributes_at (suc n)) k.0) (type_within (suc n) b k.1 j)
      (λ x i. either_same b (eat (mark Comma) x.1) _ _ _ _ (eat_leaves (mark Comma) b x.1 (omega (arith, i))) refl
      (λ us h. ap (mapped (an_attribute k.0.name k.0.presence x.0)) (attributes_same n b us (omega (arith, l)) h)))))
      (λ us k. refl)

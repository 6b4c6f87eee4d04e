-- Literals as they are written are read as such.
use Rattle.std.proofs.Common.{◌≡◌, ℕ, zero, suc, ◌<◌, ◌≤◌, ◌^◌, Bool, true, false, cond, List, [], ◌∷◌, ◌++◌, Option, Some, None, refl, sym, ap, ◌∙◌, subst, append_assoc, arith}
use Rattle.std.specs.Prelude.{◌==◌, codes, nat_le, pos, neg_ℤ, option_map, IsUtf8}
use Rattle.std.specs.Char.{is_ascii_digit}
use Rattle.std.specs.List.{list_all}
use Rattle.std.specs.Str.{chars}
use Rattle.std.specs.Str.Parse.{digits_value}
use Rattle.std.proofs.lemmas.Bool.{eqb-true, leb-true, and_parts}
use Rattle.cedar_language.specs.Uid.{Text, Name, Uid}
use Rattle.cedar_language.specs.Height.{height}
use Rattle.cedar_language.specs.Slots.{tree_slots}
use Rattle.cedar_language.specs.Tree.{Tree, Lit, String, Entity, Literal}
use Rattle.cedar_grammar.specs.Build.{truth, long}
use Rattle.cedar_grammar.specs.Grammar.{Inner, inner, Primary, true_is, false_is, number_is, text_is, entity_is, entity, no_access, member, Unary, plain, negative_is, a_sign, no_sign, chain, stop, alone, Expr, or_is, Within}
use Rattle.cedar_grammar.specs.Names.{Names}
use Rattle.cedar_grammar.specs.Token as token
use Rattle.cedar_grammar.specs.Token.{Token, word, number, text, mark, word_of}
use Rattle.cedar_grammar.specs.Tokens.{colon, is_in_word, Stops, AreTokens}
use Rattle.cedar_world.specs.Bodies.{name_spelled}
use Rattle.cedar_json.specs.Values.{minus, are_digits, is_at_most, positive, negative, long_in, uid_with}
use Rattle.cedar_json.specs.Written.{escaped, quoted, uid_text}
use Rattle.cedar_json.proofs.Names.{IsNamed, is_named, path, path_read, named_chars}
use Rattle.cedar_json.proofs.Strings.{quoted_front, quoted_string}
use Rattle.cedar_json.proofs.Tokens.{in_front, minus_sign, two_colons, word_front, digits_front, is_small, digit_small, all_weaker, small_chars}

-- ---- rules

-- an operand without accesses and signs
pub of_primary : {i : Inner} {t : Tree} {ts rest : List Token} → Primary i ts t rest → Unary i ts t rest
of_primary {i} {t} {ts} {rest} p = plain (member t rest p no_access)

-- and without operators
of_unary : {i : Inner} {t : Tree} {ts rest : List Token} → Unary i ts t rest → Expr i ts t rest
of_unary {i} {t} {ts} {rest} u = or_is (chain t rest (chain t rest (alone (chain t rest (chain t rest u stop) stop)) stop) stop)

-- the characters are tokens that begin with this tree, within each nesting that is no less than its height
abbrev pub IsRead : Names → List ℕ → Tree → List Token → Type 0
IsRead names cs t us = (ts : List Token) × AreTokens cs ts × ((n : ℕ) → height t ≤ n → Within names n ts t us)

-- whatever follows that begins no word, the characters are read as this tree before it
pub record Spells (names : Names) (cs : List ℕ) (t : Tree) : Type 0 where
  pub reads : (rest : List ℕ) (us : List Token) → Stops is_in_word rest → AreTokens rest us → IsRead names (cs ++ rest) t us
  pub slots : tree_slots t ≡ []

pub by_level : (names : Names) (t : Tree) (ts us : List Token) → 0 < height t → ((n : ℕ) → height t ≤ suc n → Unary (inner names n) ts t us) → (n : ℕ)
    → height t ≤ n → Within names n ts t us
by_level names t ts us some f zero low = absurd (omega arith)
by_level names t ts us some f (suc n) low = of_unary (f n low)

module _ (names : Names) where
  pub literal_read : (l : Literal) (ts us : List Token) → ((n : ℕ) → Unary (inner names n) ts (Lit l) us) → (n : ℕ) → height (Lit l) ≤ n
      → Within names n ts (Lit l) us
  literal_read l ts us f = by_level names (Lit l) ts us (omega arith) (λ n low. f n)

  pub boolean_spelled : (b : Bool) → Spells names (cond b (codes "true") (codes "false")) (truth b)
  boolean_spelled true =
      record {
        reads = λ rest us stop are. (
          word token.True ∷ us,
          in_front (word token.True) _ rest us
              (word_front 116 (codes "rue") rest refl refl stop) are,
          literal_read _ _ us (λ n. of_primary true_is),
        );
        slots = refl;
      }
  boolean_spelled false =
      record {
        reads = λ rest us stop are. (
          word token.False ∷ us,
          in_front (word token.False) _ rest us
              (word_front 102 (codes "alse") rest refl refl stop) are,
          literal_read _ _ us (λ n. of_primary false_is),
        );
        slots = refl;
      }

  pub string_spelled : (s : Text) → IsUtf8 s → Spells names (quoted s) (Lit (String s))
  string_spelled s u =
      record {
        reads = λ rest us stop are. (
          text (escaped (chars s)) ∷ us,
          in_front _ _ rest us (quoted_front s rest) are,
          literal_read _ _ us
              (λ n. of_primary (text_is (quoted_string s u))),
        );
        slots = refl;
      }

  -- ---- longs

  -- digits of at most so much
  record AreDigits (most c : ℕ) (cs : Text) : Type 0 where
    pub first : is_ascii_digit c ≡ true
    pub others : list_all is_ascii_digit cs ≡ true
    pub low : digits_value 10 (c ∷ cs) ≤ most

  digits_are : (most c : ℕ) (cs : Text) → is_at_most most (c ∷ cs) ≡ true → AreDigits most c cs
  digits_are most c cs h =
      let both = and_parts (are_digits (c ∷ cs)) (nat_le (digits_value 10 (c ∷ cs)) most) h in
      let digits = and_parts (is_ascii_digit c) (list_all is_ascii_digit cs) both.0 in
      record { first = digits.0; others = digits.1; low = leb-true _ _ both.1 }

  -- ASCII characters that are this tree
  record SpellsSmall (s : Text) (t : Tree) : Type 0 where
    pub spells : Spells names s t
    pub small : list_all is_small s ≡ true

  positive_is : (c : ℕ) (cs : Text) → AreDigits 9223372036854775807 c cs → SpellsSmall (c ∷ cs) (long (pos (digits_value 10 (c ∷ cs))))
  positive_is c cs are_digits_ =
      let low = are_digits_.low in
      let small : digits_value 10 (c ∷ cs) < 2 ^ 63 = omega arith in
      record {
        spells = record {
          reads = λ rest us stop are. (
            number (digits_value 10 (c ∷ cs)) ∷ us,
            in_front _ _ rest us (digits_front c cs rest are_digits_.first are_digits_.others stop) are,
            literal_read _ _ us (λ n. of_primary (number_is small)),
          );
          slots = refl;
        };
        small = all_weaker is_ascii_digit is_small digit_small (c ∷ cs) (rw (are_digits_.first) (are_digits_.others));
      }

  negative_spelled : (c : ℕ) (cs : Text) → AreDigits 9223372036854775808 c cs → SpellsSmall (minus ∷ c ∷ cs) (long (neg_ℤ (pos (digits_value 10 (c ∷ cs)))))
  negative_spelled c cs are_digits_ =
      let low = are_digits_.low in
      let small : digits_value 10 (c ∷ cs) ≤ 2 ^ 63 = omega arith in
      let v = digits_value 10 (c ∷ cs) in
      record {
        spells = record {
          reads = λ rest us stop are. (
            mark token.Minus ∷ number v ∷ us,
            in_front _ _ (c ∷ (cs ++ rest)) (number v ∷ us) (minus_sign (c ∷ (cs ++ rest)))
                (in_front _ _ rest us (digits_front c cs rest are_digits_.first are_digits_.others stop) are),
            literal_read _ _ us (λ n. negative_is 0 v (omega arith) small (a_sign no_sign)),
          );
          slots = refl;
        };
        small = all_weaker is_ascii_digit is_small digit_small (c ∷ cs) (rw (are_digits_.first) (are_digits_.others));
      }

  positive_by : (c : ℕ) (cs : Text) (t : Tree) (b : Bool) → is_at_most 9223372036854775807 (c ∷ cs) ≡ b
      → cond b (Some (long (pos (digits_value 10 (c ∷ cs))))) None ≡ Some t → SpellsSmall (c ∷ cs) t
  positive_by c cs t true h e = let same : long (pos (digits_value 10 (c ∷ cs))) ≡ t = cc e in subst (SpellsSmall (c ∷ cs)) same
      (positive_is c cs (digits_are 9223372036854775807 c cs h))
  positive_by c cs t false h e = absurd (cc e)

  negative_by : (ds : Text) (t : Tree) (b : Bool) → is_at_most 9223372036854775808 ds ≡ b
      → cond b (Some (long (neg_ℤ (pos (digits_value 10 ds))))) None ≡ Some t → SpellsSmall (minus ∷ ds) t
  negative_by [] t true h e = absurd (cc h)
  negative_by (c ∷ cs) t true h e =
      let same : long (neg_ℤ (pos (digits_value 10 (c ∷ cs)))) ≡ t = cc e in subst (SpellsSmall (minus ∷ c ∷ cs)) same
      (negative_spelled c cs (digits_are 9223372036854775808 c cs h))
  negative_by ds t false h e = absurd (cc e)

  long_by : (c : ℕ) (cs : Text) (t : Tree) (b : Bool) → (c == minus) ≡ b → cond b (negative cs) (positive (c ∷ cs)) ≡ Some t → SpellsSmall (c ∷ cs) t
  long_by c cs t true h e = subst (λ x. SpellsSmall (x ∷ cs) t) (sym (eqb-true c minus h)) (negative_by cs t (is_at_most 9223372036854775808 cs) refl e)
  long_by c cs t false h e = positive_by c cs t (is_at_most 9223372036854775807 (c ∷ cs)) refl e

  long_small : (s : Text) (t : Tree) → long_in s ≡ Some t → SpellsSmall s t
  long_small [] t e = absurd (cc e)
  long_small (c ∷ cs) t e = long_by c cs t (c == minus) refl e

  pub long_spelled : (s : Text) (t : Tree) → IsUtf8 s → long_in s ≡ Some t → Spells names (chars s) t
  long_spelled s t u e = let is = long_small s t e in subst (λ x. Spells names x t) (sym (small_chars s u is.small)) is.spells

  -- ---- entities

  pub uid_spelled : (type id : Text) (p : Name) → IsUtf8 type → IsUtf8 id → IsNamed type p
      → Spells names (uid_text type id) (Lit (Entity (record { type_name = p; id = id })))
  uid_spelled type id p u v named =
      let whole : (rest : List ℕ) → uid_text type id ++ rest ≡ path p ++ (colon ∷ colon ∷ (quoted id ++ rest)) =
      λ rest. append_assoc (chars type) (colon ∷ colon ∷ quoted id) rest ∙ ap (λ x. x ++ (colon ∷ colon ∷ (quoted id ++ rest))) (named_chars type p u named)
      in
      record {
        reads = λ rest us stop are.
            let behind = in_front _ _ (quoted id ++ rest) (text (escaped (chars id)) ∷ us) (two_colons (quoted id ++ rest))
            (in_front _ _ rest us (quoted_front id rest) are) in
            let x = path_read p (colon ∷ colon ∷ (quoted id ++ rest))
            (mark token.ColonColon ∷ text (escaped (chars id)) ∷ us) named.free named.some refl behind in (
              x.0,
              subst (λ y. AreTokens y x.0) (sym (whole rest)) x.1,
              literal_read _ _ us (λ n. of_primary (entity_is (entity p (escaped (chars id)) x.2 (quoted_string id v)))),
            );
        slots = refl;
      }

  pub uid_with_spelled : (type id : Text) (w : Uid) → IsUtf8 type → IsUtf8 id → uid_with type id ≡ Some w → Spells names (uid_text type id) (Lit (Entity w))
  uid_with_spelled type id w u v e = by (name_spelled type) refl e
    where
      by : (o : Option Name) → name_spelled type ≡ o → option_map (λ p. record { type_name = p; id = id }) o ≡ Some w
          → Spells names (uid_text type id) (Lit (Entity w))
      by None f e = absurd (cc e)
      by (Some p) f e =
          let same : record { type_name = p; id = id } ≡ w = cc e in
          subst (λ x. Spells names (uid_text type id) (Lit (Entity x))) same (uid_spelled type id p u v (is_named type p f))

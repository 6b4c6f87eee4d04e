-- Values of JSON, as the code takes them apart.
use Rattle.std.proofs.Common.{◌≡◌, ℕ, Bool, true, false, cond, List, [], ◌∷◌, ◌++◌, length, get_or, None, Some, refl, sym, ap, ◌∙◌, true≢false, arith}
use Rattle.std.specs.Prelude.{codes}
use Rattle.std.specs.Borrow.{Bor}
use Rattle.json.specs.Find.{as_str}
use Rattle.json.specs.Json.{Json, null, boolean, number, string, array, object, Members, no_members, member}
use Rattle.json.specs.Value.{value_view, members_view}
use Rattle.json.specs.declared.value.Value.{Value}
use Rattle.cedar_language.specs.Uid.{Text}
use Rattle.cedar_grammar.specs.Names.{is_text}
use Rattle.std.proofs.lemmas.Slice.Eq.{bytes_eq-Decides}
use Rattle.cedar_json.specs.Entities.{entity_in}
use Rattle.cedar_json.specs.EntitiesWritten.{entity_written}
use Rattle.cedar_json.specs.Parts.{IsNoPair, arguments_in}
use Rattle.cedar_json.specs.Values.{uid_in}
use Rattle.cedar_json.specs.Written.{uid_written, name_written, written, call_written, members_written}

pub one_is : {A : Type 0} → (xs : List A) (x : A) → length xs ≡ 1 → x ≡ get_or xs 0 x → xs ≡ x ∷ []
one_is [] x e f = absurd (omega arith)
one_is (y ∷ []) x e f = ap (λ z. z ∷ []) (sym f)
one_is (y ∷ z ∷ xs) x e f = absurd (omega arith)

pub two_are : {A : Type 0} → (xs : List A) (x y : A) → length xs ≡ 2 → x ≡ get_or xs 0 x → y ≡ get_or xs 1 y → xs ≡ x ∷ y ∷ []
two_are [] x y e f g = absurd (omega arith)
two_are (z ∷ []) x y e f g = absurd (omega arith)
two_are (z ∷ w ∷ []) x y e f g = ap (λ v. v ∷ w ∷ []) (sym f) ∙ ap (λ v. x ∷ v ∷ []) (sym g)
two_are (z ∷ w ∷ v ∷ xs) x y e f g = absurd (omega arith)

-- ---- objects of two strings

no_first : (k : Text) (j : Json) (ms : Members) → as_str j ≡ None → IsNoPair (object (member k j ms))
no_first k null ms e = (refl, refl)
no_first k (boolean b) ms e = (refl, refl)
no_first k (number s) ms e = (refl, refl)
no_first k (string s) ms e = absurd (cc e)
no_first k (array js) ms e = (refl, refl)
no_first k (object ns) ms e = (refl, refl)

alone : (k : Text) (j : Json) → IsNoPair (object (member k j no_members))
alone k null = (refl, refl)
alone k (boolean b) = (refl, refl)
alone k (number s) = (refl, refl)
alone k (string s) = (refl, refl)
alone k (array js) = (refl, refl)
alone k (object ns) = (refl, refl)

no_second : (k l : Text) (i j : Json) (ms : Members) → as_str j ≡ None → IsNoPair (object (member k i (member l j ms)))
no_second k l (string s) null ms e = (refl, refl)
no_second k l (string s) (boolean b) ms e = (refl, refl)
no_second k l (string s) (number t) ms e = (refl, refl)
no_second k l (string s) (string t) ms e = absurd (cc e)
no_second k l (string s) (array js) ms e = (refl, refl)
no_second k l (string s) (object ns) ms e = (refl, refl)
no_second k l null j ms e = (refl, refl)
no_second k l (boolean b) j ms e = (refl, refl)
no_second k l (number s) j ms e = (refl, refl)
no_second k l (array js) j ms e = (refl, refl)
no_second k l (object ns) j ms e = (refl, refl)

three : (k l m : Text) (i j h : Json) (ms : Members) → IsNoPair (object (member k i (member l j (member m h ms))))
three k l m (string s) (string t) h ms = (refl, refl)
three k l m (string s) null h ms = (refl, refl)
three k l m (string s) (boolean b) h ms = (refl, refl)
three k l m (string s) (number t) h ms = (refl, refl)
three k l m (string s) (array js) h ms = (refl, refl)
three k l m (string s) (object ns) h ms = (refl, refl)
three k l m null j h ms = (refl, refl)
three k l m (boolean b) j h ms = (refl, refl)
three k l m (number s) j h ms = (refl, refl)
three k l m (array js) j h ms = (refl, refl)
three k l m (object ns) j h ms = (refl, refl)

pub string_is : (j : Json) (s : Text) → as_str j ≡ Some s → j ≡ string s
string_is (string t) s e = let same : t ≡ s = cc e in ap string same
string_is null s e = absurd (cc e)
string_is (boolean b) s e = absurd (cc e)
string_is (number t) s e = absurd (cc e)
string_is (array js) s e = absurd (cc e)
string_is (object ms) s e = absurd (cc e)

-- a member as the code holds it
abbrev pub Entry : Type 0 → Type 0
Entry A = Bor (List ℕ) × Value A

module _ {A : Type 0} where
  pub not_two : (ms : List (Entry A)) → (length ms ≡ 2 → ⊥) → IsNoPair (object (members_view ms))
  not_two [] other = (refl, refl)
  not_two (m ∷ []) other = alone m.0.now (value_view m.1)
  not_two (m ∷ n ∷ []) other = absurd (other refl)
  not_two (m ∷ n ∷ o ∷ ms) other = three m.0.now n.0.now o.0.now (value_view m.1) (value_view n.1) (value_view o.1) (members_view ms)

  pub first_is_none : (ms : List (Entry A)) (m n : Entry A) → ms ≡ m ∷ n ∷ [] → as_str (value_view m.1) ≡ None → IsNoPair (object (members_view ms))
  first_is_none ms m n e f = rw e (no_first m.0.now (value_view m.1) (members_view (n ∷ [])) f)

  pub second_is_none : (ms : List (Entry A)) (m n : Entry A) → ms ≡ m ∷ n ∷ [] → as_str (value_view n.1) ≡ None → IsNoPair (object (members_view ms))
  second_is_none ms m n e f = rw e (no_second m.0.now n.0.now (value_view m.1) (value_view n.1) no_members f)

  pub not_two_call : (ms : List (Entry A)) → (length ms ≡ 2 → ⊥) → call_written (object (members_view ms)) ≡ []
  not_two_call [] other = refl
  not_two_call (m ∷ []) other = refl
  not_two_call (m ∷ n ∷ []) other = absurd (other refl)
  not_two_call (m ∷ n ∷ o ∷ ms) other = refl

  -- ---- objects as records

  pub many_written : (ms : List (Entry A)) → (length ms ≡ 1 → ⊥) → written (object (members_view ms)) ≡ 123 ∷ members_written (members_view ms)
  many_written [] other = refl
  many_written (m ∷ []) other = absurd (other refl)
  many_written (m ∷ n ∷ ms) other = refl

  pub one_written : (ms : List (Entry A)) (m : Entry A) → ms ≡ m ∷ [] → is_text m.0.now (codes "__entity") ≡ false → is_text m.0.now (codes "__extn") ≡ false
      → written (object (members_view ms)) ≡ 123 ∷ members_written (members_view ms)
  one_written ms m e f g = rw (e, f, g) refl

  pub two_strings_are : (ms : List (Entry A)) (m n : Entry A) (s t : Text) → ms ≡ m ∷ n ∷ [] → Some s ≡ as_str (value_view m.1)
      → Some t ≡ as_str (value_view n.1)
      → object (members_view ms) ≡ object (member m.0.now (string s) (member n.0.now (string t) no_members))
  two_strings_are ms m n s t e f g =
      ap (λ ns. object (members_view ns)) e
      ∙ ap (λ j. object (member m.0.now j (member n.0.now (value_view n.1) no_members))) (string_is (value_view m.1) s (sym f))
      ∙ ap (λ j. object (member m.0.now (string s) (member n.0.now j no_members))) (string_is (value_view n.1) t (sym g))

  pub entity_written_is : (ms : List (Entry A)) (m : Entry A) → ms ≡ m ∷ [] → is_text m.0.now (codes "__entity") ≡ true
      → written (object (members_view ms)) ≡ uid_written (value_view m.1)
  entity_written_is ms m e f = rw (e, f) refl

  pub call_written_is : (ms : List (Entry A)) (m : Entry A) → ms ≡ m ∷ [] → is_text m.0.now (codes "__entity") ≡ false
      → is_text m.0.now (codes "__extn") ≡ true → written (object (members_view ms)) ≡ call_written (value_view m.1)
  call_written_is ms m e f g = rw (e, f, g) refl

  -- a call, by whether its function stands first
  abbrev pub call_by : Bool → Entry A → Entry A → List ℕ
  call_by b m n =
      cond b (name_written (value_view m.1) ++ arguments_in n.0.now (value_view n.1)) (name_written (value_view n.1) ++ arguments_in m.0.now (value_view m.1))

  pub call_is : (ms : List (Entry A)) (m n : Entry A) (b : Bool) → ms ≡ m ∷ n ∷ [] → is_text m.0.now (codes "fn") ≡ b
      → call_written (object (members_view ms)) ≡ call_by b m n
  call_is ms m n b e f = rw (e, f) refl

pub same_flipped : (k l : Text) → is_text k l ≡ true → is_text l k ≡ true
same_flipped k l e = (bytes_eq-Decides l k).1 (sym ((bytes_eq-Decides k l).0 e))

pub other_flipped : (k l : Text) → is_text k l ≡ false → is_text l k ≡ false
other_flipped k l e = by (is_text l k) refl
  where
    by : (b : Bool) → is_text l k ≡ b → b ≡ false
    by true f = absurd (true≢false (sym (same_flipped l k f) ∙ e))
    by false f = refl

-- ---- entities

module _ {A : Type 0} where
  pub many_entity : (ms : List (Entry A)) → (length ms ≡ 1 → ⊥) → entity_in (object (members_view ms)) ≡ uid_in (object (members_view ms))
  many_entity [] other = refl
  many_entity (m ∷ []) other = absurd (other refl)
  many_entity (m ∷ n ∷ ms) other = refl

  pub one_entity : (ms : List (Entry A)) (m : Entry A) (b : Bool) → ms ≡ m ∷ [] → is_text m.0.now (codes "__entity") ≡ b
      → entity_in (object (members_view ms)) ≡ cond b (uid_in (value_view m.1)) None
  one_entity ms m b e f = rw (e, f) refl

  pub many_entity_written : (ms : List (Entry A)) → (length ms ≡ 1 → ⊥) → entity_written (object (members_view ms)) ≡ uid_written (object (members_view ms))
  many_entity_written [] other = refl
  many_entity_written (m ∷ []) other = absurd (other refl)
  many_entity_written (m ∷ n ∷ ms) other = refl

  pub one_entity_written : (ms : List (Entry A)) (m : Entry A) → ms ≡ m ∷ [] → entity_written (object (members_view ms)) ≡ uid_written (value_view m.1)
  one_entity_written ms m e = rw e refl

-- What is built in under its own name and behind `__cedar` is what the library has.
use Rattle.std.proofs.Common.{◌≡◌, ◌-◌, ◌+◌, ◌<◌, ◌≤◌, ℕ, Bool, true, false, cond, ◌||◌, ◌&&◌, List, [], ◌∷◌, length, drop, get_or, Option, Some, None, codes, refl, sym, ap, ◌∙◌, subst, arith}
use Rattle.std.specs.Prelude.{option_map}
use Rattle.std.specs.List.{find}
use Rattle.std.specs.BTreeMap.{is_at}
use Rattle.std.proofs.lemmas.List.{drop_more, drop_all}
use Rattle.cedar_language.specs.Uid.{Text, Name}
use Rattle.cedar_language.specs.Order.{same_text, same_name, name_cmp}
use Rattle.cedar_typing.specs.Types.{Unsure, CedarType, Field, Booleans, Longs, Strings}
use Rattle.cedar_typing.proofs.Sameness.{text_is, text_same}
use Rattle.cedar_schema_grammar.specs.Declared.{Library, built_in, built_in_path}
use Rattle.cedar_schema.specs.Types.{type_step, attribute_step, type_view}
use Rattle.cedar_schema.specs.Tables.{built_in_at}
use Rattle.cedar_schema.specs.declared.types.SchemaType.{fold-roll-SchemaType}
use Rattle.cedar_schema.specs.declared.types.SchemaType.TheVariants as types
use Rattle.cedar_schema.specs.declared.tables.TypeTable.{TypeTable}
use Rattle.cedar_schema_resolution.specs.BuiltIn.{is_built_in_as, extension_view, HasTypes, IsBuiltIn, first_built_in, AreBuiltIn}
use Rattle.cedar_schema_resolution.specs.declared.built_in.ExtensionType.{ExtensionType}
use Rattle.cedar_schema_resolution.proofs.Numbering.{at_is_same}

-- ---- the views of the language's own types

pub boolean_view : type_view types.Boolean ≡ Booleans Unsure
boolean_view = ap type_view (sym types.rolls-Boolean) ∙ fold-roll-SchemaType CedarType Field type_step attribute_step _

pub long_view : type_view types.Long ≡ Longs
long_view = ap type_view (sym types.rolls-Long) ∙ fold-roll-SchemaType CedarType Field type_step attribute_step _

pub string_view : type_view types.String ≡ Strings
string_view = ap type_view (sym types.rolls-String) ∙ fold-roll-SchemaType CedarType Field type_step attribute_step _

-- ---- one is put twice

either : (a b : Bool) (v r : Option CedarType) → cond b v (cond a v r) ≡ cond (a || b) v r
either true true v r = refl
either true false v r = refl
either false b v r = refl

pub put_twice : (own : Text) (t : CedarType) (alone in_cedar : Name) (old mid new : TypeTable) → alone ≡ own ∷ [] → in_cedar ≡ codes "__cedar" ∷ own ∷ []
    → ((n : Name) → built_in_at mid n ≡ cond (is_at (name_cmp alone) n) (Some t) (built_in_at old n))
    → ((n : Name) → built_in_at new n ≡ cond (is_at (name_cmp in_cedar) n) (Some t) (built_in_at mid n))
    → IsBuiltIn own t old new
put_twice own t alone in_cedar old mid new e f g h = λ n.
    h n ∙ ap (λ b. cond b (Some t) (built_in_at mid n)) (at_is_same in_cedar n ∙ ap (λ m. same_name m n) f)
    ∙ ap (cond (same_name (codes "__cedar" ∷ own ∷ []) n) (Some t))
    (g n ∙ ap (λ b. cond b (Some t) (built_in_at old n)) (at_is_same alone n ∙ ap (λ m. same_name m n) e))
    ∙ either (same_name (own ∷ []) n) (same_name (codes "__cedar" ∷ own ∷ []) n) (Some t) (built_in_at old n)

-- ---- one before others

first_before : (b : Bool) (e : ExtensionType) (o : Option ExtensionType) (r : Option CedarType)
    → cond b (Some (extension_view e)) (first_built_in o r) ≡ first_built_in (cond b (Some e) o) r
first_before true e o r = refl
first_before false e o r = refl

pub built_lower : (es : List ExtensionType) (k : ℕ) (e : ExtensionType) (old mid new : TypeTable) → 0 < k → k ≤ length es → e ≡ get_or es (k - 1) e
    → AreBuiltIn (drop k es) old mid → IsBuiltIn e.name (extension_view e) mid new → AreBuiltIn (drop (k - 1) es) old new
built_lower es k e old mid new low high here f g =
    let up : k - 1 + 1 ≡ k = omega arith in
    let cut : drop (k - 1) es ≡ e ∷ drop k es = drop_more es (k - 1) e (omega arith) ∙ ap (λ x. x ∷ drop (k - 1 + 1) es) (sym here)
    ∙ ap (λ j. e ∷ drop j es) up in
    subst (λ xs. AreBuiltIn xs old new) (sym cut)
    (λ n. g n ∙ ap (cond (is_built_in_as e.name n) (Some (extension_view e))) (f n)
    ∙ first_before (is_built_in_as e.name n) e (find (λ x. is_built_in_as x.name n) (drop k es)) (built_in_at old n))

pub built_at_first : (es : List ExtensionType) (i : ℕ) (t : TypeTable) → length es ≤ i → AreBuiltIn (drop i es) t t
built_at_first es i t h = subst (λ xs. AreBuiltIn xs t t) (sym (drop_all i es h)) (λ n. refl)

-- ---- the names at which something is built in

and_true : (b : Bool) → (b && true) ≡ b
and_true true = refl
and_true false = refl

and_false : (b : Bool) → (b && false) ≡ false
and_false true = refl
and_false false = refl

or_false : (b : Bool) → (b || false) ≡ b
or_false true = refl
or_false false = refl

one_word : (own s : Text) → is_built_in_as own (s ∷ []) ≡ same_text own s
one_word own s =
    ap (λ b. b || (same_text (codes "__cedar") s && false)) (and_true (same_text own s))
    ∙ ap (λ b. same_text own s || b) (and_false (same_text (codes "__cedar") s)) ∙ or_false (same_text own s)

two_words : (own q s : Text) → is_built_in_as own (q ∷ s ∷ []) ≡ (same_text (codes "__cedar") q && same_text own s)
two_words own q s =
    ap (λ b. b || (same_text (codes "__cedar") q && (same_text own s && true))) (and_false (same_text own q))
    ∙ ap (λ b. same_text (codes "__cedar") q && b) (and_true (same_text own s))

more_words : (own a b c : Text) (n : Name) → is_built_in_as own (a ∷ b ∷ c ∷ n) ≡ false
more_words own a b c n =
    ap (λ x. x || (same_text (codes "__cedar") a && (same_text own b && false))) (and_false (same_text own a))
    ∙ ap (λ x. same_text (codes "__cedar") a && x) (and_false (same_text own b)) ∙ and_false (same_text (codes "__cedar") a)

text_turned : (a b : Text) → same_text a b ≡ same_text b a
text_turned a b = by (same_text a b) refl (same_text b a) refl
  where
    by : (x : Bool) → same_text a b ≡ x → (y : Bool) → same_text b a ≡ y → x ≡ y
    by true e true f = refl
    by false e false f = refl
    by true e false f = absurd (cc (sym f ∙ subst (λ c. same_text c a ≡ true) (text_is a b e) (text_same a)))
    by false e true f = absurd (cc (sym e ∙ subst (λ c. same_text c b ≡ true) (text_is b a f) (text_same b)))

-- ---- what is found by a test is found by one that is the same

found_alike : (p q : ExtensionType → Bool) → ((e : ExtensionType) → p e ≡ q e) → (es : List ExtensionType) → find p es ≡ find q es
found_alike p q f [] = refl
found_alike p q f (e ∷ es) = ap (λ b. cond b (Some e) (find p es)) (f e) ∙ ap (cond (q e) (Some e)) (found_alike p q f es)

found_nowhere : (es : List ExtensionType) → find (λ e. false) es ≡ None
found_nowhere [] = refl
found_nowhere (e ∷ es) = found_nowhere es

first_of_none : (o : Option ExtensionType) → first_built_in o None ≡ option_map extension_view o
first_of_none (Some e) = refl
first_of_none None = refl

-- ---- the whole

-- by the tests whether a name is that of a type
abbrev chosen : Bool → Bool → Bool → Option CedarType → Option CedarType
chosen b l s o = cond b (Some (Booleans Unsure)) (cond l (Some Longs) (cond s (Some Strings) o))

abbrev all_at : List ExtensionType → Name → Option CedarType
all_at es n =
    chosen (is_built_in_as (codes "Bool") n) (is_built_in_as (codes "Long") n) (is_built_in_as (codes "String") n)
    (first_built_in (find (λ e. is_built_in_as e.name n) es) None)

chosen_alike : (b c l m s t : Bool) (o p : Option CedarType) → b ≡ c → l ≡ m → s ≡ t → o ≡ p → chosen b l s o ≡ chosen c m t p
chosen_alike b c l m s t o p e f g h =
    ap (λ x. chosen x l s o) e ∙ ap (λ x. chosen c x s o) f ∙ ap (λ x. chosen c m x o) g ∙ ap (chosen c m t) h

module _ (l : Library) (es : List ExtensionType) (has : HasTypes l es) where
  of_own : (s : Text) → chosen (same_text (codes "Bool") s) (same_text (codes "Long") s) (same_text (codes "String") s)
      (first_built_in (find (λ e. same_text e.name s) es) None) ≡ built_in l s
  of_own s =
      chosen_alike (same_text (codes "Bool") s) (same_text s (codes "Bool")) (same_text (codes "Long") s) (same_text s (codes "Long"))
      (same_text (codes "String") s) (same_text s (codes "String"))
      (first_built_in (find (λ e. same_text e.name s) es) None) (l.type s)
      (text_turned (codes "Bool") s) (text_turned (codes "Long") s) (text_turned (codes "String") s)
      (first_of_none (find (λ e. same_text e.name s) es) ∙ sym (has s))

  alike_at : (n : Name) (test : Text → Bool) → ((own : Text) → is_built_in_as own n ≡ test own)
      → all_at es n ≡ chosen (test (codes "Bool")) (test (codes "Long")) (test (codes "String")) (first_built_in (find (λ e. test e.name) es) None)
  alike_at n test f =
      chosen_alike (is_built_in_as (codes "Bool") n) (test (codes "Bool")) (is_built_in_as (codes "Long") n) (test (codes "Long"))
      (is_built_in_as (codes "String") n) (test (codes "String"))
      (first_built_in (find (λ e. is_built_in_as e.name n) es) None) (first_built_in (find (λ e. test e.name) es) None)
      (f (codes "Bool")) (f (codes "Long")) (f (codes "String"))
      (ap (λ o. first_built_in o None) (found_alike (λ e. is_built_in_as e.name n) (λ e. test e.name) (λ e. f e.name) es))

  nowhere : (n : Name) → ((own : Text) → is_built_in_as own n ≡ false) → all_at es n ≡ None
  nowhere n f = alike_at n (λ own. false) f ∙ ap (λ o. first_built_in o None) (found_nowhere es)

  two : (b : Bool) (q s : Text) → same_text q (codes "__cedar") ≡ b → all_at es (q ∷ s ∷ []) ≡ cond b (built_in l s) None
  two true q s e =
      alike_at (q ∷ s ∷ []) (λ own. same_text own s) (λ own. two_words own q s ∙ ap (λ b. b && same_text own s) (text_turned (codes "__cedar") q ∙ e))
      ∙ of_own s
  two false q s e = nowhere (q ∷ s ∷ []) (λ own. two_words own q s ∙ ap (λ b. b && same_text own s) (text_turned (codes "__cedar") q ∙ e))

  pub built_in_is : (n : Name) → all_at es n ≡ built_in_path l n
  built_in_is [] = nowhere [] (λ own. refl)
  built_in_is (s ∷ []) = alike_at (s ∷ []) (λ own. same_text own s) (λ own. one_word own s) ∙ of_own s
  built_in_is (q ∷ s ∷ []) = two (same_text q (codes "__cedar")) q s refl
  built_in_is (a ∷ b ∷ c ∷ n) = nowhere (a ∷ b ∷ c ∷ n) (λ own. more_words own a b c n)

-- the language's own types over extension types
pub whole : (es : List ExtensionType) (empty t0 t1 t2 t3 : TypeTable) → ((n : Name) → built_in_at empty n ≡ None) → AreBuiltIn es empty t0
    → IsBuiltIn (codes "String") Strings t0 t1 → IsBuiltIn (codes "Long") Longs t1 t2 → IsBuiltIn (codes "Bool") (Booleans Unsure) t2 t3
    → (l : Library) → HasTypes l es → (n : Name) → built_in_at t3 n ≡ built_in_path l n
whole es empty t0 t1 t2 t3 none e f g h = λ l has n.
    h n ∙ ap (cond (is_built_in_as (codes "Bool") n) (Some (Booleans Unsure))) (g n ∙ ap (cond (is_built_in_as (codes "Long") n) (Some Longs))
    (f n ∙ ap (cond (is_built_in_as (codes "String") n) (Some Strings)) (e n ∙ ap (first_built_in (find (λ x. is_built_in_as x.name n) es)) (none n))))
    ∙ built_in_is l es has n

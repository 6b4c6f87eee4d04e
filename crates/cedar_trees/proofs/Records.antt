-- Entries that are put in one by one: each key in its place, up to one that is there already.
use Rattle.std.proofs.Common.{◌≡◌, refl, sym, ap, ◌∙◌, List, [], ◌∷◌, ◌++◌, append_assoc, Bool, true, false, Global}
use Rattle.std.proofs.lemmas.List.{append-nil}
use Rattle.std.proofs.lemmas.Cmp.{nat_list_cmp_total}
use Rattle.std.specs.Prelude.{cond, not, ◌||◌, Option, Some, None, is_some, Result, Ok, Err}
use Rattle.std.specs.declared.cmp.Ordering.{Ordering}
use Rattle.std.specs.declared.cmp.Ordering.TheVariants.{Less, Equal, Greater}
use Rattle.std.specs.Ordering.{nat_cmp, is_lt, is_eq, ordering_reverse, match_ordering}
use Rattle.std.specs.Cmp.Lexicographic.{slice_cmp, texts_ties}
use Rattle.std.specs.BTreeMap.{insert_entry, is_at}
use Rattle.std.specs.Map.{lookup}
use Rattle.std.specs.Rc.{rc_str_bytes}
use Rattle.std.specs.declared.rc.RcStr.{RcStr}
use Rattle.cedar_language.specs.Uid.{Text}
use Rattle.cedar_language.specs.Tree.{Tree}
use Rattle.cedar_grammar.specs.Names.{is_text, is_among}
use Rattle.cedar_grammar.specs.Build.{Keyed, keys, put, by_key}
use Rattle.cedar_trees.specs.Bare.{bare, bare_entries, record_tree}
use Rattle.cedar_trees.specs.Records.{repeated_after, repeated, unless_repeated, record_made, entries_made}
use Rattle.cedar_trees.specs.declared.expr.Expr.{Expr}
use Rattle.cedar_lemmas.proofs.Booleans.{or_first as or_false_left, or_second as or_false_right, or_swapped as or_swap}

abbrev order : Text → Text → Ordering
order = slice_cmp nat_cmp

cond_swap : {A B : Type 0} (f : A → B) (b : Bool) (x y : A) → f (cond b x y) ≡ cond b (f x) (f y)
cond_swap f true x y = refl
cond_swap f false x y = refl

-- ---- a map's own insertion and look-up

put_at : {A : Type 0} (o : Ordering) (x y z : A) → is_eq o ≡ false → match_ordering o x y z ≡ cond (is_lt o) x z
put_at Less x y z h = refl
put_at Equal x y z h = cc
put_at Greater x y z h = refl

module _ {T : Type 0} where
  pub insert_is_put : (k : RcStr Global) (x : Expr T) (es : List (RcStr Global × Expr T)) → is_among (rc_str_bytes k) (keys (bare_entries es)) ≡ false
      → bare_entries (insert_entry (λ a b. order (rc_str_bytes a) (rc_str_bytes b)) es k x) ≡ put (rc_str_bytes k, bare x) (bare_entries es)
  insert_is_put k x [] h = refl
  insert_is_put k x (e ∷ es) h =
      let other : is_eq (order (rc_str_bytes k) (rc_str_bytes e.0)) ≡ false = sym (texts_ties (rc_str_bytes k) (rc_str_bytes e.0)) ∙ or_false_left _ _ h in
      ap bare_entries (put_at (order (rc_str_bytes k) (rc_str_bytes e.0)) ((k, x) ∷ e ∷ es) ((e.0, x) ∷ es) (e ∷ insert_entry (λ a b. order (rc_str_bytes a) (rc_str_bytes b)) es k x) other)
      ∙ cond_swap bare_entries (is_lt (order (rc_str_bytes k) (rc_str_bytes e.0))) ((k, x) ∷ e ∷ es) (e ∷ insert_entry (λ a b. order (rc_str_bytes a) (rc_str_bytes b)) es k x)
      ∙ ap (λ rest. cond (is_lt (order (rc_str_bytes k) (rc_str_bytes e.0))) ((rc_str_bytes k, bare x) ∷ (rc_str_bytes e.0, bare e.1) ∷ bare_entries es) ((rc_str_bytes e.0, bare e.1) ∷ rest)) (insert_is_put k x es (or_false_right _ _ h))

  found_at : (b : Bool) (x : Expr T) (o : Option (Expr T)) → is_some (cond b (Some x) o) ≡ (b || is_some o)
  found_at true x o = refl
  found_at false x o = refl

  pub found_is_among : (k : Text) (es : List (RcStr Global × Expr T)) → is_some (lookup (is_at (λ q. order k (rc_str_bytes q))) es) ≡ is_among k (keys (bare_entries es))
  found_is_among k [] = refl
  found_is_among k (e ∷ es) =
      found_at (is_eq (order k (rc_str_bytes e.0))) e.1 (lookup (is_at (λ q. order k (rc_str_bytes q))) es)
      ∙ ap (λ b. b || is_some (lookup (is_at (λ q. order k (rc_str_bytes q))) es)) (sym (texts_ties k (rc_str_bytes e.0)))
      ∙ ap (λ b. is_text k (rc_str_bytes e.0) || b) (found_is_among k es)

-- ---- the places of two keys

flipped_less : (o p : Ordering) → p ≡ ordering_reverse o → is_eq o ≡ false → is_lt p ≡ not (is_lt o)
flipped_less Less p h n = ap is_lt h
flipped_less Equal p h n = cc
flipped_less Greater p h n = ap is_lt h

less_of : (o : Ordering) → is_lt o ≡ true → o ≡ Less
less_of Less h = refl
less_of Equal h = cc
less_of Greater h = cc

less_along : (x y z : Text) → is_lt (order x y) ≡ true → is_lt (order y z) ≡ true → is_lt (order x z) ≡ true
less_along x y z h k = ap is_lt (nat_list_cmp_total.trans x y z (less_of _ h) (less_of _ k))

cond_same : {B : Type 0} (b : Bool) (x y z : B) → x ≡ z → y ≡ z → cond b x y ≡ z
cond_same true x y z h i = h
cond_same false x y z h i = i

at_key : {B : Type 0} (b c : Bool) (k : Text) (left : Result B Text) (r : Option Text) (made : B) → b ≡ c → (b ≡ false → left ≡ unless_repeated r made)
    → cond b (Err k) left ≡ unless_repeated (cond c (Some k) r) made
at_key true true k left r made h i = refl
at_key true false k left r made h i = cc
at_key false true k left r made h i = cc
at_key false false k left r made h i = i refl

module _ {A : Type 0} where
  -- how two entries d and e fall out before g and what is after it
  abbrev first_way : Bool → Bool → Bool → Keyed A → Keyed A → Keyed A → List (Keyed A) → List (Keyed A) → List (Keyed A) → List (Keyed A) → List (Keyed A)
  first_way a b p d e g gs ds es both = cond a (cond p (e ∷ d ∷ g ∷ gs) (d ∷ cond b (e ∷ g ∷ gs) (g ∷ es))) (cond b (e ∷ g ∷ ds) (g ∷ both))

  ways_agree : (a b p : Bool) (d e g : Keyed A) (gs ds es both other : List (Keyed A)) → both ≡ other
      → (p ≡ true → a ≡ true → b ≡ true) → (not p ≡ true → b ≡ true → a ≡ true)
      → first_way a b p d e g gs ds es both ≡ first_way b a (not p) e d g gs es ds other
  ways_agree true true true d e g gs ds es both other h i j = refl
  ways_agree true true false d e g gs ds es both other h i j = refl
  ways_agree true false true d e g gs ds es both other h i j = let no_way : false ≡ true = i refl refl in cc
  ways_agree true false false d e g gs ds es both other h i j = refl
  ways_agree false true true d e g gs ds es both other h i j = refl
  ways_agree false true false d e g gs ds es both other h i j = let no_way : false ≡ true = j refl refl in cc
  ways_agree false false p d e g gs ds es both other h i j = ap (λ z. g ∷ z) h

  abbrev before : Keyed A → Keyed A → Bool
  before d e = is_lt (order d.0 e.0)

  put_twice : (d e g : Keyed A) (gs : List (Keyed A)) → put e (put d (g ∷ gs)) ≡ first_way (before d g) (before e g) (before e d) d e g gs (put d gs) (put e gs) (put e (put d gs))
  put_twice d e g gs = cond_swap (put e) (before d g) (d ∷ g ∷ gs) (g ∷ put d gs)

  turned : (d e : Keyed A) → is_text e.0 d.0 ≡ false → before d e ≡ not (before e d)
  turned d e h = flipped_less (order e.0 d.0) (order d.0 e.0) (nat_list_cmp_total.antisymm d.0 e.0) (sym (texts_ties e.0 d.0) ∙ h)

  cond_not : (b : Bool) (x y : List (Keyed A)) → cond b x y ≡ cond (not b) y x
  cond_not true x y = refl
  cond_not false x y = refl

  -- two entries of different keys may be put in either way round
  put_put : (d e : Keyed A) (gs : List (Keyed A)) → is_text e.0 d.0 ≡ false → put e (put d gs) ≡ put d (put e gs)
  put_put d e [] h = cond_not (before e d) (e ∷ d ∷ []) (d ∷ e ∷ []) ∙ ap (λ b. cond b (d ∷ e ∷ []) (e ∷ d ∷ [])) (sym (turned d e h))
  put_put d e (g ∷ gs) h =
      put_twice d e g gs
      ∙ ways_agree (before d g) (before e g) (before e d) d e g gs (put d gs) (put e gs) (put e (put d gs)) (put d (put e gs)) (put_put d e gs h)
      (λ p a. less_along e.0 d.0 g.0 p a) (λ p b. less_along d.0 e.0 g.0 (turned d e h ∙ p) b)
      ∙ ap (λ q. first_way (before e g) (before d g) q e d g gs (put e gs) (put d gs) (put d (put e gs))) (sym (turned d e h))
      ∙ sym (put_twice e d g gs)

  among_put : (k : Text) (e : Keyed A) (xs : List (Keyed A)) → is_among k (keys (put e xs)) ≡ (is_text k e.0 || is_among k (keys xs))
  among_put k e [] = refl
  among_put k e (g ∷ gs) =
      cond_swap (λ xs. is_among k (keys xs)) (before e g) (e ∷ g ∷ gs) (g ∷ put e gs)
      ∙ cond_same (before e g) _ _ _ refl (ap (λ b. is_text k g.0 || b) (among_put k e gs) ∙ or_swap (is_text k g.0) (is_text k e.0) (is_among k (keys gs)))

  put_last : (ds : List (Keyed A)) (e : Keyed A) → is_among e.0 (keys (by_key ds)) ≡ false → put e (by_key ds) ≡ by_key (ds ++ e ∷ [])
  put_last [] e h = refl
  put_last (d ∷ ds) e h =
      let both : (is_text e.0 d.0 || is_among e.0 (keys (by_key ds))) ≡ false = sym (among_put e.0 d (by_key ds)) ∙ h in
      put_put d e (by_key ds) (or_false_left _ _ both) ∙ ap (put d) (put_last ds e (or_false_right _ _ both))

  -- ---- entries, put in from the first on

  abbrev pub all_put : List (Keyed A) → List (Keyed A) → Result (List (Keyed A)) Text
  all_put done [] = Ok done
  all_put done (e ∷ es) = cond (is_among e.0 (keys done)) (Err e.0) (all_put (put e done) es)

  all_put_is : (seen : List Text) (ds es : List (Keyed A)) → ((k : Text) → is_among k (keys (by_key ds)) ≡ is_among k seen)
      → all_put (by_key ds) es ≡ unless_repeated (repeated_after seen (keys es)) (by_key (ds ++ es))
  all_put_is seen ds [] same = ap (λ xs. Ok (by_key xs)) (sym (append-nil ds))
  all_put_is seen ds (e ∷ es) same =
      at_key (is_among e.0 (keys (by_key ds))) (is_among e.0 seen) e.0 (all_put (put e (by_key ds)) es) (repeated_after (e.0 ∷ seen) (keys es)) (by_key (ds ++ e ∷ es)) (same e.0)
      (λ new. ap (λ xs. all_put xs es) (put_last ds e new)
      ∙ all_put_is (e.0 ∷ seen) (ds ++ e ∷ []) es (λ k. ap (λ xs. is_among k (keys xs)) (sym (put_last ds e new)) ∙ among_put k e (by_key ds) ∙ ap (λ b. is_text k e.0 || b) (same k))
      ∙ ap (λ xs. unless_repeated (repeated_after (e.0 ∷ seen) (keys es)) (by_key xs)) (append_assoc ds (e ∷ []) es))

  pub entries_put : (es : List (Keyed A)) → entries_made es ≡ all_put [] es
  entries_put es = sym (all_put_is [] [] es (λ k. refl))

-- ---- the record of the entries

unless_ok : (r : Option Text) (xs ys : List (Keyed Tree)) → unless_repeated r xs ≡ Ok ys → unless_repeated r (record_tree xs) ≡ Ok (record_tree ys)
unless_ok None xs ys h = let same : xs ≡ ys = cc in ap (λ zs. Ok (record_tree zs)) same
unless_ok (Some k) xs ys h = cc

unless_err : (r : Option Text) (xs : List (Keyed Tree)) (k : Text) → unless_repeated r xs ≡ Err k → unless_repeated r (record_tree xs) ≡ Err k
unless_err None xs k h = cc
unless_err (Some j) xs k h = cc

pub record_from : (es ys : List (Keyed Tree)) → entries_made es ≡ Ok ys → record_made es ≡ Ok (record_tree ys)
record_from es ys h = unless_ok (repeated (keys es)) (by_key es) ys h

pub record_refused : (es : List (Keyed Tree)) (k : Text) → entries_made es ≡ Err k → record_made es ≡ Err k
record_refused es k h = unless_err (repeated (keys es)) (by_key es) k h

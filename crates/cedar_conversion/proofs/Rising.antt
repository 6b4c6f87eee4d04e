-- Entries whose keys differ, in the order of their keys: this order is kept when they are put in order again.
use Rattle.std.proofs.Common.{◌≡◌, refl, sym, ap, ◌∙◌, List, [], ◌∷◌, map, Bool, true, false}
use Rattle.std.proofs.lemmas.Cmp.{nat_list_cmp_total, nat_list_eq_equiv}
use Rattle.std.specs.Prelude.{⊤, cond, not, ◌&&◌, ◌||◌, Option, Some, None, Ok}
use Rattle.std.specs.declared.cmp.Ordering.{Ordering}
use Rattle.std.specs.declared.cmp.Ordering.TheVariants.{Less, Equal, Greater}
use Rattle.std.specs.Ordering.{nat_cmp, is_lt, is_eq, ordering_reverse}
use Rattle.std.specs.Cmp.Lexicographic.{slice_cmp, texts_ties}
use Rattle.std.specs.List.{zip}
use Rattle.cedar_language.specs.Uid.{Text}
use Rattle.cedar_language.specs.Tree.{Tree, Apply, MakeRecord}
use Rattle.cedar_grammar.specs.Names.{is_text, is_among, are_distinct}
use Rattle.cedar_grammar.specs.Build.{Keyed, keys, put, by_key, trees, record_of}
use Rattle.cedar_trees.specs.Records.{repeated, unless_repeated, record_made}
use Rattle.cedar_trees.specs.RecordLaws.{distinct_records}
use Rattle.cedar_lemmas.proofs.Booleans.{and_first as and_left, and_second as and_right, not_is_true as not_true, or_first as or_left, or_second as or_right}
use Rattle.std.proofs.lemmas.Bool.{and_from as both_true}
pub use Rattle.std.proofs.lemmas.Bool.{or_from as both_false}

abbrev order : Text → Text → Ordering
order = slice_cmp nat_cmp

-- ---- truth values

not_false : (a : Bool) → a ≡ false → not a ≡ true
not_false a h = ap not h

pub cond_holds : {A : Type 0} (P : A → Type 0) (b : Bool) (x y : A) → P x → P y → P (cond b x y)
cond_holds P true x y p q = p
cond_holds P false x y p q = q

-- ---- rising keys

flipped : (o p : Ordering) → p ≡ ordering_reverse o → is_eq o ≡ false → is_lt o ≡ false → is_lt p ≡ true
flipped Less p h n l = cc
flipped Equal p h n l = cc
flipped Greater p h n l = ap is_lt h

-- a key that is neither the same nor before comes after
after : (k l : Text) → is_text k l ≡ false → is_lt (order k l) ≡ false → is_lt (order l k) ≡ true
after k l n h = flipped (order k l) (order l k) (nat_list_cmp_total.antisymm l k) (sym (texts_ties k l) ∙ n) h

module _ {A : Type 0} where
  -- a key stands before all of these, where they rise
  abbrev Before : Text → List (Keyed A) → Type 0
  Before k [] = ⊤
  Before k (e ∷ es) = is_lt (order k e.0) ≡ true

  abbrev Rising : List (Keyed A) → Type 0
  Rising [] = ⊤
  Rising (e ∷ es) = Before e.0 es × Rising es

  put-first : (e : Keyed A) (es : List (Keyed A)) → Before e.0 es → put e es ≡ e ∷ es
  put-first e [] h = refl
  put-first e (f ∷ es) h = ap (λ b. cond b (e ∷ f ∷ es) (f ∷ put e es)) h

  rising-stays : (es : List (Keyed A)) → Rising es → by_key es ≡ es
  rising-stays [] h = refl
  rising-stays (e ∷ es) h = ap (put e) (rising-stays es h.1) ∙ put-first e es h.0

  before-put : (k : Text) (e : Keyed A) (es : List (Keyed A)) → is_lt (order k e.0) ≡ true → Before k es → Before k (put e es)
  before-put k e [] l h = l
  before-put k e (f ∷ es) l h = cond_holds (Before k) (is_lt (order e.0 f.0)) (e ∷ f ∷ es) (f ∷ put e es) l h

  put-rises : (e : Keyed A) (es : List (Keyed A)) → is_among e.0 (keys es) ≡ false → Rising es → Rising (put e es)
  put-rises e [] n h = (tt, tt)
  put-rises e (f ∷ es) n h = by (put-rises e es (or_right _ _ n) h.1) (is_lt (order e.0 f.0)) refl
    where
      by : Rising (put e es) → (b : Bool) → is_lt (order e.0 f.0) ≡ b → Rising (cond b (e ∷ f ∷ es) (f ∷ put e es))
      by more true l = (l, h)
      by more false l = (before-put f.0 e es (after e.0 f.0 (or_left _ _ n) l) h.0, more)

  among-put : (k : Text) (e : Keyed A) (es : List (Keyed A)) → is_text k e.0 ≡ false → is_among k (keys es) ≡ false → is_among k (keys (put e es)) ≡ false
  among-put k e [] t n = both_false _ _ t refl
  among-put k e (f ∷ es) t n =
      cond_holds (λ xs. is_among k (keys xs) ≡ false) (is_lt (order e.0 f.0)) (e ∷ f ∷ es) (f ∷ put e es)
      (both_false _ _ t n) (both_false _ _ (or_left _ _ n) (among-put k e es t (or_right _ _ n)))

  among-by_key : (k : Text) (es : List (Keyed A)) → is_among k (keys es) ≡ false → is_among k (keys (by_key es)) ≡ false
  among-by_key k [] n = refl
  among-by_key k (e ∷ es) n = among-put k e (by_key es) (or_left _ _ n) (among-by_key k es (or_right _ _ n))

  by_key-rises : (es : List (Keyed A)) → are_distinct (keys es) ≡ true → Rising (by_key es)
  by_key-rises [] d = tt
  by_key-rises (e ∷ es) d = put-rises e (by_key es) (among-by_key e.0 es (not_true _ (and_left _ _ d))) (by_key-rises es (and_right _ _ d))

  distinct-put : (e : Keyed A) (es : List (Keyed A)) → is_among e.0 (keys es) ≡ false → are_distinct (keys es) ≡ true → are_distinct (keys (put e es)) ≡ true
  distinct-put e [] n d = refl
  distinct-put e (f ∷ es) n d =
      let other : is_text f.0 e.0 ≡ false = nat_list_eq_equiv.symm f.0 e.0 ∙ or_left _ _ n in
      cond_holds (λ xs. are_distinct (keys xs) ≡ true) (is_lt (order e.0 f.0)) (e ∷ f ∷ es) (f ∷ put e es)
      (both_true _ _ (not_false _ n) d)
      (both_true _ _ (not_false _ (among-put f.0 e es other (not_true _ (and_left _ _ d)))) (distinct-put e es (or_right _ _ n) (and_right _ _ d)))

  by_key-distinct : (es : List (Keyed A)) → are_distinct (keys es) ≡ true → are_distinct (keys (by_key es)) ≡ true
  by_key-distinct [] d = refl
  by_key-distinct (e ∷ es) d = distinct-put e (by_key es) (among-by_key e.0 es (not_true _ (and_left _ _ d))) (by_key-distinct es (and_right _ _ d))

  pub zipped : (es : List (Keyed A)) → zip (keys es) (map (λ e. e.1) es) ≡ es
  zipped [] = refl
  zipped (e ∷ es) = ap (λ xs. e ∷ xs) (zipped es)

-- ---- records

unless_ok : {A : Type 0} (r : Option Text) (x y : A) → unless_repeated r x ≡ Ok y → unless_repeated r x ≡ Ok x
unless_ok None x y h = refl
unless_ok (Some k) x y h = absurd (cc h)

-- the record of entries in order, whose keys differ, is made of them
pub made_of_ordered : (es : List (Keyed Tree)) → are_distinct (keys es) ≡ true → record_made (by_key es) ≡ Ok (record_of es)
made_of_ordered es d =
    let r = distinct_records (by_key es) (by_key-distinct es d) in
    unless_ok (repeated (keys (by_key es))) (record_of (by_key es)) r.0 r.1
    ∙ ap (λ xs. Ok (Apply (MakeRecord (keys xs)) (trees (map (λ e. e.1) xs)))) (rising-stays (by_key es) (by_key-rises es d))

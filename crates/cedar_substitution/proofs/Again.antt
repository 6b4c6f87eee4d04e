-- What is made of what the own builder made of a tree.
use Rattle.std.proofs.Common.{◌≡◌, ◌∙◌, ap, sym, refl, List, [], ◌∷◌, length, suc, map, arith}
use Rattle.std.specs.Prelude.{cond, Option, Some, None, Result, Ok, Err}
use Rattle.std.specs.List.{zip}
use Rattle.std.specs.List.Sorted.{IsStrictlySortedBy}
use Rattle.std.specs.Ordering.{is_lt}
use Rattle.cedar_language.specs.Uid.{Text}
use Rattle.cedar_language.specs.Order.{text_cmp}
use Rattle.cedar_language.specs.Tree as tree
use Rattle.cedar_language.specs.Tree.{ValueType, Operator, Tree, Trees}
use Rattle.cedar_language.specs.WellFormed.{tree_count}
use Rattle.cedar_grammar.specs.Build.{Keyed, keys, put, by_key, record_of, trees, conjunction, disjunction}
use Rattle.cedar_trees.specs.Records.{unless_repeated, repeated, record_made}
use Rattle.cedar_builders.specs.Operations.{Operations, IsLawful, ◌>>=◌, operated, made, made_all, built, built_all}
use Rattle.cedar_builders.specs.Own.{own_operations}
use Rattle.cedar_substitution.specs.Chains.{with_built}
use Rattle.cedar_substitution.specs.Laws.{SubstitutedIsBuiltAlike}
use Rattle.cedar_substitution.specs.Rising.{KeysRise, RiseWhere, AllRiseWhere, RecordsRise}

abbrev taken : (A R : Type 0) → A → Result A R
taken A R x = Ok x

ok_same : (A R : Type 0) (x y : A) → taken A R x ≡ Ok y → x ≡ y
ok_same A R x y h = cc

-- a step that was taken, and the next one
then_ok : {A B R : Type 0} (m : Result A R) (k : A → Result B R) (y : B) → (m >>= k) ≡ Ok y → (x : A) × (m ≡ Ok x) × (k x ≡ Ok y)
unfolding ◌>>=◌
then_ok (Ok x) k y h = (x, refl, h)
then_ok (Err r) k y h = cc

-- ---- entries whose keys rise

put_first : {A : Type 0} (e : Keyed A) (es : List (Keyed A)) → IsStrictlySortedBy text_cmp (keys (e ∷ es)) → put e es ≡ e ∷ es
unfolding IsStrictlySortedBy
put_first e [] h = refl
put_first e (f ∷ es) h = ap (λ o. cond (is_lt o) (e ∷ f ∷ es) (f ∷ put e es)) h.0.0

by_key_stays : {A : Type 0} (es : List (Keyed A)) → IsStrictlySortedBy text_cmp (keys es) → by_key es ≡ es
unfolding IsStrictlySortedBy
by_key_stays [] h = refl
by_key_stays (e ∷ es) h = ap (put e) (by_key_stays es h.1) ∙ put_first e es h

zip_keys : {A : Type 0} (ks : List Text) (xs : List A) → length ks ≡ length xs → keys (zip ks xs) ≡ ks
zip_keys [] xs h = refl
zip_keys (k ∷ ks) [] h = cc
zip_keys (k ∷ ks) (x ∷ xs) h = ap (λ l. k ∷ l) (zip_keys ks xs (omega arith))

zip_values : {A : Type 0} (ks : List Text) (xs : List A) → length ks ≡ length xs → map (λ e. e.1) (zip ks xs) ≡ xs
zip_values [] [] h = refl
zip_values [] (x ∷ xs) h = cc
zip_values (k ∷ ks) [] h = cc
zip_values (k ∷ ks) (x ∷ xs) h = ap (λ l. x ∷ l) (zip_values ks xs (omega arith))

taken_unless : {A : Type 0} (r : Option Text) (a b : A) → unless_repeated r a ≡ Ok b → a ≡ b
taken_unless None a b h = cc
taken_unless (Some k) a b h = cc

record_stays : (ks : List Text) (ts : List Tree) (t : Tree) → IsStrictlySortedBy text_cmp ks → length ks ≡ length ts → record_made (zip ks ts) ≡ Ok t → t ≡ tree.Apply (tree.MakeRecord ks) (trees ts)
record_stays ks ts t rising many h =
    let named = zip_keys ks ts many in
    let stays : by_key (zip ks ts) ≡ zip ks ts = by_key_stays (zip ks ts) (rw named rising) in
    sym (taken_unless (repeated (keys (zip ks ts))) (record_of (zip ks ts)) t h)
    ∙ ap (λ es. tree.Apply (tree.MakeRecord (keys es)) (trees (map (λ e. e.1) es))) stays
    ∙ ap (λ l. tree.Apply (tree.MakeRecord l) (trees (map (λ e. e.1) (zip ks ts)))) named
    ∙ ap (λ l. tree.Apply (tree.MakeRecord ks) (trees l)) (zip_values ks ts many)

many : (ts : List Tree) → tree_count (trees ts) ≡ length ts
many [] = refl
many (t ∷ ts) = ap (λ n. suc n) (many ts)

as_many : (own : Text → Option ValueType → Result Tree Text) (ts : Trees) (ss : List Tree) → made_all own_operations own ts ≡ Ok ss → tree_count ts ≡ length ss
unfolding made
as_many own tree.no_trees ss h = ap length (ok_same _ _ _ ss h)
as_many own (tree.a_tree t ts) ss h =
    let (t', is_t, ht) = then_ok (made own_operations own t) (λ x. made_all own_operations own ts >>= λ xs. Ok (x ∷ xs)) ss h in
    let (ts', are, hts) = then_ok (made_all own_operations own ts) (λ xs. Ok (t' ∷ xs)) ss ht in
    ap (λ n. suc n) (as_many own ts ts' are) ∙ ap length (ok_same _ _ _ ss hts)

-- the keys of a record fit what is made of its trees
keys_as_many : (op : Operator) (ts : Trees) (ss : List Tree) → tree_count ts ≡ length ss → KeysRise op ts → KeysRise op (trees ss)
keys_as_many (tree.MakeRecord ks) ts ss same (rising, counted) = (rising, counted ∙ same ∙ sym (many ss))
keys_as_many op ts ss same h = tt

unknown_again : {M R : Type 0} (o : Operations M R) (n : Text) (ty : Option ValueType) (t : Tree) → taken Tree Text (tree.Unknown n ty) ≡ Ok t → built o t ≡ Ok (o.unknown n ty)
unfolding made
unknown_again o n ty t h = ap (built o) (sym (ok_same _ _ _ t h))

module _ {M R : Type 0} (o : Operations M R) (law : IsLawful o) where
  both_again : (a b : Tree) → built o (conjunction a b) ≡ (built o a >>= λ x. built o b >>= λ y. Ok (o.and x y))
  unfolding made ◌>>=◌
  both_again (tree.Lit (tree.Boolean p)) (tree.Lit (tree.Boolean q)) = ap Ok (sym (law.and_of_literals p q))
  both_again (tree.Lit (tree.Boolean p)) b = refl
  both_again a b = refl

  either_again : (a b : Tree) → built o (disjunction a b) ≡ (built o a >>= λ x. built o b >>= λ y. Ok (o.or x y))
  unfolding made ◌>>=◌
  either_again (tree.Lit (tree.Boolean p)) (tree.Lit (tree.Boolean q)) = ap Ok (sym (law.or_of_literals p q))
  either_again (tree.Lit (tree.Boolean p)) b = refl
  either_again a b = refl

  one_path : (a : Text) (q : Result M R) → ((q >>= λ y. let none : Result (List M) R = Ok [] in none >>= λ ys. Ok (y ∷ ys)) >>= operated o (tree.HasAttr a)) ≡ ((q >>= λ y. let none : Result (List M) R = Ok [] in none >>= λ ys. Ok (y ∷ ys)) >>= operated o (tree.HasPath a []))
  unfolding ◌>>=◌
  one_path a (Ok y) = ap Ok (sym (law.one_attribute a y))
  one_path a (Err r) = refl

  path_again : (a : Text) (ts : List Tree) → built o (own_operations.apply (tree.HasPath a []) ts) ≡ (built_all o (trees ts) >>= operated o (tree.HasPath a []))
  unfolding made
  path_again a [] = refl
  path_again a (t ∷ []) = one_path a (built o t)
  path_again a (t ∷ s ∷ ts) = refl

  operated_again : (op : Operator) (ts : List Tree) (t : Tree) → KeysRise op (trees ts) → operated own_operations op ts ≡ Ok t → built o t ≡ (built_all o (trees ts) >>= operated o op)
  unfolding made
  operated_again (tree.HasPath a []) ts t r h = ap (built o) (sym (ok_same _ _ _ t h)) ∙ path_again a ts
  operated_again (tree.MakeRecord ks) ts t r h = ap (built o) (record_stays ks ts t r.0 (r.1 ∙ many ts) h)
  operated_again op ts t r h = ap (built o) (sym (ok_same _ _ _ t h))

  -- the own builder with one reading of the unknowns, and another builder with the reading that agrees with it
  module _ (P : Text → Option ValueType → Type 0) (own : Text → Option ValueType → Result Tree Text) (u : Text → Option ValueType → Result M R) (agrees : (n : Text) (ty : Option ValueType) (t : Tree) → P n ty → own n ty ≡ Ok t → built o t ≡ u n ty) where
    mutual
      unfolding made

      tree_again : (t s : Tree) → RiseWhere P t → made own_operations own t ≡ Ok s → built o s ≡ made o u t
      tree_again (tree.Lit l) s r h = ap (built o) (sym (ok_same _ _ _ s h))
      tree_again (tree.Var v) s r h = ap (built o) (sym (ok_same _ _ _ s h))
      tree_again (tree.Slot v) s r h = ap (built o) (sym (ok_same _ _ _ s h))
      tree_again (tree.Unknown n ty) s r h = agrees n ty s r h
      tree_again (tree.If a b c) s (ra, rb, rc) h =
          let (a', is_a, ha) = then_ok (made own_operations own a) (λ x. made own_operations own b >>= λ y. made own_operations own c >>= λ z. Ok (tree.If x y z)) s h in
          let (b', is_b, hb) = then_ok (made own_operations own b) (λ y. made own_operations own c >>= λ z. Ok (tree.If a' y z)) s ha in
          let (c', is_c, hc) = then_ok (made own_operations own c) (λ z. Ok (tree.If a' b' z)) s hb in
          ap (built o) (sym (ok_same _ _ _ s hc))
          ∙ ap (λ p. p >>= λ x. built o b' >>= λ y. built o c' >>= λ z. Ok (o.ite x y z)) (tree_again a a' ra is_a)
          ∙ ap (λ p. made o u a >>= λ x. p >>= λ y. built o c' >>= λ z. Ok (o.ite x y z)) (tree_again b b' rb is_b)
          ∙ ap (λ p. made o u a >>= λ x. made o u b >>= λ y. p >>= λ z. Ok (o.ite x y z)) (tree_again c c' rc is_c)
      tree_again (tree.And a b) s (ra, rb) h =
          let (a', is_a, ha) = then_ok (made own_operations own a) (λ x. made own_operations own b >>= λ y. Ok (conjunction x y)) s h in
          let (b', is_b, hb) = then_ok (made own_operations own b) (λ y. Ok (conjunction a' y)) s ha in
          ap (built o) (sym (ok_same _ _ _ s hb))
          ∙ both_again a' b'
          ∙ ap (λ p. p >>= λ x. built o b' >>= λ y. Ok (o.and x y)) (tree_again a a' ra is_a)
          ∙ ap (λ p. made o u a >>= λ x. p >>= λ y. Ok (o.and x y)) (tree_again b b' rb is_b)
      tree_again (tree.Or a b) s (ra, rb) h =
          let (a', is_a, ha) = then_ok (made own_operations own a) (λ x. made own_operations own b >>= λ y. Ok (disjunction x y)) s h in
          let (b', is_b, hb) = then_ok (made own_operations own b) (λ y. Ok (disjunction a' y)) s ha in
          ap (built o) (sym (ok_same _ _ _ s hb))
          ∙ either_again a' b'
          ∙ ap (λ p. p >>= λ x. built o b' >>= λ y. Ok (o.or x y)) (tree_again a a' ra is_a)
          ∙ ap (λ p. made o u a >>= λ x. p >>= λ y. Ok (o.or x y)) (tree_again b b' rb is_b)
      tree_again (tree.Apply op ts) s (keyed, rise) h =
          let (ss, are, hs) = then_ok (made_all own_operations own ts) (operated own_operations op) s h in
          operated_again op ss s (keys_as_many op ts ss (as_many own ts ss are) keyed) hs
          ∙ ap (λ p. p >>= operated o op) (all_again ts ss rise are)

      all_again : (ts : Trees) (ss : List Tree) → AllRiseWhere P ts → made_all own_operations own ts ≡ Ok ss → built_all o (trees ss) ≡ made_all o u ts
      all_again tree.no_trees ss r h = ap (λ l. built_all o (trees l)) (sym (ok_same _ _ _ ss h))
      all_again (tree.a_tree t ts) ss (rt, rts) h =
          let (t', is_t, ht) = then_ok (made own_operations own t) (λ x. made_all own_operations own ts >>= λ xs. Ok (x ∷ xs)) ss h in
          let (ts', are, hts) = then_ok (made_all own_operations own ts) (λ xs. Ok (t' ∷ xs)) ss ht in
          ap (λ l. built_all o (trees l)) (sym (ok_same _ _ _ ss hts))
          ∙ ap (λ p. p >>= λ x. built_all o (trees ts') >>= λ xs. Ok (x ∷ xs)) (tree_again t t' rt is_t)
          ∙ ap (λ p. made o u t >>= λ x. p >>= λ xs. Ok (x ∷ xs)) (all_again ts ts' rts are)

pub again : {M R : Type 0} (o : Operations M R) → IsLawful o → SubstitutedIsBuiltAlike o
again o law told t substituted is =
    tree_again o law (λ n ty. RecordsRise (told n ty)) (with_built own_operations told) (with_built o told)
    (λ n ty s r h. tree_again o law (λ m tz. Unit {0}) (λ m tz. Ok (tree.Unknown m tz)) (λ m tz. Ok (o.unknown m tz)) (λ m tz s e. unknown_again o m tz s) (told n ty) s r h)
    t substituted is.rising is.made

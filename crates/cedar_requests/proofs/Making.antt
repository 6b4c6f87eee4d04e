-- What the own builder makes of a record whose keys rise, and the steps that it takes.
use Rattle.std.proofs.Common.{◌≡◌, ◌∙◌, ap, sym, refl, List, [], ◌∷◌, length, suc, map, arith}
use Rattle.std.specs.Prelude.{cond, Option, Some, None, Result, Ok, Err}
use Rattle.std.specs.List.{zip}
use Rattle.std.specs.List.Sorted.{IsStrictlySortedBy}
use Rattle.std.specs.Ordering.{is_lt}
use Rattle.cedar_language.specs.Uid.{Text}
use Rattle.cedar_language.specs.Order.{text_cmp}
use Rattle.cedar_language.specs.Tree.{ValueType, MakeRecord, Tree, Apply, Trees, no_trees, a_tree}
use Rattle.cedar_language.specs.WellFormed.{tree_count}
use Rattle.cedar_grammar.specs.Build.{Keyed, keys, put, by_key, record_of, trees}
use Rattle.cedar_trees.specs.Records.{unless_repeated, repeated, record_made}
use Rattle.cedar_builders.specs.Operations.{◌>>=◌, made, made_all}
use Rattle.cedar_builders.specs.Own.{own_operations}

abbrev taken : (A R : Type 0) → A → Result A R
taken A R x = Ok x

pub ok_same : (A R : Type 0) (x y : A) → taken A R x ≡ Ok y → x ≡ y
ok_same A R x y h = cc

-- a step that was taken, and the next one
pub then_ok : {A B R : Type 0} (m : Result A R) (k : A → Result B R) (y : B) → (m >>= k) ≡ Ok y → (x : A) × (m ≡ Ok x) × (k x ≡ Ok y)
unfolding ◌>>=◌
then_ok (Ok x) k y h = (x, refl, h)
then_ok (Err r) k y h = cc

put_first : {A : Type 0} (e : Keyed A) (es : List (Keyed A)) → IsStrictlySortedBy text_cmp (keys (e ∷ es)) → put e es ≡ e ∷ es
unfolding IsStrictlySortedBy
put_first e [] h = refl
put_first e (f ∷ es) h = ap (λ o. cond (is_lt o) (e ∷ f ∷ es) (f ∷ put e es)) h.0.0

by_key_stays : {A : Type 0} (es : List (Keyed A)) → IsStrictlySortedBy text_cmp (keys es) → by_key es ≡ es
unfolding IsStrictlySortedBy
by_key_stays [] h = refl
by_key_stays (e ∷ es) h = ap (put e) (by_key_stays es h.1) ∙ put_first e es h

zip_keys : {A : Type 0} (ks : List Text) (xs : List A) → length ks ≡ length xs → keys (zip ks xs) ≡ ks
zip_keys [] xs h = refl
zip_keys (k ∷ ks) [] h = cc
zip_keys (k ∷ ks) (x ∷ xs) h = ap (λ l. k ∷ l) (zip_keys ks xs (omega arith))

zip_values : {A : Type 0} (ks : List Text) (xs : List A) → length ks ≡ length xs → map (λ e. e.1) (zip ks xs) ≡ xs
zip_values [] [] h = refl
zip_values [] (x ∷ xs) h = cc
zip_values (k ∷ ks) [] h = cc
zip_values (k ∷ ks) (x ∷ xs) h = ap (λ l. x ∷ l) (zip_values ks xs (omega arith))

taken_unless : {A : Type 0} (r : Option Text) (a b : A) → unless_repeated r a ≡ Ok b → a ≡ b
taken_unless None a b h = cc
taken_unless (Some k) a b h = cc

pub record_kept : (ks : List Text) (ts : List Tree) (t : Tree) → IsStrictlySortedBy text_cmp ks → length ks ≡ length ts → record_made (zip ks ts) ≡ Ok t → t ≡ Apply (MakeRecord ks) (trees ts)
record_kept ks ts t rising many h =
    let named = zip_keys ks ts many in
    let stays : by_key (zip ks ts) ≡ zip ks ts = by_key_stays (zip ks ts) (rw named rising) in
    sym (taken_unless (repeated (keys (zip ks ts))) (record_of (zip ks ts)) t h)
    ∙ ap (λ es. Apply (MakeRecord (keys es)) (trees (map (λ e. e.1) es))) stays
    ∙ ap (λ l. Apply (MakeRecord l) (trees (map (λ e. e.1) (zip ks ts)))) named
    ∙ ap (λ l. Apply (MakeRecord ks) (trees l)) (zip_values ks ts many)

pub as_many : (own : Text → Option ValueType → Result Tree Text) (ts : Trees) (ss : List Tree) → made_all own_operations own ts ≡ Ok ss → tree_count ts ≡ length ss
unfolding made
as_many own no_trees ss h = ap length (ok_same _ _ _ ss h)
as_many own (a_tree t ts) ss h =
    let (t', is_t, ht) = then_ok (made own_operations own t) (λ x. made_all own_operations own ts >>= λ xs. Ok (x ∷ xs)) ss h in
    let (ts', are, hts) = then_ok (made_all own_operations own ts) (λ xs. Ok (t' ∷ xs)) ss ht in
    ap (λ n. suc n) (as_many own ts ts' are) ∙ ap length (ok_same _ _ _ ss hts)

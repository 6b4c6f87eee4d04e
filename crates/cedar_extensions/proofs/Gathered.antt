-- Pairs whose keys differ, gathered into a map one by one.
use Rattle.std.proofs.Common.{◌≡◌, List, [], ◌∷◌, ◌++◌, refl, ap, sym, ◌∙◌}
use Rattle.std.specs.Prelude.{Bool, true, false, cond, is_some, Option, Some, None}
use Rattle.std.specs.Option.{option_or}
use Rattle.std.specs.Cmp.{IsEquivalence}
use Rattle.std.specs.List.{list_any, IsDistinct}
use Rattle.std.specs.Map.{lookup, keys_of}
use Rattle.std.specs.HashMap.{HashMap, get}
use Rattle.std.specs.Iterator.{Yields}
use Rattle.std.specs.Vec.Iter.{into_iter_items, into_iter_steps}
use Rattle.std.specs.declared.vec.IntoIter.{IntoIter}
use Rattle.std.proofs.lemmas.List.{map-append}
use Rattle.std.proofs.lemmas.Map.Keys.{IsDistinct-push}
use Rattle.std.proofs.lemmas.Map.Made.{is_some-lookup}
use Rattle.std.proofs.lemmas.Map.Steps.{list_any_congr}

-- the map has what these pairs have, whose keys differ
pub record IsGathered {K V S : Type 0} (eq : K → K → Bool) (es : List (K × V)) (m : HashMap K V S) : Type 0 where
  pub distinct : IsDistinct eq (keys_of es)
  pub values : (q : K) → get eq m q ≡ lookup (eq q) es

or_none : {V : Type 0} (o : Option V) → option_or o None ≡ o
or_none None = refl
or_none (Some v) = refl

cond_or : {V : Type 0} (b : Bool) (x : V) (o p : Option V) → cond b (Some x) (option_or o p) ≡ option_or (cond b (Some x) o) p
cond_or true x o p = refl
cond_or false x o p = refl

lookup_more : {K V : Type 0} (test : K → Bool) (es : List (K × V)) (k : K) (v : V) → lookup test (es ++ (k, v) ∷ []) ≡ option_or (lookup test es) (cond (test k) (Some v) None)
lookup_more test [] k v = refl
lookup_more test (e ∷ es) k v = ap (λ o. cond (test e.0) (Some e.1) o) (lookup_more test es k v) ∙ cond_or (test e.0) e.1 (lookup test es) (cond (test k) (Some v) None)

none_there : {V : Type 0} (o : Option V) → is_some o ≡ false → o ≡ None
none_there None h = refl
none_there (Some v) h = cc

value_more : {K V : Type 0} {eq : K → K → Bool} (laws : IsEquivalence eq) (es : List (K × V)) (k : K) (v : V) (q : K) → list_any (eq k) (keys_of es) ≡ false
    → (b : Bool) → eq k q ≡ b → cond b (Some v) (lookup (eq q) es) ≡ option_or (lookup (eq q) es) (cond b (Some v) None)
value_more {eq = eq} laws es k v q new true e =
    ap (λ o. option_or o (Some v)) (sym (none_there (lookup (eq q) es) (is_some-lookup (eq q) es ∙ (sym (list_any_congr laws k q (keys_of es) e) ∙ new))))
value_more {eq = eq} laws es k v q new false e = sym (or_none (lookup (eq q) es))

-- one more pair of a new key
pub gathered_more : {K V S : Type 0} {eq : K → K → Bool} (laws : IsEquivalence eq) (es : List (K × V)) (k : K) (v : V) (m n : HashMap K V S) → IsGathered eq es m → list_any (eq k) (keys_of es) ≡ false
    → ((q : K) → get eq n q ≡ cond (eq k q) (Some v) (get eq m q)) → IsGathered eq (es ++ (k, v) ∷ []) n
gathered_more {eq = eq} laws es k v m n before new puts = record {
  distinct = rw map-append (IsDistinct-push laws (keys_of es) k before.distinct new);
  values = λ q.
      puts q ∙ ap (λ o. cond (eq k q) (Some v) o) (before.values q) ∙ value_more laws es k v q new (eq k q) refl
      ∙ ap (λ b. option_or (lookup (eq q) es) (cond b (Some v) None)) (laws.symm k q) ∙ sym (lookup_more (eq q) es k v);
}

-- whether a key stands in them
pub held_before : {K V S : Type 0} {eq : K → K → Bool} (es : List (K × V)) (m : HashMap K V S) (k : K) (b : Bool) → IsGathered eq es m → b ≡ is_some (get eq m k) → list_any (eq k) (keys_of es) ≡ b
held_before {eq = eq} es m k b before h = sym (is_some-lookup (eq k) es) ∙ (ap is_some (sym (before.values k)) ∙ sym h)

pub keys_split : {K V : Type 0} (es fs : List (K × V)) → keys_of (es ++ fs) ≡ keys_of es ++ keys_of fs
keys_split [] fs = refl
keys_split (e ∷ es) fs = ap (λ ks. e.0 ∷ ks) (keys_split es fs)

-- what the iterator of a vector has given is a front of its items
pub taken_front : {X A : Type 0} (s : IntoIter X A) (xs : List X) (t : IntoIter X A) → Yields into_iter_steps s xs t → into_iter_items s ≡ xs ++ into_iter_items t
taken_front s [] t y = ap into_iter_items y
taken_front s (x ∷ xs) t y = y.1.0 ∙ ap (λ ys. x ∷ ys) (taken_front y.0 xs t y.2)

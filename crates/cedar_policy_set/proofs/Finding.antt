-- Look-ups by ids in lists of entries.
use Rattle.std.proofs.Common.{◌≡◌, Bool, true, false, cond, List, [], ◌∷◌, ◌++◌, map, refl, sym, ap, ◌∙◌, true≢false, Option, None, Some, is_some}
use Rattle.std.specs.List.{list_any}
use Rattle.std.specs.Map.{lookup, remove_entry}
use Rattle.std.specs.Cmp.Lexicographic.{bytes_decides}
use Rattle.std.proofs.lemmas.Bool.{or_left, or_right}
use Rattle.cedar_language.specs.Uid.{Text}
use Rattle.cedar_language.specs.Order.{same_text}

pub same_id : (a b : Text) → same_text a b ≡ true → a ≡ b
same_id a b = (bytes_decides a b).0

pub id_itself : (a : Text) → same_text a a ≡ true
id_itself a = (bytes_decides a a).1 refl

pub id_apart : (a b : Text) → (a ≡ b → ⊥) → same_text a b ≡ false
id_apart a b n = by (same_text a b) refl
  where
    by : (r : Bool) → same_text a b ≡ r → same_text a b ≡ false
    by true e = absurd (n (same_id a b e))
    by false e = e

pub none_from : {A : Type 0} (o : Option A) → is_some o ≡ false → o ≡ None
none_from None e = refl
none_from (Some x) e = absurd (true≢false e)

-- what is not found is not what is found
pub some_apart : {A : Type 0} (x : A) (o : Option A) → o ≡ None → o ≡ Some x → ⊥
some_apart x o n s = true≢false (sym (ap is_some s) ∙ ap is_some n)

module _ {X : Type 0} where
  -- what a list binds stays bound when more comes after it
  pub found_first : (xs ys : List (Text × X)) (id : Text) (e : X) → lookup (same_text id) xs ≡ Some e → lookup (same_text id) (xs ++ ys) ≡ Some e
  found_first [] ys id e h = absurd (some_apart e None refl h)
  found_first (x ∷ xs) ys id e h = by (same_text id x.0) h (found_first xs ys id e)
    where
      by : (c : Bool) → cond c (Some x.1) (lookup (same_text id) xs) ≡ Some e → (lookup (same_text id) xs ≡ Some e → lookup (same_text id) (xs ++ ys) ≡ Some e)
          → cond c (Some x.1) (lookup (same_text id) (xs ++ ys)) ≡ Some e
      by true g rest = g
      by false g rest = rest g

  -- and what it doesn't bind is what comes after it
  pub found_later : (xs ys : List (Text × X)) (id : Text) → is_some (lookup (same_text id) xs) ≡ false → lookup (same_text id) (xs ++ ys) ≡ lookup (same_text id) ys
  found_later [] ys id h = refl
  found_later (x ∷ xs) ys id h = by (same_text id x.0) h (found_later xs ys id)
    where
      by : (c : Bool) → is_some (cond c (Some x.1) (lookup (same_text id) xs)) ≡ false → (is_some (lookup (same_text id) xs) ≡ false → lookup (same_text id) (xs ++ ys) ≡ lookup (same_text id) ys)
          → cond c (Some x.1) (lookup (same_text id) (xs ++ ys)) ≡ lookup (same_text id) ys
      by true g rest = absurd (true≢false g)
      by false g rest = rest g

  -- a test that passes what is found passes some entry
  pub any_found : (p : X → Bool) (es : List (Text × X)) (id : Text) (e : X) → lookup (same_text id) es ≡ Some e → p e ≡ true → list_any (λ x. p x.1) es ≡ true
  any_found p [] id e h t = absurd (some_apart e None refl h)
  any_found p (x ∷ es) id e h t = by (same_text id x.0) h (any_found p es id e)
    where
      by : (c : Bool) → cond c (Some x.1) (lookup (same_text id) es) ≡ Some e → (lookup (same_text id) es ≡ Some e → p e ≡ true → list_any (λ y. p y.1) es ≡ true)
          → list_any (λ y. p y.1) (x ∷ es) ≡ true
      by true g rest = let same : x.1 ≡ e = cc in or_left (p x.1) _ (ap p same ∙ t)
      by false g rest = or_right (p x.1) _ (rest g t)

  -- mapping the values and taking an entry away go together
  pub remove_entry-map : {Y : Type 0} (f : X → Y) (test : Text → Bool) (es : List (Text × X)) → remove_entry test (map (λ e. (e.0, f e.1)) es) ≡ map (λ e. (e.0, f e.1)) (remove_entry test es)
  remove_entry-map f test [] = refl
  remove_entry-map f test (e ∷ es) = by (test e.0) (remove_entry-map f test es)
    where
      by : (b : Bool) → remove_entry test (map (λ x. (x.0, f x.1)) es) ≡ map (λ x. (x.0, f x.1)) (remove_entry test es)
          → cond b (map (λ x. (x.0, f x.1)) es) ((e.0, f e.1) ∷ remove_entry test (map (λ x. (x.0, f x.1)) es)) ≡ map (λ x. (x.0, f x.1)) (cond b es (e ∷ remove_entry test es))
      by true rest = refl
      by false rest = ap (λ xs. (e.0, f e.1) ∷ xs) rest

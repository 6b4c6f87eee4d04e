-- What is kept by ids.
use Rattle.std.proofs.Common.{◌≡◌, ◌∙◌, ℕ, ◌+◌, ◌<◌, Bool, true, false, cond, ◌||◌, List, [], ◌∷◌, ◌++◌, is_some, Some, length, take, get_or, map, refl, sym, ap, subst}
use Rattle.std.proofs.lemmas.List.{map-append, take_more}
use Rattle.std.specs.Map.{lookup}
use Rattle.cedar_language.specs.Order.{same_text}
use Rattle.cedar_language.specs.Uid.{Text}
use Rattle.cedar_policy_set.proofs.Finding.{same_id}
use Rattle.cedar_policy_set.specs.Places.{put}
use Rattle.cedar_authoring.specs.Standing.{is_in, AreOf, AreOneMore}

or_false : (a : Bool) → a ≡ (a || false)
or_false true = refl
or_false false = refl

or_again : (a b r : Bool) → a ≡ b → (a || r) ≡ ((a || r) || b)
or_again true b r is = refl
or_again false b true is = refl
or_again false b false is = is

or_move : (a r b : Bool) → (a || (r || b)) ≡ ((a || r) || b)
or_move true r b = refl
or_move false r b = refl

module _ {V : Type 0} where
  -- whether something stands under an id: here, or further on
  in_first : (id : Text) (e : Text × V) (es : List (Text × V)) → is_in id (e ∷ es) ≡ (same_text id e.0 || is_in id es)
  in_first id e es = by (same_text id e.0) where
    by : (b : Bool) → is_some (cond b (Some e.1) (lookup (same_text id) es)) ≡ (b || is_in id es)
    by true = refl
    by false = refl

  pub put_more : (es : List (Text × V)) (own : Text) (v : V) → AreOneMore es (put es own v) own
  put_more [] own v id = in_first id (own, v) [] ∙ sym (or_false (same_text id own))
  put_more (e ∷ es) own v id = by (put_more es own v id) (same_text own e.0) refl where
    Q : List (Text × V) → Type 0
    Q made = is_in id made ≡ (is_in id (e ∷ es) || same_text id own)

    by : is_in id (put es own v) ≡ (is_in id es || same_text id own) → (b : Bool) → same_text own e.0 ≡ b → Q (cond b ((e.0, v) ∷ es) (e ∷ put es own v))
    by later true is =
        in_first id (e.0, v) es
        ∙ (or_again (same_text id e.0) (same_text id own) (is_in id es) (ap (same_text id) (sym (same_id own e.0 is)))
        ∙ ap (λ b. b || same_text id own) (sym (in_first id e es)))
    by later false is =
        in_first id e (put es own v)
        ∙ (ap (λ b. same_text id e.0 || b) later
        ∙ (or_move (same_text id e.0) (is_in id es) (same_text id own) ∙ ap (λ b. b || same_text id own) (sym (in_first id e es))))

  in_pushed : (id : Text) (es : List (Text × V)) (e : Text × V) → is_in id (es ++ e ∷ []) ≡ (is_in id es || same_text id e.0)
  in_pushed id [] e = in_first id e [] ∙ sym (or_false (same_text id e.0))
  in_pushed id (x ∷ es) e =
      in_first id x (es ++ e ∷ [])
      ∙ (ap (λ b. same_text id x.0 || b) (in_pushed id es e)
      ∙ (or_move (same_text id x.0) (is_in id es) (same_text id e.0) ∙ ap (λ b. b || same_text id e.0) (sym (in_first id x es))))

-- those of one more
pub one_more_of : {A V W : Type 0} (f : A → Text × W) (xs : List A) (i : ℕ) (x : A) (old new : List (Text × V)) → i < length xs → x ≡ get_or xs i x
    → AreOf old (map f (take i xs)) → AreOneMore old new (f x).0 → AreOf new (map f (take (i + 1) xs))
one_more_of f xs i x old new within is before more id =
    let taken : take i xs ++ x ∷ [] ≡ take (i + 1) xs = ap (λ y. take i xs ++ y ∷ []) is ∙ sym (take_more xs i x within) in
    let all : map f (take i xs) ++ f x ∷ [] ≡ map f (take (i + 1) xs) = sym (map-append f (take i xs) (x ∷ [])) ∙ ap (map f) taken in
    more id ∙ (ap (λ b. b || same_text id (f x).0) (before id) ∙ (sym (in_pushed id (map f (take i xs)) (f x)) ∙ ap (is_in id) all))

-- Ids of policies as a set, in an order.
use Rattle.std.proofs.Common.{◌≡◌, Bool, true, false, ◌&&◌, ◌||◌, List, [], ◌∷◌, refl, sym, ◌∙◌, ap, true≢false}
use Rattle.std.specs.Prelude.{◌++◌, if◌then◌else◌}
use Rattle.std.specs.Bool.{Decides}
use Rattle.std.specs.Cmp.{IsEquivalence, first_so, second_so, both_ways}
use Rattle.std.specs.Cmp.Lexicographic.{bytes_decides}
use Rattle.std.specs.List.{list_all}
use Rattle.std.specs.Set.{is_member}
use Rattle.cedar_language.specs.Order.{same_text}
use Rattle.cedar_language.specs.Uid.{Text}

-- the ids with one more at the end, if it isn't among them
abbrev pub put_id : List Text → Text → List Text
put_id ids id = if is_member same_text ids id then ids else ids ++ id ∷ []

-- whether each id of either is among the other's
abbrev pub same_ids : List Text → List Text → Bool
same_ids xs ys = list_all (is_member same_text ys) xs && list_all (is_member same_text xs) ys

-- ---- this is an equivalence

-- an id is among both or among neither
abbrev HaveSame : List Text → List Text → Type 0
HaveSame xs ys = (id : Text) → is_member same_text xs id ≡ is_member same_text ys id

passes : (t : Text → Bool) (xs : List Text) → list_all t xs ≡ true → (id : Text) → is_member same_text xs id ≡ true → t id ≡ true
passes t [] h id m = absurd (true≢false (sym m))
passes t (x ∷ xs) h id m = by (same_text id x) refl m (passes t xs (second_so (t x) _ h) id)
  where
    by : (b : Bool) → same_text id x ≡ b → (b || is_member same_text xs id) ≡ true → (is_member same_text xs id ≡ true → t id ≡ true) → t id ≡ true
    by true same n rest = ap t ((bytes_decides id x).0 same) ∙ first_so (t x) _ h
    by false same n rest = rest n

all_pass : (t : Text → Bool) (xs : List Text) → ((id : Text) → is_member same_text xs id ≡ true → t id ≡ true) → list_all t xs ≡ true
all_pass t [] h = refl
all_pass t (x ∷ xs) h = ap (λ b. b && list_all t xs) (h x (ap (λ b. b || is_member same_text xs x) ((bytes_decides x x).1 refl))) ∙ all_pass t xs (λ id m. h id (later (same_text id x) _ m))
  where
    later : (b c : Bool) → c ≡ true → (b || c) ≡ true
    later true c m = refl
    later false c m = m

same_decides : (xs ys : List Text) → Decides (same_ids xs ys) (HaveSame xs ys)
same_decides xs ys = (
  λ h id. both_ways _ _ (passes (is_member same_text ys) xs (first_so _ _ h) id) (passes (is_member same_text xs) ys (second_so (list_all (is_member same_text ys) xs) _ h) id),
  λ h i. all_pass (is_member same_text ys) xs (λ id m. sym (h id) ∙ m) i && all_pass (is_member same_text xs) ys (λ id m. h id ∙ m) i,
)

pub same_ids_equiv : IsEquivalence same_ids
same_ids_equiv = record {
  refl = λ xs. (same_decides xs xs).1 (λ id. refl);
  symm = λ xs ys. both_ways _ _ (λ h. (same_decides ys xs).1 (λ id. sym ((same_decides xs ys).0 h id))) (λ h. (same_decides xs ys).1 (λ id. sym ((same_decides ys xs).0 h id)));
  congr = λ xs ys zs h.
      let same : HaveSame xs ys = (same_decides xs ys).0 h in
      both_ways _ _ (λ k. (same_decides ys zs).1 (λ id. sym (same id) ∙ (same_decides xs zs).0 k id)) (λ k. (same_decides xs zs).1 (λ id. same id ∙ (same_decides ys zs).0 k id));
}

-- What stands under an id once one more name is given to it.
use Rattle.std.proofs.Common.{◌≡◌, Bool, true, false, cond, List, [], ◌∷◌, ◌++◌, refl, sym, ap, ◌∙◌, Option, Some}
use Rattle.std.specs.BTreeMap.{BTreeMap, get, is_at}
use Rattle.std.specs.Option.{option_map_or}
use Rattle.std.specs.Cmp.Lexicographic.{texts_ties, bytes_decides}
use Rattle.cedar_language.specs.Uid.{Text}
use Rattle.cedar_language.specs.Order.{same_text, text_cmp}

-- ids that are the same have the same
pub alike_there : {V : Type 0} (m : BTreeMap Text V) (id t : Text) → same_text id t ≡ true → get text_cmp m id ≡ get text_cmp m t
alike_there m id t same = ap (get text_cmp m) ((bytes_decides id t).0 same)

pub put_at : {V : Type 0} (new : Option V) (w : V) (old : Option V) (id t : Text) → new ≡ cond (is_at (text_cmp id) t) (Some w) old → new ≡ cond (same_text id t) (Some w) old
put_at new w old id t is = is ∙ ap (λ b. cond b (Some w) old) (sym (texts_ties id t))

module _ {V X : Type 0} (items : V → List X) (old new : Text → Option V) (id : Text) (w : V) (p : X) (put : (t : Text) → new t ≡ cond (same_text id t) (Some w) (old t)) where
  -- behind those that are there
  pub listed_behind : (v : V) → ((t : Text) → same_text id t ≡ true → old t ≡ Some v) → items w ≡ items v ++ p ∷ [] → (t : Text)
      → option_map_or items (new t) [] ≡ cond (same_text id t) (option_map_or items (old t) [] ++ p ∷ []) (option_map_or items (old t) [])
  listed_behind v there is t = ap (λ o. option_map_or items o []) (put t) ∙ by (same_text id t) refl
    where
      by : (c : Bool) → same_text id t ≡ c → option_map_or items (cond c (Some w) (old t)) [] ≡ cond c (option_map_or items (old t) [] ++ p ∷ []) (option_map_or items (old t) [])
      by true s = is ∙ sym (ap (λ o. option_map_or items o [] ++ p ∷ []) (there t s))
      by false s = refl

  -- alone, where there are none
  pub listed_first : ((t : Text) → same_text id t ≡ true → option_map_or items (old t) [] ≡ []) → items w ≡ p ∷ [] → (t : Text)
      → option_map_or items (new t) [] ≡ cond (same_text id t) (option_map_or items (old t) [] ++ p ∷ []) (option_map_or items (old t) [])
  listed_first none is t = ap (λ o. option_map_or items o []) (put t) ∙ by (same_text id t) refl
    where
      by : (c : Bool) → same_text id t ≡ c → option_map_or items (cond c (Some w) (old t)) [] ≡ cond c (option_map_or items (old t) [] ++ p ∷ []) (option_map_or items (old t) [])
      by true s = is ∙ sym (ap (λ ps. ps ++ p ∷ []) (none t s))
      by false s = refl

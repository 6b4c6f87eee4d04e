-- What holds of the functions of some extensions, and of those of one more, holds of all.
use Rattle.std.proofs.Common.{◌≡◌, List, [], ◌∷◌, ◌++◌, ◌&&◌, Bool, true, ap, ◌∙◌, append-nil}
use Rattle.std.specs.List.{list_all, flat_map}
use Rattle.std.proofs.lemmas.List.Folds.{list_all-append}
use Rattle.std.proofs.lemmas.Grind.{flat_map-append}

pub added : {E F : Type 0} (functions : E → List F) (p : F → Bool) (es : List E) (e : E) →
    list_all p (flat_map functions es) ≡ true → list_all p (functions e) ≡ true → list_all p (flat_map functions (es ++ e ∷ [])) ≡ true
added functions p es e h k =
    ap (list_all p) (flat_map-append functions es (e ∷ []) ∙ ap (λ fs. flat_map functions es ++ fs) (append-nil (functions e)))
    ∙ list_all-append p (flat_map functions es) (functions e)
    ∙ ap (λ b. b && list_all p (functions e)) h
    ∙ k

-- Items that are put at keys one by one.
use Rattle.std.proofs.Common.{◌≡◌, ◌∙◌, ap, sym, List, [], ◌∷◌, ◌++◌, append_assoc, map, Global}
use Rattle.std.proofs.lemmas.List.{map-append}
use Rattle.std.specs.declared.rc.RcStr.{RcStr}

module _ {X : Type 0} (es made : List (RcStr Global × X)) (rest later all : List X) where
  pub items_next : (k : RcStr Global) (x : X) → made ≡ es ++ (k, x) ∷ [] → map (λ e. e.1) es ++ rest ≡ all → rest ≡ x ∷ later → map (λ e. e.1) made ++ later ≡ all
  items_next k x put goes cut =
      ap (λ es. map (λ e. e.1) es ++ later) put
      ∙ ap (λ xs. xs ++ later) (map-append (λ e. e.1) es ((k, x) ∷ []))
      ∙ append_assoc (map (λ e. e.1) es) (x ∷ []) later
      ∙ ap (λ r. map (λ e. e.1) es ++ r) (sym cut)
      ∙ goes

-- Functions are found one extension after the other.
use Rattle.std.proofs.Common.{◌≡◌, ℕ, ◌+◌, ◌<◌, suc, List, ◌∷◌, length, get_or, drop, ap, sym, ◌∙◌, add-one}
use Rattle.std.proofs.Math.Seq.{drop-cons}
use Rattle.std.proofs.lemmas.List.Folds.{find-append}
use Rattle.std.specs.Prelude.{Option}
use Rattle.std.specs.Option.{option_or}
use Rattle.std.specs.List.{flat_map}
use Rattle.cedar_language.specs.Uid.{Name}
use Rattle.cedar_language.specs.Order.{same_name}
use Rattle.cedar_extensions.specs.Functions.{function_name}
use Rattle.cedar_extensions.specs.Holding.{extension_functions, found_in}
use Rattle.cedar_extensions.specs.declared.functions.ExtensionFunction.{ExtensionFunction}
use Rattle.cedar_extensions.specs.declared.extension.Extension.{Extension}

abbrev pub found_from : {F : Type 0} → ℕ → List (Extension F) → Name → Option (ExtensionFunction F)
found_from i es n = found_in (flat_map extension_functions (drop i es)) n

-- where the extensions before the i-th have none, its own or else that of a later one is found
pub found_next : {F : Type 0} (es : List (Extension F)) (i : ℕ) (e : Extension F) (n : Name) (own : Option (ExtensionFunction F)) → i < length es → e ≡ get_or es i e → own ≡ found_in (extension_functions e) n → found_from i es n ≡ found_in (flat_map extension_functions es) n → option_or own (found_from (i + 1) es n) ≡ found_in (flat_map extension_functions es) n
found_next es i e n own below is finds before =
    let next : drop i es ≡ e ∷ drop (i + 1) es = rw add-one (drop-cons es i e below ∙ ap (λ x. x ∷ drop (suc i) es) (sym is)) in
    let parts : found_from i es n ≡ option_or (found_in (extension_functions e) n) (found_from (i + 1) es n) =
    ap (λ fs. found_in (flat_map extension_functions fs) n) next
    ∙ find-append (λ f. same_name (function_name f) n) (extension_functions e) (flat_map extension_functions (drop (i + 1) es)) in
    ap (λ o. option_or o (found_from (i + 1) es n)) finds ∙ sym parts ∙ before

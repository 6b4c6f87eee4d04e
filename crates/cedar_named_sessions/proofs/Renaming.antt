-- Kinds by ids, and the same by names.
use Rattle.std.proofs.Common.{◌≡◌, List, [], ◌∷◌, Option, None, Some, map, refl, ap}
use Rattle.cedar_language.specs.Uid.{Text}
use Rattle.cedar_language.specs.Value.{Kind}
use Rattle.cedar_replies.specs.Erring.{and_kind, with_kinds}
use Rattle.cedar_replies.specs.Kinds.{kind_of}
use Rattle.cedar_replies.specs.declared.error_kind.ErrorKind.{ErrorKind}

module _ (f : Text → Text) where
  abbrev pub renamed : {A : Type 0} → Text × A → Text × A
  renamed e = (f e.0, e.1)

  pub kinds_renamed : (es : List (Text × ErrorKind)) → with_kinds (map renamed es) ≡ map renamed (with_kinds es)
  kinds_renamed [] = refl
  kinds_renamed (e ∷ es) = by (kind_of e.1) (kinds_renamed es)
    where
      by : (k : Option Kind) → with_kinds (map renamed es) ≡ map renamed (with_kinds es)
          → and_kind (f e.0) k (with_kinds (map renamed es)) ≡ map renamed (and_kind e.0 k (with_kinds es))
      by None rest = rest
      by (Some k) rest = ap (λ others. (f e.0, k) ∷ others) rest

-- The names of those that err, by the ids that an answer has.
use Rattle.std.proofs.Common.{◌≡◌, Bool, true, ◌&&◌, Option, Some, None, is_some, List, [], ◌∷◌, ◌++◌, refl, ap}
use Rattle.std.specs.List.{flat_map}
use Rattle.std.specs.Map.{keys_of}
use Rattle.cedar_language.specs.Uid.{Text}
use Rattle.cedar_language.specs.Value.{Kind}
use Rattle.cedar_replies.specs.declared.error_kind.ErrorKind.{ErrorKind}
use Rattle.cedar_replies.specs.Erring.{have_kinds, with_kinds, and_kind}
use Rattle.cedar_replies.specs.Kinds.{kind_of}

module _ (f : Text → List Text) where
  by_kind : (e : Text × ErrorKind) (o : Option Kind) (b : Bool) (rest : List (Text × Kind)) (told : List Text) → (is_some o && b) ≡ true
      → (b ≡ true → told ≡ flat_map f (keys_of rest)) → f e.0 ++ told ≡ flat_map f (keys_of (and_kind e.0 o rest))
  by_kind e None b rest told h g = absurd (cc h)
  by_kind e (Some kind) b rest told h g = ap (λ ns. f e.0 ++ ns) (g h)

  pub kept_ids : (es : List (Text × ErrorKind)) → have_kinds es ≡ true → flat_map (λ e. f e.0) es ≡ flat_map f (keys_of (with_kinds es))
  kept_ids [] h = refl
  kept_ids (e ∷ es) h = by_kind e (kind_of e.1) (have_kinds es) (with_kinds es) (flat_map (λ e. f e.0) es) h (kept_ids es)

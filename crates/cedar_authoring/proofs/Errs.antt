-- An answer's erring policies, as the code lists them and as the definitions do.
use Rattle.std.proofs.Common.{◌≡◌, ◌&&◌, Bool, true, not, ◌==◌, suc, List, [], ◌∷◌, length, is_some, Option, Some, None, refl, sym, ap, ◌∙◌}
use Rattle.std.specs.FinMap as finite
use Rattle.cedar_language.specs.Uid.{Text}
use Rattle.cedar_language.specs.Value.{Kind}
use Rattle.cedar_replies.specs.declared.error_kind.ErrorKind.{ErrorKind}
use Rattle.cedar_replies.specs.Kinds.{kind_of}
use Rattle.cedar_replies.specs.Erring.{have_kinds, with_kinds, and_kind}

counted : (id : Text) (k : Option Kind) (b : Bool) (rest : List (Text × Kind)) (others : List (Text × ErrorKind)) → (is_some k && b) ≡ true
    → (b ≡ true → length rest ≡ length others) → length (and_kind id k rest) ≡ suc (length others)
counted id None b rest others h f = cc
counted id (Some k) b rest others h f = ap suc (f h)

-- each has a kind, so that none is left out
pub as_many : (es : List (Text × ErrorKind)) → have_kinds es ≡ true → length (with_kinds es) ≡ length es
as_many [] h = refl
as_many (e ∷ es) h = counted e.0 (kind_of e.1) (have_kinds es) (with_kinds es) es h (as_many es)

-- What a renaming gives to an id, and to the first.
use Rattle.std.proofs.Common.{◌≡◌, [], ◌∷◌, refl, sym, ap, Option, Some, None}
use Rattle.std.specs.Prelude.{IfNone, IfSome, unwrap_or}
use Rattle.std.specs.List.{slice_get}
use Rattle.std.specs.Map.{keys_of}
use Rattle.std.specs.Option.{option_copied, option_map_or}
use denote.Ref.{Bor}
use Rattle.cedar_language.specs.Uid.{Text}
use Rattle.cedar_store.specs.Merged.{IsFirst}
use Rattle.cedar_store.specs.Renaming.{NewIds}

pub given_new : (r : Option (Bor Text)) (o : Option Text) (id : Text) → option_copied r ≡ o → IfSome r (λ new. new.now ≡ unwrap_or o id)
given_new None o id e = tt
given_new (Some new) o id e = ap (λ x. unwrap_or x id) e

pub given_none : (r : Option (Bor Text)) (o : Option Text) (id : Text) → option_copied r ≡ o → IfNone r (unwrap_or o id ≡ id)
given_none None o id e = sym (ap (λ x. unwrap_or x id) e)
given_none (Some new) o id e = tt

-- where nothing stands first there is nothing
pub none_first : (r : NewIds) → None ≡ slice_get r 0 → keys_of r ≡ []
none_first [] e = refl
none_first (x ∷ xs) e = cc

pub some_first : (r : NewIds) (e : Text × Text) → Some e ≡ slice_get r 0 → IsFirst (keys_of r) e.0
some_first [] e h = cc
some_first (x ∷ xs) e h = sym (ap (λ o. option_map_or (λ y. y.0) o e.0) h)

-- Lists of shared uids are compared as the uids are.
use Rattle.std.proofs.Common.{◌≡◌, refl, ap, ◌&&◌, List, [], ◌∷◌}
use Rattle.std.specs.Cmp.Lexicographic.{pointwise}
use Rattle.std.specs.declared.rc.Rc.{Rc}
use Rattle.std.specs.declared.alloc.Global.{Global}
use Rattle.cedar_language.specs.Uid.{Uid}
use Rattle.cedar_language.specs.Order.{same_uid}
use Rattle.cedar_policy_parts.specs.Actions.{held_uids}

pub pointwise-held : (xs ys : List (Rc Uid Global)) → pointwise (λ x y. same_uid x.value y.value) xs ys ≡ pointwise same_uid (held_uids xs) (held_uids ys)
pointwise-held [] [] = refl
pointwise-held [] (y ∷ ys) = refl
pointwise-held (x ∷ xs) [] = refl
pointwise-held (x ∷ xs) (y ∷ ys) = ap (λ b. same_uid x.value y.value && b) (pointwise-held xs ys)

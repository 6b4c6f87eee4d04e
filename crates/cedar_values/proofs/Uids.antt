-- Uids that are gathered.
use Rattle.std.proofs.Common.{◌≡◌, ◌||◌, Bool, true, false, cond, refl}
use Rattle.std.specs.Ordering.{eq_by_cmp}
use Rattle.cedar_language.specs.Uid.{Uid}
use Rattle.cedar_language.specs.Order.{same_uid}
use Rattle.cedar_language.specs.Order.{uid_cmp}
use Rattle.cedar_literals.specs.Laws.{uid_cmp_ties}

chosen : (b c : Bool) → cond b true c ≡ (c || b)
chosen true true = refl
chosen true false = refl
chosen false true = refl
chosen false false = refl

-- what an insert of w makes of whether u is there
pub put_uid : (w u : Uid) (b : Bool) → cond (eq_by_cmp uid_cmp w u) true b ≡ (b || same_uid w u)
put_uid w u b = rw (uid_cmp_ties w u) (chosen (eq_by_cmp uid_cmp w u) b)

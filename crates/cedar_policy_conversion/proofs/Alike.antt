-- What a binary search finds is what was looked for.
use Rattle.std.proofs.Common.{◌≡◌, ℕ, List, Result, Ok, Err, IfOk, MatchResult, HoldsAt, slice_index_or, is_eq, ap, ◌∙◌}
use Rattle.std.specs.Cmp.Lexicographic.{pointwise_decides, bytes_decides}
use Rattle.std.specs.declared.cmp.Ordering.TheVariants.{Equal}
use Rattle.std.specs.declared.rc.Rc.{Rc}
use Rattle.std.specs.declared.alloc.Global.{Global}
use Rattle.cedar_language.specs.Uid.{Name, Uid}
use Rattle.cedar_language.specs.Order.{name_cmp, uid_cmp}
use Rattle.cedar_names.specs.Laws.{name_cmp_ties}
use Rattle.cedar_literals.specs.Laws.{uid_cmp_ties}
use Rattle.cedar_policy_parts.specs.SameScopes.{uids_decide}

same_name_is : (m n : Name) → name_cmp m n ≡ Equal → m ≡ n
same_name_is m n equal = (pointwise_decides bytes_decides m n).0 (name_cmp_ties m n ∙ ap is_eq equal)

same_uid_is : (u v : Uid) → uid_cmp u v ≡ Equal → u ≡ v
same_uid_is u v equal = (uids_decide u v).0 (uid_cmp_ties u v ∙ ap is_eq equal)

pub name_found : (ns : List Name) (wanted n : Name) (k : ℕ) → HoldsAt (λ m. name_cmp m wanted ≡ Equal) ns k → n ≡ slice_index_or ns k n → n ≡ wanted
name_found ns wanted n k holds at = at ∙ same_name_is (slice_index_or ns k n) wanted (holds n)

pub uid_found : (us : List (Rc Uid Global)) (wanted u : Rc Uid Global) (k : ℕ) → HoldsAt (λ v. uid_cmp v.value wanted.value ≡ Equal) us k → u ≡ slice_index_or us k u → u.value ≡ wanted.value
uid_found us wanted u k holds at = ap (λ r. r.value) at ∙ same_uid_is (slice_index_or us k u).value wanted.value (holds u)

-- what is said of a value, however the error may be
pub value_or_error : {A E : Type 0} (P : A → Type 0) (Q : E → Type 0) (r : Result A E) → MatchResult r P Q → IfOk r P
value_or_error P Q (Ok a) h = h
value_or_error P Q (Err e) h = tt

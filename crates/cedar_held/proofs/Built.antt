-- Maps and lists of built values.
use Rattle.std.proofs.Common.{◌≡◌, ◌∙◌, sym, subst, Bool, true, false, cond, Option, Some, List, [], ◌∷◌, ◌++◌}
use Rattle.std.specs.FinMap as finite
use Rattle.std.specs.List.{AllByRecursion}
use Rattle.std.specs.Ordering.{eq_by_cmp}
use Rattle.cedar_language.specs.Order.{text_cmp}
use Rattle.cedar_language.specs.OrderLaws.{text_cmp_total}
use Rattle.cedar_language.specs.Uid.{Text}
use Rattle.cedar_language.specs.Value.{Value}
use Rattle.cedar_restricted_evaluation.proofs.Built.{IsBuiltOption}
use Rattle.cedar_held.specs.Built.{IsBuilt, AreBuiltEntries}

-- ---- values at their names

picked : (b : Bool) (v : Value) (o : Option Value) → IsBuilt v → IsBuiltOption o → IsBuiltOption (cond b (Some v) o)
picked true v o h k = h
picked false v o h k = k

found_built : (q : Text) (es : List (Text × Value)) → AreBuiltEntries es → IsBuiltOption (finite.find text_cmp q es)
found_built q [] h = tt
found_built q (e ∷ es) h = picked (eq_by_cmp text_cmp q e.0) e.1 (finite.find text_cmp q es) h.0 (found_built q es h.1)

-- what is got of a map of built values is built
pub got_built : (es : List (Text × Value)) → AreBuiltEntries es → (q : Text) (v : Value) → finite.get (finite.from_entries {R = text_cmp} es) q ≡ Some v → IsBuilt v
got_built es h q v is = subst IsBuiltOption (sym (finite.get-from_entries text_cmp_total es q) ∙ is) (found_built q es h)

-- ---- one after another

pub built_append : {A : Type 0} (P : A → Type 0) (xs : List A) (y : A) → AllByRecursion P xs → P y → AllByRecursion P (xs ++ y ∷ [])
built_append P [] y h k = (k, tt)
built_append P (x ∷ xs) y h k = (h.0, built_append P xs y h.1 k)

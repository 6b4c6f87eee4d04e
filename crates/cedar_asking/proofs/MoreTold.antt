-- Values that are told besides others are told with them.
use Rattle.std.proofs.Common.{◌≡◌, inl, inr, Bool, true, false, not, cond, Option, Some, None, is_some, option_map, List, [], ◌∷◌, map, refl, sym, ◌∙◌, ap, subst, true≢false}
use Rattle.std.specs.Prelude.{◌⊎◌, ◌||◌}
use Rattle.std.specs.Cmp.{Equal-is}
use Rattle.std.specs.Cmp.Lexicographic.{texts_ties}
use Rattle.std.specs.FinMap as finite
use Rattle.std.specs.Ordering.{eq_by_cmp}
use Rattle.std.specs.Rc.{rc_str_bytes}
use Rattle.std.specs.Str.{bytes_eq}
use Rattle.std.specs.declared.alloc.Global.{Global}
use Rattle.std.specs.declared.rc.RcStr.{RcStr}
use Rattle.cedar_language.specs.OrderLaws.{text_cmp_total, text_cmp_same}
use Rattle.cedar_language.specs.Tree.{Tree}
use Rattle.cedar_language.specs.Uid.{Text}
use Rattle.cedar_language.specs.Value.{Value}
use Rattle.cedar_partial_evaluation.specs.Question.{Extends}
use Rattle.cedar_world.specs.Asking.{Question, Told}
use Rattle.cedar_world.specs.Bodies.{Fields, each_field, read_with}
use Rattle.cedar_world.specs.Orders.{text_cmp}
use Rattle.cedar_world.specs.Question.{Portion, is_unknown, fits, told_with}
use Rattle.cedar_world.specs.Refusals.{some_pair, some_key}
use Rattle.cedar_world.specs.Setting.{Setting}
use Rattle.cedar_substitution.specs.Told.{told_for}
use Rattle.cedar_held.specs.Built.{IsBuilt, AreBuiltEntries}
use Rattle.cedar_asking.specs.Keeping.{AreTold}
use Rattle.cedar_asking.specs.TellLaws.{MoreIsTold}
use Rattle.cedar_telling.specs.Tells.{told_in, TellMore}
use Rattle.cedar_lemmas.proofs.Booleans.{or_first as first_false, or_second as rest_false, not_is_false as not_so}

-- ---- a map of told values

abbrev Entries : Type 0
Entries = List (RcStr Global × Value)

found_told : (es : Entries) (n : Text) → finite.find text_cmp n (map (λ (e : RcStr Global × Value). (rc_str_bytes e.0, e.1)) es) ≡ told_for es n
found_told [] n = refl
found_told (e ∷ es) n =
    ap (λ b. cond b (Some e.1) (finite.find text_cmp n (map (λ (x : RcStr Global × Value). (rc_str_bytes x.0, x.1)) es))) (sym (texts_ties n (rc_str_bytes e.0)))
    ∙ ap (cond (bytes_eq n (rc_str_bytes e.0)) (Some e.1)) (found_told es n)

-- what is told for a name
pub get_told : (es : Entries) (n : Text) → finite.get (told_in es) n ≡ told_for es n
get_told es n = finite.get-from_entries text_cmp_total (map (λ (e : RcStr Global × Value). (rc_str_bytes e.0, e.1)) es) n ∙ found_told es n

-- ---- one more portion

abbrev Among : Text → Value → Portion → Type 0
Among n v [] = ⊥
Among n v (e ∷ es) = ((n ≡ e.0) × (v ≡ e.1)) ⊎ Among n v es

same_key : (n k : Text) → eq_by_cmp text_cmp n k ≡ true → n ≡ k
same_key n k e = text_cmp_same n k ((Equal-is (text_cmp n k)).0 e)

same_value : (v w : Value) → Some v ≡ Some w → w ≡ v
same_value v w e = cc

later : (told : Told) (e : Text × Value) (es : Portion) (n : Text) (v : Value) → (finite.get told n ≡ Some v) ⊎ Among n v es → (finite.get told n ≡ Some v) ⊎ Among n v (e ∷ es)
later told e es n v (inl x) = inl x
later told e es n v (inr x) = inr (inr x)

put_or_before : (told : Told) (e : Text × Value) (es : Portion) (n : Text) (v : Value) (b : Bool) → eq_by_cmp text_cmp n e.0 ≡ b → cond b (Some e.1) (finite.get (told_with told es) n) ≡ Some v
    → (finite.get (told_with told es) n ≡ Some v → (finite.get told n ≡ Some v) ⊎ Among n v es) → (finite.get told n ≡ Some v) ⊎ Among n v (e ∷ es)
put_or_before told e es n v true is got before = inr (inl (same_key n e.0 is, same_value e.1 v got))
put_or_before told e es n v false is got before = later told e es n v (before got)

told_before : (told : Told) (es : Portion) (n : Text) (v : Value) → finite.get (told_with told es) n ≡ Some v → (finite.get told n ≡ Some v) ⊎ Among n v es
told_before told [] n v h = inl h
told_before told (e ∷ es) n v h =
    put_or_before told e es n v (eq_by_cmp text_cmp n e.0) refl (sym (finite.get-insert text_cmp_total (told_with told es) e.0 e.1 n) ∙ h) (told_before told es n v)

-- a test that no pair fails holds of each
passes : (test : Text → Value → Bool) (es : Portion) → some_pair (λ n v. not (test n v)) es ≡ false → (n : Text) (v : Value) → Among n v es → test n v ≡ true
passes test [] h n v a = absurd a
passes test (e ∷ es) h n v (inl is) = (λ i. test (is.0 i) (is.1 i)) ∙ not_so (test e.0 e.1) (first_false _ _ h)
passes test (e ∷ es) h n v (inr a) = passes test es (rest_false (not (test e.0 e.1)) _ h) n v a

built_among : (es : Portion) → AreBuiltEntries es → (n : Text) (v : Value) → Among n v es → IsBuilt v
built_among [] h n v a = absurd a
built_among (e ∷ es) h n v (inl is) = subst IsBuilt (sym is.1) h.0
built_among (e ∷ es) h n v (inr a) = built_among es h.1 n v a

-- the values of fields stand under their names
module _ (read : Tree → Option Value) (test : Text → Bool) where
  names_with : (f : Text × Tree) (fs : Fields) (o : Option Value) (rest : Option Portion) (p : Portion)
      → ((es : Portion) → rest ≡ Some es → some_key test fs ≡ some_pair (λ n v. test n) es)
      → read_with (option_map (λ a. (f.0, a)) o) rest ≡ Some p → some_key test (f ∷ fs) ≡ some_pair (λ n v. test n) p
  names_with f fs (Some v) (Some es) p before h =
      let is : (f.0, v) ∷ es ≡ p = cc in
      ap (λ b. test f.0 || b) (before es refl) ∙ ap (some_pair (λ n w. test n)) is
  names_with f fs (Some v) None p before h = cc
  names_with f fs None rest p before h = cc

  same_names : (fs : Fields) (p : Portion) → each_field read fs ≡ Some p → some_key test fs ≡ some_pair (λ n v. test n) p
  same_names [] p h = let is : [] ≡ p = cc in ap (some_pair (λ n v. test n)) is
  same_names (f ∷ fs) p h = names_with f fs (read f.1) (each_field read fs) p (λ es e. same_names fs es e) h

-- what was told is told still
put_beside : (told : Told) (e : Text × Value) (es : Portion) (n : Text) (v : Value) (b : Bool) → eq_by_cmp text_cmp n e.0 ≡ b → finite.get told n ≡ Some v → is_some (finite.get told e.0) ≡ false
    → finite.get (told_with told es) n ≡ Some v → cond b (Some e.1) (finite.get (told_with told es) n) ≡ Some v
put_beside told e es n v true same is new kept = absurd (true≢false (sym (ap is_some is) ∙ ap (λ k. is_some (finite.get told k)) (same_key n e.0 same) ∙ new))
put_beside told e es n v false same is new kept = kept

keeps : (told : Told) (es : Portion) → some_pair (λ n v. is_some (finite.get told n)) es ≡ false → Extends told (told_with told es)
keeps told [] h n v is = is
keeps told (e ∷ es) h n v is =
    finite.get-insert text_cmp_total (told_with told es) e.0 e.1 n
    ∙ put_beside told e es n v (eq_by_cmp text_cmp n e.0) refl is (first_false _ _ h) (keeps told es (rest_false (is_some (finite.get told e.0)) _ h) n v is)

-- ---- all that is told

module _ (by : Setting) (q : Question) (old all : Entries) (fs : Fields) (told : AreTold q old) (more : TellMore by q (told_in old) fs (told_in all)) where
  whence : (n : Text) (v : Value) → told_for all n ≡ Some v → (told_for old n ≡ Some v) ⊎ Among n v more.portion
  whence n v is = from (told_before (told_in old) more.portion n v (ap (λ t. finite.get t n) (sym more.all_is) ∙ get_told all n ∙ is))
    where
      from : (finite.get (told_in old) n ≡ Some v) ⊎ Among n v more.portion → (told_for old n ≡ Some v) ⊎ Among n v more.portion
      from (inl h) = inl (sym (get_told old n) ∙ h)
      from (inr a) = inr a

  named_so : (n : Text) (v : Value) → Among n v more.portion → is_unknown q n ≡ true
  named_so = passes (λ n v. is_unknown q n) more.portion (sym (same_names _ (λ n. not (is_unknown q n)) fs more.portion more.are) ∙ more.new.named.named)

  by_either : {P : Type 0} (n : Text) (v : Value) → (told_for old n ≡ Some v) ⊎ Among n v more.portion → (told_for old n ≡ Some v → P) → (Among n v more.portion → P) → P
  by_either n v (inl h) f g = f h
  by_either n v (inr a) f g = g a

  pub all_are_told : AreTold q all
  all_are_told = record {
    built = λ n v is. by_either n v (whence n v is) (told.built n v) (built_among more.portion more.built n v);
    named = λ n v is. by_either n v (whence n v is) (told.named n v) (named_so n v);
    fit = λ n v is. by_either n v (whence n v is) (told.fit n v) (passes (fits q) more.portion more.kinds n v);
  }

  pub all_extend : Extends (told_in old) (told_in all)
  all_extend = subst (Extends (told_in old)) (sym more.all_is)
      (keeps (told_in old) more.portion (sym (same_names _ (λ n. is_some (finite.get (told_in old) n)) fs more.portion more.are) ∙ more.new.new))

pub more_is_told : MoreIsTold
more_is_told by q old all fs told more = (all_are_told by q old all fs told more, all_extend by q old all fs told more)

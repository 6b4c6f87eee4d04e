-- Records: what inserts make of pairs.
use Rattle.std.proofs.Common.{◌≡◌, List, [], ◌∷◌, ◌++◌, length, map, suc, Option, None, Some, Bool, true, false, cond, refl, sym, ap, ◌∙◌, Ordering, Less, Equal, Greater}
use Rattle.std.proofs.lemmas.Cmp.{tied_itself}
use Rattle.std.specs.declared.alloc.Global.{Global}
use Rattle.std.specs.declared.rc.RcStr.{RcStr}
use Rattle.std.specs.BTreeMap.{insert_entry}
use Rattle.std.specs.Cmp.Lexicographic.{bytes_decides}
use Rattle.std.specs.List.{AllByRecursion}
use Rattle.std.specs.List.Sorted.{IsStrictlySortedBy}
use Rattle.std.specs.Option.{option_or}
use Rattle.std.specs.Ordering.{match_ordering}
use Rattle.std.specs.Rc.{rc_str_bytes}
use Rattle.cedar_language.specs.Uid.{Text}
use Rattle.cedar_language.specs.Value.{Value, RecordOf}
use Rattle.cedar_language.specs.Order.{text_cmp, same_text}
use Rattle.cedar_language.specs.OrderLaws.{text_cmp_total, text_cmp_same}
use Rattle.cedar_language.specs.Operators.{found, count}
use Rattle.cedar_values.specs.Kinds.{keys_of, values_of}
use Rattle.cedar_values.specs.Records.{last_at, IsRecordOf}

abbrev pub Entries : Type 0
Entries = List (RcStr Global × Value)

abbrev pub entry_keys : Entries → List (RcStr Global)
entry_keys es = map (λ e. e.0) es

abbrev pub key_cmp : RcStr Global → RcStr Global → Ordering
key_cmp k l = text_cmp (rc_str_bytes k) (rc_str_bytes l)

abbrev pub found_in : Entries → Text → Option Value
found_in es a = found (keys_of es) (values_of es) a

abbrev pub put_at : RcStr Global → Value → Option Value → Text → Option Value
put_at k v o a = cond (same_text (rc_str_bytes k) a) (Some v) o

choose_swap : (b c : Bool) (v w : Value) (o : Option Value) → (b ≡ true → c ≡ true → ⊥) → cond b (Some v) (cond c (Some w) o) ≡ cond c (Some w) (cond b (Some v) o)
choose_swap true true v w o h = absurd (h refl refl)
choose_swap true false v w o h = refl
choose_swap false true v w o h = refl
choose_swap false false v w o h = refl

greater_is_not : Greater ≡ Equal → ⊥
greater_is_not e = cc

choose_twice : (b : Bool) (v w : Value) (o : Option Value) → cond b (Some v) o ≡ cond b (Some v) (cond b (Some w) o)
choose_twice true v w o = refl
choose_twice false v w o = refl

-- ---- what an insert changes

put_step : (o : Ordering) (e : RcStr Global × Value) (es : Entries) (k : RcStr Global) (v : Value) (a : Text) → key_cmp k e.0 ≡ o → found_in (insert_entry key_cmp es k v) a ≡ put_at k v (found_in es a) a →
    found_in (match_ordering o ((k, v) ∷ e ∷ es) ((e.0, v) ∷ es) (e ∷ insert_entry key_cmp es k v)) a ≡ put_at k v (found_in (e ∷ es) a) a
put_step Less e es k v a h i = refl
put_step Equal e es k v a h i =
    let same : rc_str_bytes k ≡ rc_str_bytes e.0 = text_cmp_same (rc_str_bytes k) (rc_str_bytes e.0) h in
    rw same (choose_twice (same_text (rc_str_bytes e.0) a) v e.1 (found_in es a))
put_step Greater e es k v a h i =
    rw i (sym (choose_swap (same_text (rc_str_bytes k) a) (same_text (rc_str_bytes e.0) a) v e.1 (found_in es a) (λ p q.
    let same : rc_str_bytes k ≡ rc_str_bytes e.0 = (bytes_decides (rc_str_bytes k) a).0 p ∙ sym ((bytes_decides (rc_str_bytes e.0) a).0 q) in
    greater_is_not (sym h ∙ rw (← same) (tied_itself text_cmp_total (rc_str_bytes k))))))

pub found_put : (es : Entries) (k : RcStr Global) (v : Value) (a : Text) → found_in (insert_entry key_cmp es k v) a ≡ put_at k v (found_in es a) a
found_put [] k v a = refl
found_put (e ∷ es) k v a = put_step (key_cmp k e.0) e es k v a refl (found_put es k v a)

or_chosen : (b : Bool) (v : Value) (o x : Option Value) → option_or (cond b (Some v) o) x ≡ cond b (Some v) (option_or o x)
or_chosen true v o x = refl
or_chosen false v o x = refl

pub last_push : (es : Entries) (k : RcStr Global) (v : Value) (a : Text) → last_at (es ++ (k, v) ∷ []) a ≡ put_at k v (last_at es a) a
last_push [] k v a = refl
last_push (e ∷ es) k v a = rw (last_push es k v a) (or_chosen (same_text (rc_str_bytes k) a) v (last_at es a) (cond (same_text (rc_str_bytes e.0) a) (Some e.1) None))

pub found_more : (es fs : Entries) (k : RcStr Global) (v : Value) → ((a : Text) → found_in es a ≡ last_at fs a) → (a : Text) → found_in (insert_entry key_cmp es k v) a ≡ last_at (fs ++ (k, v) ∷ []) a
found_more es fs k v h a = found_put es k v a ∙ ap (λ o. put_at k v o a) (h a) ∙ sym (last_push fs k v a)

-- ---- keys

below_all : (k : RcStr Global) (es : Entries) → AllByRecursion (λ l. key_cmp k l ≡ Less) (entry_keys es) → AllByRecursion (λ t. text_cmp (rc_str_bytes k) t ≡ Less) (keys_of es)
below_all k [] h = tt
below_all k (e ∷ es) h = (h.0, below_all k es h.1)

pub keys_rise : (es : Entries) → IsStrictlySortedBy key_cmp (entry_keys es) → IsStrictlySortedBy text_cmp (keys_of es)
unfolding IsStrictlySortedBy
keys_rise [] h = tt
keys_rise (e ∷ es) h = (below_all e.0 es h.0, keys_rise es h.1)

pub as_many : (es : Entries) → length (keys_of es) ≡ count (values_of es)
as_many [] = refl
as_many (e ∷ es) = ap suc (as_many es)

-- ---- the entries that inserts make of pairs

pub record IsMadeOf (fs es : Entries) : Type 0 where
  pub last : (a : Text) → found_in es a ≡ last_at fs a
  pub ordered : IsStrictlySortedBy key_cmp (entry_keys es)

pub made_more : (fs es gs : Entries) (k : RcStr Global) (v : Value) → IsMadeOf fs es → gs ≡ insert_entry key_cmp es k v → IsStrictlySortedBy key_cmp (entry_keys gs) → IsMadeOf (fs ++ (k, v) ∷ []) gs
made_more fs es gs k v m e o = record { last = λ a. rw e (found_more es fs k v m.last a); ordered = o }

pub is_record : (fs es : Entries) → IsMadeOf fs es → IsRecordOf fs (RecordOf (keys_of es) (values_of es))
is_record fs es m = record { rising = keys_rise es m.ordered; as_many = as_many es; last = m.last }

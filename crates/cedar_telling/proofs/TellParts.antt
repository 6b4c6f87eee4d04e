-- A body that tells, one part at a time: the record that it is, what is told at each name, and what is asked of its names and values.
use Rattle.std.proofs.Common.{◌≡◌, ◌∙◌, ◌≤◌, ◌<◌, ℕ, suc, refl, ap, sym, arith, true≢false, Bool, true, false, cond, not, ◌||◌, Option, Some, None, List, [], ◌∷◌, ◌++◌, map, codes, Global}
use Rattle.std.specs.Borrow.{Bor}
use Rattle.std.specs.Cmp.Lexicographic.{bytes_decides, nat_list_eq_equiv}
use Rattle.std.specs.FinMap as finite
use Rattle.std.specs.BTreeMap.{BTreeMap, is_at}
use Rattle.std.specs.List.{AllZip}
use Rattle.std.specs.Option.{IfSome}
use Rattle.std.specs.Map.{lookup, KeepsOthers}
use Rattle.std.specs.Ordering.{eq_by_cmp}
use Rattle.std.specs.Rc.{rc_str_bytes}
use Rattle.std.specs.Str.{bytes_eq}
use Rattle.std.specs.declared.rc.RcStr.{RcStr}
use Rattle.std.proofs.lemmas.Bool.{ltb-false, le-ltb}
use Rattle.std.proofs.lemmas.Bool.Decides.{Decides-ltb}
use Rattle.std.proofs.lemmas.List.{map-append}
use Rattle.std.proofs.lemmas.Map.Text.{is_eq-slice_cmp}
use Rattle.either.specs.declared.Either.TheVariants.{Left}
use Rattle.cedar_language.specs.Height.{height, heights}
use Rattle.cedar_language.specs.Order.{text_cmp}
use Rattle.cedar_language.specs.OrderLaws.{text_cmp_total, text_cmp_same}
use Rattle.cedar_language.specs.Restricted.{is_restricted, are_restricted}
use Rattle.cedar_language.specs.Tree.{MakeRecord, Tree, Apply, Trees, no_trees, a_tree}
use Rattle.cedar_language.specs.Uid.{Text}
use Rattle.cedar_language.specs.Value.{Value}
use Rattle.cedar_grammar.specs.Build.{trees, keys}
use Rattle.cedar_trees.specs.Bare.{bare, record_tree}
use Rattle.cedar_trees.specs.declared.expr.Expr.{Expr}
use Rattle.cedar_world.specs.Asking.{Question, Told}
use Rattle.cedar_grammar.specs.UnknownCalls.{named, all_named, hold_call, holds_call}
use Rattle.cedar_world.specs.Bodies.{Fields, zipped, fields_of, found, some_name_of}
use Rattle.cedar_world.specs.Orders.{text_eq}
use Rattle.cedar_world.specs.Question.{Portion, fits, told_with}
use Rattle.cedar_world.specs.Refusals.{some_key, some_pair}
use Rattle.cedar_world.specs.Values.{some_field}
use Rattle.cedar_entities.specs.Attributes.{Attribute, Entries, seen_entries}
use Rattle.cedar_restricted.specs.PartialValues.{partial_of}
use Rattle.cedar_restricted.specs.declared.partial_values.PartialValue.{PartialValue}
use Rattle.cedar_substitution.proofs.Lookups.{key_cmp, same_key, looked_up, keeps_texts}
use Rattle.cedar_held.specs.Entities.{named_all}
use Rattle.cedar_held.specs.Fields.{unrestricted, deeper, as_entries}
use Rattle.cedar_held.specs.Lent.{fields_in}
use Rattle.cedar_telling.specs.Questions.{StandsAt, LendsContext}
use Rattle.cedar_telling.specs.Tells.{told_in}
use Rattle.cedar_telling.specs.TellSteps.{IsGivenRestricted, some_misfit, with_attribute, with_attributes}
use Rattle.cedar_telling.specs.UnknownNames.{stands_in_some}
use Rattle.cedar_telling.proofs.WrittenNames.{all_stand_named}
use Rattle.cedar_lemmas.proofs.Booleans.{and_first as and_left, and_second as and_right, or_first as or_left, or_second as or_right, not_is_false as not_false}
use Rattle.std.proofs.lemmas.Bool.{and_from as and_both, or_from as or_false}

-- ---- a record of fields

abbrev pub values_of : Fields → Trees
values_of fs = trees (map (λ f. f.1) fs)

pub each_restricted : (fs : Fields) → are_restricted (values_of fs) ≡ true → some_field unrestricted fs ≡ false
each_restricted [] h = refl
each_restricted (f ∷ fs) h = or_false _ _ (ap not (and_left _ _ h)) (each_restricted fs (and_right _ _ h))

all_restricted : (fs : Fields) → some_field unrestricted fs ≡ false → are_restricted (values_of fs) ≡ true
all_restricted [] h = refl
all_restricted (f ∷ fs) h = and_both _ _ (not_false _ (or_left _ _ h)) (all_restricted fs (or_right _ _ h))

pub each_uncalled : (fs : Fields) → hold_call (values_of fs) ≡ false → some_field holds_call fs ≡ false
each_uncalled [] h = refl
each_uncalled (f ∷ fs) h = or_false _ _ (or_left _ _ h) (each_uncalled fs (or_right _ _ h))

none_higher : (depth : ℕ) (fs : Fields) → heights (values_of fs) ≤ depth → some_field (deeper depth) fs ≡ false
none_higher depth [] h = refl
none_higher depth (f ∷ fs) h = or_false _ _ (le-ltb depth (height f.1) (omega arith)) (none_higher depth fs (omega arith))

pub record_higher : (depth : ℕ) (fs : Fields) → some_field (deeper depth) fs ≡ true → depth < height (record_tree fs)
record_higher depth fs h = (Decides-ltb depth (height (record_tree fs))).0 (by_test (deeper depth (record_tree fs)) refl)
  where
    by_test : (b : Bool) → deeper depth (record_tree fs) ≡ b → deeper depth (record_tree fs) ≡ true
    by_test true is = is
    by_test false is =
        let below : suc (heights (values_of fs)) ≤ depth = ltb-false depth (suc (heights (values_of fs))) is in
        let none : some_field (deeper depth) fs ≡ false = none_higher depth fs (omega arith) in
        absurd (true≢false (sym h ∙ none))

pub fields_named : (fs : Fields) → zipped (keys fs) (all_named (values_of fs)) ≡ named_all fs
fields_named [] = refl
fields_named (f ∷ fs) = ap (λ (gs : Fields). (f.0, named f.1) ∷ gs) (fields_named fs)

pub same_keys : (test : Text → Bool) (fs : Fields) → some_key test (named_all fs) ≡ some_key test fs
same_keys test [] = refl
same_keys test (f ∷ fs) = ap (λ b. test f.0 || b) (same_keys test fs)

-- ---- the context of a question

picked : (b : Bool) (t c : Tree) (rest : Option Tree) → is_restricted t ≡ true → (rest ≡ Some c → is_restricted c ≡ true) → cond b (Some t) rest ≡ Some c → is_restricted c ≡ true
picked true t c rest here later h = let same : t ≡ c = cc in sym (ap is_restricted same) ∙ here
picked false t c rest here later h = later h

found_restricted : (key : Text) (ks : List Text) (ts : Trees) → are_restricted ts ≡ true → (c : Tree) → found key (zipped ks ts) ≡ Some c → is_restricted c ≡ true
found_restricted key [] ts r c h = cc
found_restricted key (k ∷ ks) no_trees r c h = cc
found_restricted key (k ∷ ks) (a_tree t ts) r c h = picked (text_eq key k) t c (found key (zipped ks ts)) (and_left _ _ r) (found_restricted key ks ts (and_right _ _ r) c) h

same_fields : (ks : List Text) (ts : Trees) (fs : Fields) → Some (zipped ks ts) ≡ Some fs → zipped ks ts ≡ fs
same_fields ks ts fs e = cc

field_restricted : (t : Tree) (fs : Fields) → fields_of t ≡ Some fs → is_restricted t ≡ true → (key : Text) (c : Tree) → found key fs ≡ Some c → is_restricted c ≡ true
field_restricted (Apply (MakeRecord ks) ts) fs e r key c h = found_restricted key ks ts r c (ap (found key) (same_fields ks ts fs e) ∙ h)
field_restricted t fs e r key c h = cc

pub given_restricted : (t : Tree) → is_restricted t ≡ true → (lent : Option (Bor (Expr (Unit {0})))) → LendsContext t lent → IsGivenRestricted lent
given_restricted t r None lends = tt
given_restricted t r (Some e) lends =
    let place : StandsAt lends.entries (bare e.now) = lends.from in
    field_restricted t lends.entries lends.are r (codes "context") (bare e.now) place.stands

pub record_restricted : (t : Tree) (fs : Fields) → t ≡ record_tree fs → is_restricted t ≡ true → some_field unrestricted fs ≡ false
record_restricted t fs is r = each_restricted fs (sym (ap is_restricted is) ∙ r)

pub entries_restricted : (t : Tree) → is_restricted t ≡ true → (o : Option (Bor (BTreeMap (RcStr Global) (Expr (Unit {0}))))) → IfSome o (λ entries. t ≡ record_tree (fields_in entries.now)) → IfSome o (λ entries. some_field unrestricted (fields_in entries.now) ≡ false)
entries_restricted t r None is = tt
entries_restricted t r (Some entries) is = record_restricted t (fields_in entries.now) is r

pub stands_in_context : (test : Text → Bool) (fs : Fields) → some_field unrestricted fs ≡ false → stands_in_some test (values_of fs) ≡ some_name_of test (all_named (values_of fs))
stands_in_context test fs r = all_stand_named test (values_of fs) (all_restricted fs r)

-- ---- what is told at a name

abbrev Values : Type 0
Values = List (RcStr Global × Value)

abbrev pub value_at : Text → Values → Option Value
value_at n es = lookup (λ k. bytes_eq n (rc_str_bytes k)) es

find_at : (n : Text) (es : Values) → finite.find text_cmp n (map (λ (e : RcStr Global × Value). (rc_str_bytes e.0, e.1)) es) ≡ value_at n es
find_at n [] = refl
find_at n (e ∷ es) = λ i. cond (is_eq-slice_cmp n (rc_str_bytes e.0) i) (Some e.1) (find_at n es i)

pub told_at : (n : Text) (es : Values) → finite.get (told_in es) n ≡ value_at n es
told_at n es = finite.get-from_entries text_cmp_total (map (λ (e : RcStr Global × Value). (rc_str_bytes e.0, e.1)) es) n ∙ find_at n es

texts_differ : (k n l : Text) → bytes_eq k n ≡ false → bytes_eq k l ≡ true → bytes_eq n l ≡ false
texts_differ k n l differs same = ap (bytes_eq n) (sym ((bytes_decides k l).0 same)) ∙ nat_list_eq_equiv.symm n k ∙ differs

value_after : (b : Bool) (k : RcStr Global) (w : Option Value) (old new : Values) (n : Text) → bytes_eq (rc_str_bytes k) n ≡ b → lookup (same_key k) new ≡ w → KeepsOthers same_key (same_key k) old new → value_at n new ≡ cond b w (value_at n old)
unfolding KeepsOthers
value_after true k w old new n is here keeps = ap (λ m. value_at m new) (sym ((bytes_decides (rc_str_bytes k) n).0 is)) ∙ here
value_after false k w old new n is here keeps =
    keeps (λ l. bytes_eq n (rc_str_bytes l)) (λ x y. nat_list_eq_equiv.congr n (rc_str_bytes x) (rc_str_bytes y)) (λ l same. texts_differ (rc_str_bytes k) n (rc_str_bytes l) is same)

pub told_more : (k : RcStr Global) (v : Value) (old new : Values) → lookup (is_at (key_cmp k)) new ≡ Some v → KeepsOthers (eq_by_cmp key_cmp) (is_at (key_cmp k)) old new → told_in new ≡ finite.insert (told_in old) (rc_str_bytes k) v
told_more k v old new here keeps = finite.same_map text_cmp_total text_cmp_same _ _ (λ n.
    let turned : bytes_eq (rc_str_bytes k) n ≡ eq_by_cmp text_cmp n (rc_str_bytes k) = nat_list_eq_equiv.symm (rc_str_bytes k) n ∙ sym (is_eq-slice_cmp n (rc_str_bytes k)) in
    let before = sym (told_at n old) in
    told_at n new
    ∙ value_after (bytes_eq (rc_str_bytes k) n) k (Some v) old new n refl (sym (looked_up (rc_str_bytes k) new) ∙ here) (keeps_texts k old new keeps)
    ∙ (λ i. cond (turned i) (Some v) (before i))
    ∙ sym (finite.get-insert text_cmp_total (told_in old) (rc_str_bytes k) v n))

pub part_put : (told all : Told) (n : Text) (part : PartialValue) (a : Attribute) → partial_of part ≡ a → all ≡ with_attribute told n a → all ≡ with_attribute told n (partial_of part)
part_put told all n part a is h = h ∙ ap (with_attribute told n) (sym is)

abbrev IsCopied : RcStr Global × Value → RcStr Global × Value → Type 0
IsCopied e f = (rc_str_bytes f.0 ≡ rc_str_bytes e.0) × (f.1 ≡ e.1)

abbrev told_entry : RcStr Global × Value → Text × Value
told_entry e = (rc_str_bytes e.0, e.1)

same_entries : (es fs : Values) → AllZip IsCopied es fs → map told_entry fs ≡ map told_entry es
same_entries [] [] h = refl
same_entries [] (f ∷ fs) h = absurd h
same_entries (e ∷ es) [] h = absurd h
same_entries (e ∷ es) (f ∷ fs) h = let rest = same_entries es fs h.1 in λ i. (h.0.0 i, h.0.1 i) ∷ rest i

pub copied_told : (es fs : Values) → AllZip IsCopied es fs → told_in fs ≡ told_in es
copied_told es fs h = ap (λ (l : List (Text × Value)). finite.from_entries {R = text_cmp} l) (same_entries es fs h)

-- ---- values that are put in from the last one on

last_first : (told : Told) (es : List (Text × Attribute)) (e : Text × Attribute) → with_attributes told (es ++ e ∷ []) ≡ with_attributes (with_attribute told e.0 e.1) es
last_first told [] e = refl
last_first told (x ∷ es) e = ap (λ m. with_attribute m x.0 x.1) (last_first told es e)

pub one_put : (whole told more : Told) (before after : Entries) (k : RcStr Global) (part : PartialValue) → whole ≡ with_attributes told (seen_entries before) → before ≡ after ++ (k, part) ∷ [] → more ≡ with_attribute told (rc_str_bytes k) (partial_of part)
    → whole ≡ with_attributes more (seen_entries after)
one_put whole told more before after k part so_far last is =
    so_far
    ∙ ap (λ es. with_attributes told (seen_entries es)) last
    ∙ ap (with_attributes told) (map-append (λ (x : RcStr Global × PartialValue). (rc_str_bytes x.0, partial_of x.1)) after ((k, part) ∷ []))
    ∙ last_first told (seen_entries after) (rc_str_bytes k, partial_of part)
    ∙ ap (λ m. with_attributes m (seen_entries after)) (sym is)

pub all_put : (told : Told) (given : Portion) → with_attributes told (as_entries given) ≡ told_with told given
all_put told [] = refl
all_put told (e ∷ es) = ap (λ m. finite.insert m e.0 e.1) (all_put told es)

pub misfits_are : (q : Question) (given : Portion) → some_misfit q (as_entries given) ≡ some_pair (λ n v. not (fits q n v)) given
misfits_are q [] = refl
misfits_are q (e ∷ es) = ap (λ b. not (fits q e.0 e.1) || b) (misfits_are q es)

-- ---- values, as they are found

same_left : (v w : Value) → ◌≡◌ {A = Attribute} (Left v) (Left w) → v ≡ w
same_left v w e = cc

same_head : (x y : Text × Attribute) (xs ys : List (Text × Attribute)) → x ∷ xs ≡ y ∷ ys → x ≡ y
same_head x y xs ys e = cc

same_tail : (x y : Text × Attribute) (xs ys : List (Text × Attribute)) → x ∷ xs ≡ y ∷ ys → xs ≡ ys
same_tail x y xs ys e = cc

-- what is found is the attributes of one portion alone
pub one_portion : (given held : Portion) → as_entries given ≡ as_entries held → given ≡ held
one_portion [] [] e = refl
one_portion [] (h ∷ held) e = cc
one_portion (g ∷ given) [] e = cc
one_portion (g ∷ given) (h ∷ held) e =
    let head = same_head (g.0, Left g.1) (h.0, Left h.1) (as_entries given) (as_entries held) e in
    let name : g.0 ≡ h.0 = ap (λ (x : Text × Attribute). x.0) head in
    let value : g.1 ≡ h.1 = same_left g.1 h.1 (ap (λ (x : Text × Attribute). x.1) head) in
    let rest = one_portion given held (same_tail (g.0, Left g.1) (h.0, Left h.1) (as_entries given) (as_entries held) e) in
    λ i. (name i, value i) ∷ rest i

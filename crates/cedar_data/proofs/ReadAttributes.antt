-- Attributes that are read one after another, each of a key of its own, and the record that they are.
use Rattle.std.proofs.Common.{◌≡◌, ◌∙◌, ℕ, suc, Bool, true, false, List, [], ◌∷◌, ◌++◌, map, Ok, Err, Result, refl, sym, ap, subst, arith, Global}
use Rattle.std.specs.Prelude.{cond, ◌&&◌, ◌||◌, Option, Some, is_some}
use Rattle.std.specs.declared.cmp.Ordering.{Ordering}
use Rattle.std.specs.declared.cmp.Ordering.TheVariants.{Less, Equal, Greater}
use Rattle.std.specs.List.{AllByRecursion}
use Rattle.std.specs.Ordering.{nat_cmp, is_lt, is_eq, match_ordering}
use Rattle.std.specs.Cmp.Lexicographic.{slice_cmp, texts_ties}
use Rattle.std.specs.BTreeMap.{insert_entry, is_at}
use Rattle.std.specs.Map.{lookup}
use Rattle.std.specs.Rc.{rc_str_bytes}
use Rattle.std.specs.declared.rc.RcStr.{RcStr}
use Rattle.cedar_language.specs.Uid.{Text}
use Rattle.cedar_language.specs.Tree.{Tree, Lit, Literal, Apply, MakeRecord, a_tree}
use Rattle.cedar_language.specs.Value.{Value, Plain}
use Rattle.cedar_grammar.specs.Names.{Names, is_text, is_among}
use Rattle.cedar_grammar.specs.Build.{Keyed, keys, put, trees}
use Rattle.cedar_grammar.specs.Grammar.{Entry, Within, Unary, inner, record_is}
use Rattle.cedar_grammar.specs.Token as token
use Rattle.cedar_grammar.specs.Token.{mark}
use Rattle.cedar_trees.specs.Bare.{record_tree}
use Rattle.cedar_trees.proofs.Records.{all_put, entries_put, record_from}
use Rattle.cedar_values.specs.Kinds.{keys_of, values_of}
use Rattle.cedar_lemmas.proofs.Booleans.{or_first, or_second}
use Rattle.cedar_data.specs.Takes.{Takes, Reads}
use Rattle.cedar_data.specs.Data.{IsData, ReadsLeaf, ReadsKey}
use Rattle.cedar_data.specs.Simple.{Attributes, tree_of, trees_of, is_simple, are_simple, record_value, written_entries}
use Rattle.cedar_data.specs.Questions.{IsEntry, PutsNew, AddsEntry, AddsAttribute, ReadsByKey, ReadsAttributes, ReadsSimple, ReadsRecord, ReadsValue}
use Rattle.cedar_data.proofs.Rules.{of_primary, within, leaf}
use Rattle.cedar_data.proofs.Lists.{SoFar, none_so_far, closed, last_closed, one_more, put_all, trees_data, values_data, record_is_made, entry_read}

-- ---- a map's own insertion and look-up

abbrev order : Text → Text → Ordering
order = slice_cmp nat_cmp

cond_swap : {A B : Type 0} (f : A → B) (b : Bool) (x y : A) → f (cond b x y) ≡ cond b (f x) (f y)
cond_swap f true x y = refl
cond_swap f false x y = refl

put_at : {A : Type 0} (o : Ordering) (x y z : A) → is_eq o ≡ false → match_ordering o x y z ≡ cond (is_lt o) x z
put_at Less x y z h = refl
put_at Equal x y z h = cc
put_at Greater x y z h = refl

pub insert_is_put : (k : RcStr Global) (v : Value) (es : Attributes) → is_among (rc_str_bytes k) (keys (written_entries es)) ≡ false
    → written_entries (insert_entry (λ a b. order (rc_str_bytes a) (rc_str_bytes b)) es k v) ≡ put (rc_str_bytes k, tree_of v) (written_entries es)
insert_is_put k v [] h = refl
insert_is_put k v (e ∷ es) h =
    let other : is_eq (order (rc_str_bytes k) (rc_str_bytes e.0)) ≡ false = sym (texts_ties (rc_str_bytes k) (rc_str_bytes e.0)) ∙ or_first _ _ h in
    ap written_entries (put_at (order (rc_str_bytes k) (rc_str_bytes e.0)) ((k, v) ∷ e ∷ es) ((e.0, v) ∷ es) (e ∷ insert_entry (λ a b. order (rc_str_bytes a) (rc_str_bytes b)) es k v) other)
    ∙ cond_swap written_entries (is_lt (order (rc_str_bytes k) (rc_str_bytes e.0))) ((k, v) ∷ e ∷ es) (e ∷ insert_entry (λ a b. order (rc_str_bytes a) (rc_str_bytes b)) es k v)
    ∙ ap (λ rest. cond (is_lt (order (rc_str_bytes k) (rc_str_bytes e.0))) ((rc_str_bytes k, tree_of v) ∷ (rc_str_bytes e.0, tree_of e.1) ∷ written_entries es) ((rc_str_bytes e.0, tree_of e.1) ∷ rest)) (insert_is_put k v es (or_second _ _ h))

found_at : (b : Bool) (x : Value) (o : Option Value) → is_some (cond b (Some x) o) ≡ (b || is_some o)
found_at true x o = refl
found_at false x o = refl

pub found_is_among : (k : Text) (es : Attributes) → is_some (lookup (is_at (λ q. order k (rc_str_bytes q))) es) ≡ is_among k (keys (written_entries es))
found_is_among k [] = refl
found_is_among k (e ∷ es) =
    found_at (is_eq (order k (rc_str_bytes e.0))) e.1 (lookup (is_at (λ q. order k (rc_str_bytes q))) es)
    ∙ ap (λ b. b || is_some (lookup (is_at (λ q. order k (rc_str_bytes q))) es)) (sym (texts_ties k (rc_str_bytes e.0)))
    ∙ ap (λ b. is_text k (rc_str_bytes e.0) || b) (found_is_among k es)

-- ---- entries, put in one after another

put_unless : (b : Bool) (k : Text) (x y : Result (List (Keyed Tree)) Text) (ys zs : List (Keyed Tree)) → cond b (Err k) x ≡ Ok ys → (x ≡ Ok ys → y ≡ Ok zs) → cond b (Err k) y ≡ Ok zs
put_unless true k x y ys zs is f = cc
put_unless false k x y ys zs is f = f is

pub put_last : (es done ys : List (Keyed Tree)) (e : Keyed Tree) → all_put done es ≡ Ok ys → is_among e.0 (keys ys) ≡ false → all_put done (es ++ e ∷ []) ≡ Ok (put e ys)
put_last [] done ys e is new =
    let same : done ≡ ys = cc in
    ap (λ zs. cond (is_among e.0 (keys zs)) (Err e.0) (Ok (put e zs))) same ∙ ap (λ b. cond b (Err e.0) (Ok (put e ys))) new
put_last (d ∷ es) done ys e is new = put_unless (is_among d.0 (keys done)) d.0 _ _ ys (put e ys) is (λ h. put_last es (put d done) ys e h new)

-- ---- entries so far

pub record ReadSoFar (n : ℕ) (bs : Text) (es : List (Keyed Tree)) (rest : Text) : Type 0 where
  pub listed : List (Keyed Tree)
  pub so_far : (names : Names) → SoFar token.RightBrace (Entry (Within names n)) bs listed rest
  pub made : all_put [] listed ≡ Ok es
  pub are_entries : AllByRecursion (IsEntry n) es

module _ (n : ℕ) (bs : Text) where
  pub nothing_read : (es : List (Keyed Tree)) → es ≡ [] → ReadSoFar n bs es bs
  nothing_read es empty = record {
    listed = [];
    so_far = λ names. none_so_far token.RightBrace (Entry (Within names n)) bs;
    made = ap Ok (sym empty);
    are_entries = subst (AllByRecursion (IsEntry n)) (sym empty) tt;
  }

  module _ (es : List (Keyed Tree)) (now rest : Text) (before : ReadSoFar n bs es now) where
    pub entries_closed : Takes (mark token.RightBrace) now rest → ReadsByKey n bs es rest
    entries_closed takes = record {
      listed = before.listed;
      reads = λ names. closed token.RightBrace (Entry (Within names n)) bs before.listed now rest (before.so_far names) takes;
      made = entries_put before.listed ∙ before.made;
      are_entries = before.are_entries;
    }

    module _ (new : List (Keyed Tree)) (mid : Text) (adds : AddsEntry n now es new mid) where
      made_more : all_put [] (before.listed ++ adds.added ∷ []) ≡ Ok new
      made_more = put_last before.listed [] es adds.added before.made adds.puts.unused ∙ ap Ok (sym adds.puts.is)

      are_more : AllByRecursion (IsEntry n) new
      are_more = subst (AllByRecursion (IsEntry n)) (sym adds.puts.is) (put_all (IsEntry n) adds.added es adds.is_entry before.are_entries)

      pub entry_more : Takes (mark token.Comma) mid rest → ReadSoFar n bs new rest
      entry_more takes = record {
        listed = before.listed ++ adds.added ∷ [];
        so_far = λ names. one_more token.RightBrace (Entry (Within names n)) bs before.listed now rest (before.so_far names) adds.added mid (adds.reads names) takes;
        made = made_more;
        are_entries = are_more;
      }

      pub entry_last : Takes (mark token.RightBrace) mid rest → ReadsByKey n bs new rest
      entry_last takes = record {
        listed = before.listed ++ adds.added ∷ [];
        reads = λ names. last_closed token.RightBrace (Entry (Within names n)) bs before.listed now rest (before.so_far names) adds.added mid (adds.reads names) takes;
        made = entries_put (before.listed ++ adds.added ∷ []) ∙ made_more;
        are_entries = are_more;
      }

-- ---- the record of attributes

keys_are : (es : Attributes) → keys (written_entries es) ≡ keys_of es
keys_are [] = refl
keys_are (e ∷ es) = ap (λ ks. rc_str_bytes e.0 ∷ ks) (keys_are es)

trees_are : (es : Attributes) → trees (map (λ e. e.1) (written_entries es)) ≡ trees_of (values_of es)
trees_are [] = refl
trees_are (e ∷ es) = ap (a_tree (tree_of e.1)) (trees_are es)

written_record : (es : Attributes) → record_tree (written_entries es) ≡ tree_of (record_value es)
written_record es = ap (λ ks. Apply (MakeRecord ks) (trees (map (λ e. e.1) (written_entries es)))) (keys_are es) ∙ ap (Apply (MakeRecord (keys_of es))) (trees_are es)

all_data : (n : ℕ) (es : List (Keyed Tree)) → AllByRecursion (IsEntry n) es → AllByRecursion (λ (e : Keyed Tree). IsData n e.1) es
all_data n [] all = tt
all_data n (e ∷ es) all = (all.0.is_data, all_data n es all.1)

all_simple : (n : ℕ) (es : List (Keyed Tree)) → AllByRecursion (IsEntry n) es → are_simple (trees (map (λ e. e.1) es)) ≡ true
all_simple n [] all = refl
all_simple n (e ∷ es) all = ap (λ b. b && are_simple (trees (map (λ e. e.1) es))) all.0.simple ∙ all_simple n es all.1

record_data : (n : ℕ) (es : List (Keyed Tree)) → AllByRecursion (IsEntry n) es → IsData (suc n) (record_tree es)
record_data n es all =
    let are = trees_data n (map (λ e. e.1) es) (values_data n es (all_data n es all)) in
    let low = are.low in
    record { low = omega arith; restricted = are.restricted }

-- entries, each of a key of its own, between braces
pub record_of_entries : (n : ℕ) (bs mid rest : Text) (es : List (Keyed Tree)) (t : Tree) → record_tree es ≡ t → Takes (mark token.LeftBrace) bs mid
    → ReadsByKey n mid es rest → ReadsSimple n bs t rest
record_of_entries n bs mid rest es t written takes all =
    let is = record_is_made all.listed (record_tree es) (record_from all.listed es all.made) in
    record {
      reads = λ names. subst (λ x. Reads (Unary (inner names n)) bs x rest) (is.same ∙ written) (record {
        tokens = λ us are. let x = (all.reads names).tokens us are in (mark token.LeftBrace ∷ x.0, takes.tokens x.0 x.1, of_primary (record_is x.2 is.differ));
        shorter = let one = takes.shorter in let two = (all.reads names).shorter in omega arith;
      });
      is_data = subst (IsData (suc n)) written (record_data n es all.are_entries);
      simple = ap is_simple (sym written) ∙ all_simple n es all.are_entries;
    }

pub record_of_attributes : (n : ℕ) (bs mid rest : Text) (es : Attributes) → Takes (mark token.LeftBrace) bs mid → ReadsAttributes n mid es rest
    → ReadsRecord n bs es rest
record_of_attributes n bs mid rest es = record_of_entries n bs mid rest (written_entries es) (tree_of (record_value es)) (written_record es)

-- ---- values

module _ (levels m : ℕ) (bs rest : Text) (v : Value) (is : levels ≡ suc m) where
  pub attributes_read : (es : Attributes) → v ≡ record_value es → ReadsRecord m bs es rest → ReadsValue levels bs v rest
  attributes_read es same read = record {
    reads = λ names. subst (λ w. Reads (Within names levels) bs (tree_of w) rest) (sym same)
        (within names levels m bs rest (tree_of (record_value es)) is (record { reads = read.reads names; is_data = read.is_data })).reads;
    is_data = subst (λ w. IsData levels (tree_of w)) (sym same) (subst (λ k. IsData k (tree_of (record_value es))) (sym is) read.is_data);
    simple = ap (λ w. is_simple (tree_of w)) same ∙ read.simple;
  }

  pub scalar_read : (l : Literal) → v ≡ Plain l → ReadsLeaf bs (Lit l) rest → ReadsValue levels bs v rest
  scalar_read l same read = record {
    reads = λ names. subst (λ w. Reads (Within names levels) bs (tree_of w) rest) (sym same) (within names levels m bs rest (Lit l) is (read m names)).reads;
    is_data = subst (λ w. IsData levels (tree_of w)) (sym same) (subst (λ k. IsData k (Lit l)) (sym is) (leaf m l));
    simple = ap (λ w. is_simple (tree_of w)) same;
  }

-- an entry of a new key
pub attribute_read : (n : ℕ) (bs mid next rest k : Text) (v : Value) (old new : Attributes) → ReadsKey bs k mid → Takes (mark token.Colon) mid next → ReadsValue n next v rest
    → PutsNew (k, tree_of v) (written_entries old) (written_entries new) → AddsAttribute n bs old new rest
attribute_read n bs mid next rest k v old new key colon value puts = record {
  added = (k, tree_of v);
  reads = λ names. entry_read (Within names n) bs mid next rest k (tree_of v) key colon (value.reads names);
  is_entry = record { is_data = value.is_data; simple = value.simple };
  puts = puts;
}

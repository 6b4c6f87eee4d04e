-- Items and entries up to the mark that closes them.
use Rattle.std.proofs.Common.{◌≡◌, ℕ, suc, ◌≤◌, Bool, true, false, List, [], ◌∷◌, ◌++◌, length, map, append_assoc, append-nil, Option, Some, None, Ok, refl, sym, ap, ◌∙◌, subst, arith}
use Rattle.std.specs.Prelude.{cond, not, ◌&&◌, ◌||◌}
use Rattle.std.specs.List.{AllByRecursion}
use Rattle.std.specs.Ordering.{nat_cmp, is_lt}
use Rattle.std.specs.Cmp.Lexicographic.{slice_cmp, nat_list_eq_equiv}
use Rattle.cedar_language.specs.Uid.{Text, Name}
use Rattle.cedar_language.specs.Height.{heights}
use Rattle.cedar_language.specs.Restricted.{are_restricted}
use Rattle.cedar_language.specs.Tree.{Tree, Apply, MakeSet, Call}
use Rattle.cedar_grammar.specs.Build.{trees, Keyed, keys, put, by_key, record_of}
use Rattle.cedar_grammar.specs.Grammar.{Rule, inner, Items, no_items, last_item, an_item, Entry, id_entry, text_entry, Unary, call_is, list_is, record_is}
use Rattle.cedar_grammar.specs.Names.{Names, is_text, is_among, is_function, are_distinct}
use Rattle.cedar_grammar.specs.Token as token
use Rattle.cedar_grammar.specs.Token.{Mark, Token, word, mark, word_of}
use Rattle.cedar_grammar.specs.Tokens.{IsTokens}
use Rattle.cedar_trees.specs.Bare.{bare, bare_entries}
use Rattle.cedar_trees.specs.Records.{repeated_after, repeated, unless_repeated, record_made}
use Rattle.cedar_trees.specs.declared.expr.Expr as code
use Rattle.cedar_data.specs.Takes.{Takes, Reads}
use Rattle.cedar_data.specs.Data.{Entries, IsData, ReadsData, ReadsBehind, Behind, ReadsPath, IsKey, id_key, text_key, ReadsKey, ReadsItems, ReadsEntries}
use Rattle.cedar_data.proofs.Rules.{of_primary}

abbrev Made : Type 0
Made = code.Expr (Unit {0})

-- ---- items so far

-- whatever items the rest is, the text is these before them
pub record SoFar {A : Type 0} (close : Mark) (item : Rule A) (bs : Text) (xs : List A) (rest : Text) : Type 0 where
  pub tokens : (ys : List A) (us ts : List Token) → IsTokens rest ts → Items close item ts ys us → (ss : List Token) × IsTokens bs ss × Items close item ss (xs ++ ys) us
  pub short : length rest ≤ length bs

module _ {A : Type 0} (close : Mark) (item : Rule A) (bs : Text) where
  pub none_so_far : SoFar close item bs [] bs
  none_so_far = record { tokens = λ ys us ts are items. (ts, are, items); short = omega arith }

  module _ (xs : List A) (now rest : Text) (so_far : SoFar close item bs xs now) where
    pub closed : Takes (mark close) now rest → Reads (Items close item) bs xs rest
    closed takes =
        record {
          tokens = λ us are.
              let x = so_far.tokens [] us (mark close ∷ us) (takes.tokens us are) no_items in
              (x.0, x.1, subst (λ zs. Items close item x.0 zs us) (append-nil xs) x.2);
          shorter = let one = so_far.short in let two = takes.shorter in omega arith;
        }

    module _ (a : A) (mid : Text) (reads : Reads item now a mid) where
      pub last_closed : Takes (mark close) mid rest → Reads (Items close item) bs (xs ++ a ∷ []) rest
      last_closed takes =
          record {
            tokens = λ us are. let x = reads.tokens (mark close ∷ us) (takes.tokens us are) in so_far.tokens (a ∷ []) us x.0 x.1 (last_item x.2);
            shorter = let one = so_far.short in let two = takes.shorter in let three = reads.shorter in omega arith;
          }

      pub one_more : Takes (mark token.Comma) mid rest → SoFar close item bs (xs ++ a ∷ []) rest
      one_more takes =
          record {
            tokens = λ ys us ts are items.
                let x = reads.tokens (mark token.Comma ∷ ts) (takes.tokens ts are) in
                let y = so_far.tokens (a ∷ ys) us x.0 x.1 (an_item ts x.2 items) in
                (y.0, y.1, subst (λ zs. Items close item y.0 zs us) (sym (append_assoc xs (a ∷ []) ys)) y.2);
            short = let one = so_far.short in let two = takes.shorter in let three = reads.shorter in omega arith;
          }

pub all_and : {A : Type 0} (P : A → Type 0) (xs : List A) (x : A) → AllByRecursion P xs → P x → AllByRecursion P (xs ++ x ∷ [])
all_and P [] x all h = (h, tt)
all_and P (y ∷ ys) x all h = (all.0, all_and P ys x all.1 h)

-- ---- trees of data

pub record AreData (n : ℕ) (xs : List Tree) : Type 0 where
  pub low : heights (trees xs) ≤ n
  pub restricted : are_restricted (trees xs) ≡ true

pub trees_data : (n : ℕ) (xs : List Tree) → AllByRecursion (IsData n) xs → AreData n xs
trees_data n [] all = record { low = omega arith; restricted = refl }
trees_data n (x ∷ xs) all =
    let more = trees_data n xs all.1 in
    let one = all.0.low in
    let two = more.low in
    record { low = omega arith; restricted = ap (λ b. b && are_restricted (trees xs)) all.0.restricted ∙ more.restricted }

pub put_all : (P : Keyed Tree → Type 0) (e : Keyed Tree) (es : List (Keyed Tree)) → P e → AllByRecursion P es → AllByRecursion P (put e es)
put_all P e [] h all = (h, tt)
put_all P e (f ∷ es) h all = by (put_all P e es h all.1) (is_lt (slice_cmp nat_cmp e.0 f.0))
  where
    by : AllByRecursion P (put e es) → (b : Bool) → AllByRecursion P (cond b (e ∷ f ∷ es) (f ∷ put e es))
    by others true = (h, all)
    by others false = (all.0, others)

sorted_all : (P : Keyed Tree → Type 0) (es : List (Keyed Tree)) → AllByRecursion P es → AllByRecursion P (by_key es)
sorted_all P [] all = tt
sorted_all P (e ∷ es) all = put_all P e (by_key es) all.0 (sorted_all P es all.1)

pub values_data : (n : ℕ) (es : List (Keyed Tree)) → AllByRecursion (λ (e : Keyed Tree). IsData n e.1) es → AllByRecursion (IsData n) (map (λ e. e.1) es)
values_data n [] all = tt
values_data n (e ∷ es) all = (all.0, values_data n es all.1)

-- ---- keys that differ

-- one text stands where another equal one does
among_same : (k j : Text) (ss : List Text) → is_text k j ≡ true → is_among k ss ≡ is_among j ss
among_same k j [] same = refl
among_same k j (s ∷ ss) same = ap (λ b. b || is_among k ss) (nat_list_eq_equiv.congr k j s same) ∙ ap (λ b. is_text j s || b) (among_same k j ss same)

-- where texts don't repeat, the first isn't among those seen, and the others don't repeat
pub record First (j : Text) (seen js : List Text) : Type 0 where
  pub new : is_among j seen ≡ false
  pub others : repeated_after (j ∷ seen) js ≡ None

first_new : (j : Text) (seen js : List Text) (b : Bool) → is_among j seen ≡ b → repeated_after seen (j ∷ js) ≡ None → First j seen js
first_new j seen js true h none = let no : Some j ≡ None = sym (ap (λ b. cond b (Some j) (repeated_after (j ∷ seen) js)) h) ∙ none in absurd (cc no)
first_new j seen js false h none = record { new = h; others = sym (ap (λ b. cond b (Some j) (repeated_after (j ∷ seen) js)) h) ∙ none }

other_text : (k j : Text) (seen : List Text) (b : Bool) → is_text k j ≡ b → is_among k seen ≡ true → is_among j seen ≡ false → is_text k j ≡ false
other_text k j seen true same among new = let no : true ≡ false = sym among ∙ among_same k j seen same ∙ new in absurd (cc no)
other_text k j seen false same among new = same

-- what was seen stands nowhere behind
unseen : (k : Text) (ks seen : List Text) → is_among k seen ≡ true → repeated_after seen ks ≡ None → is_among k ks ≡ false
unseen k [] seen among none = refl
unseen k (j ∷ js) seen among none =
    let first = first_new j seen js (is_among j seen) refl none in
    let other = other_text k j seen (is_text k j) refl among first.new in
    ap (λ b. b || is_among k js) other ∙ unseen k js (j ∷ seen) (ap (λ b. b || is_among k seen) other ∙ among) first.others

distinct : (ks seen : List Text) → repeated_after seen ks ≡ None → are_distinct ks ≡ true
distinct [] seen none = refl
distinct (k ∷ ks) seen none =
    let first = first_new k seen ks (is_among k seen) refl none in
    let here = unseen k ks (k ∷ seen) (ap (λ b. b || is_among k seen) (nat_list_eq_equiv.refl k)) first.others in
    ap (λ b. not b && are_distinct ks) here ∙ distinct ks (k ∷ seen) first.others

-- a record that is made
pub record IsMade (es : List (Keyed Tree)) (t : Tree) : Type 0 where
  pub differ : are_distinct (keys es) ≡ true
  pub same : record_of es ≡ t

pub record_is_made : (es : List (Keyed Tree)) (t : Tree) → record_made es ≡ Ok t → IsMade es t
record_is_made es t made = by (repeated (keys es)) refl made
  where
    by : (r : Option Text) → repeated (keys es) ≡ r → unless_repeated r (record_of es) ≡ Ok t → IsMade es t
    by None e m = record { differ = distinct (keys es) [] e; same = cc m }
    by (Some k) e m = absurd (cc m)

-- ---- lists, records and calls

module _ (names : Names) (n : ℕ) where
  list_data : (xs : List Tree) → AllByRecursion (IsData n) xs → IsData (suc n) (Apply MakeSet (trees xs))
  list_data xs all = let are = trees_data n xs all in let low = are.low in record { low = omega arith; restricted = are.restricted }

  call_data : (p : Name) (xs : List Tree) → AllByRecursion (IsData n) xs → IsData (suc n) (Apply (Call p) (trees xs))
  call_data p xs all = let are = trees_data n xs all in let low = are.low in record { low = omega arith; restricted = are.restricted }

  record_data : (es : List (Keyed Tree)) → AllByRecursion (λ (e : Keyed Tree). IsData n e.1) es → IsData (suc n) (record_of es)
  record_data es all =
      let are = trees_data n (map (λ e. e.1) (by_key es)) (values_data n (by_key es) (sorted_all (λ e. IsData n e.1) es all)) in
      let low = are.low in
      record { low = omega arith; restricted = are.restricted }

  pub list_read : (bs mid rest : Text) (es : List Made) (e : Made) → Takes (mark token.LeftBracket) bs mid → ReadsItems names n token.RightBracket mid es rest → bare e ≡ Apply MakeSet (trees (map bare es)) → ReadsData (Unary (inner names n)) (suc n) bs e rest
  list_read bs mid rest es e takes items made =
      record {
        reads = subst (λ x. Reads (Unary (inner names n)) bs x rest) (sym made) (record {
          tokens = λ us are. let x = items.reads.tokens us are in (mark token.LeftBracket ∷ x.0, takes.tokens x.0 x.1, of_primary (list_is x.2));
          shorter = let one = takes.shorter in let two = items.reads.shorter in omega arith;
        });
        is_data = subst (IsData (suc n)) (sym made) (list_data (map bare es) items.are_data);
      }

  pub record_read : (bs mid rest : Text) (es : Entries) (e : Made) → Takes (mark token.LeftBrace) bs mid → ReadsEntries names n mid es rest → record_made (bare_entries es) ≡ Ok (bare e) → ReadsData (Unary (inner names n)) (suc n) bs e rest
  record_read bs mid rest es e takes entries made =
      let is = record_is_made (bare_entries es) (bare e) made in
      record {
        reads = subst (λ x. Reads (Unary (inner names n)) bs x rest) is.same (record {
          tokens = λ us are. let x = entries.reads.tokens us are in (mark token.LeftBrace ∷ x.0, takes.tokens x.0 x.1, of_primary (record_is x.2 is.differ));
          shorter = let one = takes.shorter in let two = entries.reads.shorter in omega arith;
        });
        is_data = subst (IsData (suc n)) is.same (record_data (bare_entries es) entries.are_data);
      }

  pub call_read : (first bs mid next rest : Text) (p : Name) (es : List Made) (e : Made) → ReadsPath first false bs p mid → is_function names p ≡ true → Takes (mark token.LeftParen) mid next → ReadsItems names n token.RightParen next es rest
      → bare e ≡ Apply (Call p) (trees (map bare es)) → ReadsBehind (inner names n) (suc n) first bs e rest
  call_read first bs mid next rest p es e path listed takes items made =
      record {
        reads = subst (λ x. Reads (Behind (inner names n) first) bs x rest) (sym made) (record {
          tokens = λ us are.
              let x = items.reads.tokens us are in
              let y = path.tokens (mark token.LeftParen ∷ x.0) (takes.tokens x.0 x.1) in
              (y.0, y.1, of_primary (call_is x.0 y.2 listed x.2));
          shorter = let one = path.short in let two = takes.shorter in let three = items.reads.shorter in omega arith;
        });
        is_data = subst (IsData (suc n)) (sym made) (call_data p (map bare es) items.are_data);
      }

-- ---- entries

key_entry : {expr : Rule Tree} {t : Token} {k : Text} {a : Tree} {ts us : List Token} → IsKey t k → expr ts a us → Entry expr (t ∷ mark token.Colon ∷ ts) (k, a) us
key_entry (id_key e) value = id_entry e value
key_entry (text_key e) value = text_entry e value

pub entry_read : (expr : Rule Tree) (bs mid next rest k : Text) (a : Tree) → ReadsKey bs k mid → Takes (mark token.Colon) mid next → Reads expr next a rest → Reads (Entry expr) bs (k, a) rest
entry_read expr bs mid next rest k a key colon value =
    record {
      tokens = λ us are.
          let x = value.tokens us are in
          (key.written ∷ mark token.Colon ∷ x.0, key.takes.tokens (mark token.Colon ∷ x.0) (colon.tokens x.0 x.1), key_entry key.is_key x.2);
      shorter = let one = key.takes.shorter in let two = colon.shorter in let three = value.shorter in omega arith;
    }

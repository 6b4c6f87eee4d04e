-- Keys that differ, by a test and by their places.
use Rattle.std.proofs.Common.{◌≡◌, ◌≢◌, ℕ, suc, ◌<◌, Bool, true, false, cond, ◌&&◌, ◌||◌, not, Option, Some, None, List, [], ◌∷◌, length, refl, sym, ap, ◌∙◌, subst, true≢false, arith}
use Rattle.std.specs.Prelude.{codes, option_map, All, slice_index_or}
use Rattle.std.specs.List.{list_any}
use Rattle.std.proofs.lemmas.Bool.{and_parts}
use Rattle.std.proofs.lemmas.List.Elements.{All-cons, All-nil}
use Rattle.std.proofs.lemmas.List.Kept.{AllPairs-cons}
use Rattle.std.proofs.lemmas.Slice.Eq.{bytes_eq-Decides}
use Rattle.json.specs.Json.{Json, null, boolean, number, string, array, object, Items, no_items, item, Members, no_members, member}
use Rattle.json.specs.Strict as strict
use Rattle.json.specs.Strict.{HasUniqueKeys, ItemsHaveUniqueKeys, MembersHaveUniqueKeys, AreDistinct}
use Rattle.cedar_language.specs.Uid.{Text, Name, Uid}
use Rattle.cedar_language.specs.Tree.{Tree, Lit, Entity}
use Rattle.cedar_grammar.specs.Build.{Keyed, keys, record_of}
use Rattle.cedar_grammar.specs.Names.{is_text, is_among, are_distinct}
use Rattle.cedar_world.specs.Bodies.{and_then, read_with}
use Rattle.cedar_json.specs.Values.{escapes, record_with, entry_with, datum, data_of, entries, uid_with, uid_in, name_in, arguments, call_with, call_in, items_in}

-- ---- from places to the test

no_key : (k : Text) (ks : List Text) → ((i : ℕ) (d : Text) → i < length ks → k ≢ slice_index_or ks i d) → is_among k ks ≡ false
no_key k [] apart = refl
no_key k (l ∷ ks) apart = by (no_key k ks (λ i d lt. apart (suc i) d (omega arith))) (is_text k l) refl
  where
    by : is_among k ks ≡ false → (b : Bool) → is_text k l ≡ b → (b || is_among k ks) ≡ false
    by others true e = absurd (apart 0 k (omega arith) ((bytes_eq-Decides k l).0 e))
    by others false e = others

pub distinct_keys : (ks : List Text) → AreDistinct ks → are_distinct ks ≡ true
distinct_keys [] apart = refl
distinct_keys (k ∷ ks) apart =
    let first = no_key k ks (λ i d lt. apart 0 (suc i) d (omega arith) (omega arith)) in
    ap (λ b. not b && are_distinct ks) first ∙ distinct_keys ks (λ i j d lt within. apart (suc i) (suc j) d (omega arith) (omega arith))

-- ---- and back

all_apart : (k : Text) (ks : List Text) → is_among k ks ≡ false → All (λ l. k ≢ l) ks
all_apart k [] h = All-nil (λ l. k ≢ l)
all_apart k (l ∷ ks) h = by (λ f. all_apart k ks f) (is_text k l) refl h
  where
    by : (is_among k ks ≡ false → All (λ m. k ≢ m) ks) → (b : Bool) → is_text k l ≡ b → (b || is_among k ks) ≡ false → All (λ m. k ≢ m) (l ∷ ks)
    by others true e h = absurd (true≢false h)
    by others false e h = All-cons (λ m. k ≢ m) l ks (λ same. true≢false (sym ((bytes_eq-Decides k l).1 same) ∙ e)) (others h)

pub not_true : (b : Bool) → not b ≡ true → b ≡ false
not_true true h = absurd (true≢false (sym h))
not_true false h = refl

pub keys_apart : (ks : List Text) → are_distinct ks ≡ true → AreDistinct ks
keys_apart [] h = λ i j d lt within. absurd (omega arith)
keys_apart (k ∷ ks) h =
    let both = and_parts (not (is_among k ks)) (are_distinct ks) h in
    AllPairs-cons (λ a b. a ≢ b) k ks (all_apart k ks (not_true (is_among k ks) both.0)) (keys_apart ks both.1)

-- the entries have the members' keys
keys_by : (k : Text) (ms : Members) (es : List (Keyed Tree)) (o : Option Tree) (os : Option (List (Keyed Tree)))
    → ((fs : List (Keyed Tree)) → os ≡ Some fs → keys fs ≡ strict.keys ms) → entry_with k o os ≡ Some es → keys es ≡ k ∷ strict.keys ms
keys_by k ms es (Some t) (Some fs) others e = let same : (k, t) ∷ fs ≡ es = cc e in ap keys (sym same) ∙ ap (λ x. k ∷ x) (others fs refl)
keys_by k ms es (Some t) None others e = absurd (cc e)
keys_by k ms es None os others e = absurd (cc e)

pub entry_keys : (ms : Members) (es : List (Keyed Tree)) → entries ms ≡ Some es → keys es ≡ strict.keys ms
entry_keys no_members es e = let same : [] ≡ es = cc e in ap keys (sym same)
entry_keys (member k j ms) es e = keys_by k ms es (datum j) (entries ms) (λ fs f. entry_keys ms fs f) e

-- ---- what says something has no key twice

record_distinct : (es : List (Keyed Tree)) (t : Tree) → record_with es ≡ Some t → are_distinct (keys es) ≡ true
record_distinct es t e = by (are_distinct (keys es)) (not (list_any (λ k. is_among k escapes) (keys es))) e
  where
    by : (a b : Bool) → cond (a && b) (Some (record_of es)) None ≡ Some t → a ≡ true
    by true b e = refl
    by false b e = absurd (cc e)

entries_distinct : (ms : Members) (t : Tree) → and_then (entries ms) record_with ≡ Some t → AreDistinct (strict.keys ms)
entries_distinct ms t e = by (entries ms) refl e
  where
    by : (o : Option (List (Keyed Tree))) → entries ms ≡ o → and_then o record_with ≡ Some t → AreDistinct (strict.keys ms)
    by None f e = absurd (cc e)
    by (Some es) f e = subst AreDistinct (entry_keys ms es f) (keys_apart (keys es) (record_distinct es t e))

pub one_apart : (k : Text) → AreDistinct (k ∷ [])
one_apart k i j d lt within = absurd (omega arith)

-- two keys of which the first is one text and the second another
two_apart : (k l : Text) (b : Bool) → is_text k l ≡ b → b ≡ false → AreDistinct (k ∷ l ∷ [])
two_apart k l b e f =
    AllPairs-cons (λ x y. x ≢ y) k (l ∷ [])
    (All-cons (λ y. k ≢ y) l [] (λ same. true≢false (sym ((bytes_eq-Decides k l).1 same) ∙ e ∙ f)) (All-nil (λ y. k ≢ y))) (one_apart l)

same_text : (k t : Text) → is_text k t ≡ true → k ≡ t
same_text k t e = (bytes_eq-Decides k t).0 e

named_apart : (k l s t : Text) → is_text s t ≡ false → is_text k s ≡ true → is_text l t ≡ true → AreDistinct (k ∷ l ∷ [])
named_apart k l s t other e f =
    let differ : is_text k l ≡ false = ap (λ x. is_text x l) (same_text k s e) ∙ ap (λ x. is_text s x) (same_text l t f) ∙ other in
    two_apart k l (is_text k l) refl differ

uid_apart : (k s l t : Text) (u : Uid) (a b c d : Bool) → is_text k (codes "type") ≡ a → is_text l (codes "id") ≡ b → is_text k (codes "id") ≡ c
    → is_text l (codes "type") ≡ d
    → cond (a && b) (uid_with s t) (cond (c && d) (uid_with t s) None) ≡ Some u → AreDistinct (k ∷ l ∷ [])
uid_apart k s l t u true true c d e f g h is = named_apart k l (codes "type") (codes "id") refl e f
uid_apart k s l t u true false true true e f g h is = named_apart k l (codes "id") (codes "type") refl g h
uid_apart k s l t u true false true false e f g h is = absurd (cc is)
uid_apart k s l t u true false false d e f g h is = absurd (cc is)
uid_apart k s l t u false b true true e f g h is = named_apart k l (codes "id") (codes "type") refl g h
uid_apart k s l t u false b true false e f g h is = absurd (cc is)
uid_apart k s l t u false b false d e f g h is = absurd (cc is)

pub uid_unique : (j : Json) (u : Uid) → uid_in j ≡ Some u → HasUniqueKeys j
uid_unique (object (member k (string s) (member l (string t) no_members))) u e = (
  uid_apart k s l t u (is_text k (codes "type")) (is_text l (codes "id")) (is_text k (codes "id")) (is_text l (codes "type")) refl refl refl refl e,
  (tt, (tt, tt)),
)
uid_unique j u e = absurd (cc e)

pub option_is : {A B : Type 0} (f : A → B) (o : Option A) (b : B) → option_map f o ≡ Some b → (a : A) × (o ≡ Some a)
option_is f None b e = absurd (cc e)
option_is f (Some a) b e = (a, refl)

-- a call's arguments stand under `arg` or `args`
argument_key : (key : Text) (o : Option Tree) (os : Option (List Tree)) (ts : List Tree) → arguments key o os ≡ Some ts → is_text key (codes "fn") ≡ false
argument_key key o os ts e = by (is_text key (codes "arg")) (is_text key (codes "args")) refl refl e
  where
    by : (a b : Bool) → is_text key (codes "arg") ≡ a → is_text key (codes "args") ≡ b → cond a (option_map (λ t. t ∷ []) o) (cond b os None) ≡ Some ts
        → is_text key (codes "fn") ≡ false
    by true b f g e = ap (λ x. is_text x (codes "fn")) (same_text key (codes "arg") f)
    by false true f g e = ap (λ x. is_text x (codes "fn")) (same_text key (codes "args") g)
    by false false f g e = absurd (cc e)

call_parts : (p : Option Name) (os : Option (List Tree)) (t : Tree) → call_with p os ≡ Some t → (ts : List Tree) × (os ≡ Some ts)
call_parts (Some p) (Some ts) t e = (ts, refl)
call_parts (Some p) None t e = absurd (cc e)
call_parts None os t e = absurd (cc e)

function_apart : (k l : Text) (o : Option Tree) (os : Option (List Tree)) (ts : List Tree) → is_text k (codes "fn") ≡ true → arguments l o os ≡ Some ts
    → AreDistinct (k ∷ l ∷ [])
function_apart k l o os ts e f =
    let other = argument_key l o os ts f in
    let differ : is_text k l ≡ false = ap (λ x. is_text x l) (same_text k (codes "fn") e) ∙ apart_from (codes "fn") l other in
    two_apart k l (is_text k l) refl differ
  where
    apart_from : (a b : Text) → is_text b a ≡ false → is_text a b ≡ false
    apart_from a b h = by (is_text a b) refl
      where
        by : (c : Bool) → is_text a b ≡ c → c ≡ false
        by true g = absurd (true≢false (sym ((bytes_eq-Decides b a).1 (sym (same_text a b g))) ∙ h))
        by false g = refl

pub then_is : {A B : Type 0} (o : Option A) (f : A → Option B) (b : B) → and_then o f ≡ Some b → (a : A) × (o ≡ Some a)
then_is None f b e = absurd (cc e)
then_is (Some a) f b e = (a, refl)

read_is : (o : Option Tree) (os : Option (List Tree)) (ts : List Tree) → read_with o os ≡ Some ts
    → (t : Tree) × (o ≡ Some t) × (us : List Tree) × (os ≡ Some us)
read_is (Some t) (Some us) ts e = (t, refl, us, refl)
read_is (Some t) None ts e = absurd (cc e)
read_is None os ts e = absurd (cc e)

entry_is : (k : Text) (o : Option Tree) (os : Option (List (Keyed Tree))) (es : List (Keyed Tree)) → entry_with k o os ≡ Some es
    → (t : Tree) × (o ≡ Some t) × (fs : List (Keyed Tree)) × (os ≡ Some fs)
entry_is k (Some t) (Some fs) es e = (t, refl, fs, refl)
entry_is k (Some t) None es e = absurd (cc e)
entry_is k None os es e = absurd (cc e)

-- the one value of an object
single_unique : (k : Text) (j : Json) (t : Tree) (a b : Bool) → ((u : Uid) → uid_in j ≡ Some u → HasUniqueKeys j) → (call_in j ≡ Some t → HasUniqueKeys j)
    → (and_then (entry_with k (datum j) (Some [])) record_with ≡ Some t → HasUniqueKeys j)
    → cond a (option_map (λ u. Lit (Entity u)) (uid_in j)) (cond b (call_in j) (and_then (entry_with k (datum j) (Some [])) record_with)) ≡ Some t
    → HasUniqueKeys j
single_unique k j t true b f g h e = let x = option_is (λ u. Lit (Entity u)) (uid_in j) t e in f x.0 x.1
single_unique k j t false true f g h e = g e
single_unique k j t false false f g h e = h e

-- a string has no keys
named_unique : (j : Json) (p : Name) → name_in j ≡ Some p → HasUniqueKeys j
named_unique (string s) p e = tt
named_unique j p e = absurd (cc e)

call_named : (p : Option Name) (os : Option (List Tree)) (t : Tree) → call_with p os ≡ Some t → (q : Name) × (p ≡ Some q)
call_named (Some p) os t e = (p, refl)
call_named None os t e = absurd (cc e)

argument_unique : (key : Text) (j : Json) (ts : List Tree) → ((u : Tree) → datum j ≡ Some u → HasUniqueKeys j)
    → ((us : List Tree) → items_in j ≡ Some us → HasUniqueKeys j)
    → (a b : Bool) → cond a (option_map (λ t. t ∷ []) (datum j)) (cond b (items_in j) None) ≡ Some ts → HasUniqueKeys j
argument_unique key j ts f g true b e = let x = option_is (λ t. t ∷ []) (datum j) ts e in f x.0 x.1
argument_unique key j ts f g false true e = g ts e
argument_unique key j ts f g false false e = absurd (cc e)

flipped : (k l : Text) → AreDistinct (k ∷ l ∷ []) → AreDistinct (l ∷ k ∷ [])
flipped k l apart = AllPairs-cons (λ x y. x ≢ y) l (k ∷ [])
    (All-cons (λ y. l ≢ y) k [] (λ same. apart 0 1 k (omega arith) (omega arith) (sym same)) (All-nil (λ y. l ≢ y))) (one_apart k)

calls_apart : (k l : Text) (a b : Json) (t : Tree) (p q : Bool) → is_text k (codes "fn") ≡ p → is_text l (codes "fn") ≡ q
    → ((u : Tree) → datum a ≡ Some u → HasUniqueKeys a) → ((us : List Tree) → items_in a ≡ Some us → HasUniqueKeys a)
    → ((u : Tree) → datum b ≡ Some u → HasUniqueKeys b) → ((us : List Tree) → items_in b ≡ Some us → HasUniqueKeys b)
    → cond p (call_with (name_in a) (arguments l (datum b) (items_in b))) (cond q (call_with (name_in b) (arguments k (datum a) (items_in a))) None) ≡ Some t
    → HasUniqueKeys (object (member k a (member l b no_members)))
calls_apart k l a b t true q x y f g h i e =
    let ts = call_parts (name_in a) (arguments l (datum b) (items_in b)) t e in
    let n = call_named (name_in a) (arguments l (datum b) (items_in b)) t e in (
      function_apart k l (datum b) (items_in b) ts.0 x ts.1,
      (named_unique a n.0 n.1, (argument_unique l b ts.0 h i (is_text l (codes "arg")) (is_text l (codes "args")) ts.1, tt)),
    )
calls_apart k l a b t false true x y f g h i e =
    let ts = call_parts (name_in b) (arguments k (datum a) (items_in a)) t e in
    let n = call_named (name_in b) (arguments k (datum a) (items_in a)) t e in (
      flipped l k (function_apart l k (datum a) (items_in a) ts.0 y ts.1),
      (argument_unique k a ts.0 f g (is_text k (codes "arg")) (is_text k (codes "args")) ts.1, (named_unique b n.0 n.1, tt)),
    )
calls_apart k l a b t false false x y f g h i e = absurd (cc e)

mutual
  pub datum_unique : (j : Json) (t : Tree) → datum j ≡ Some t → HasUniqueKeys j
  datum_unique null t e = tt
  datum_unique (boolean b) t e = tt
  datum_unique (number s) t e = tt
  datum_unique (string s) t e = tt
  datum_unique (array js) t e = let x = option_is _ (data_of js) t e in data_unique js x.0 x.1
  datum_unique (object no_members) t e = ((λ i k d lt within. absurd (omega arith)), tt)
  datum_unique (object (member k j no_members)) t e = (
    one_apart k,
    (
      single_unique k j t (is_text k (codes "__entity")) (is_text k (codes "__extn")) (λ u f. uid_unique j u f) (λ f. call_unique j t f)
          (λ f. let x = then_is (entries (member k j no_members)) record_with t f in (entries_unique (member k j no_members) x.0 x.1).0) e,
      tt,
    ),
  )
  datum_unique (object (member k j (member l i ms))) t e =
      let x = then_is (entries (member k j (member l i ms))) record_with t e in
      (entries_distinct (member k j (member l i ms)) t e, entries_unique (member k j (member l i ms)) x.0 x.1)

  data_unique : (js : Items) (ts : List Tree) → data_of js ≡ Some ts → ItemsHaveUniqueKeys js
  data_unique no_items ts e = tt
  data_unique (item j js) ts e = let x = read_is (datum j) (data_of js) ts e in (datum_unique j x.0 x.1, data_unique js x.2 x.3)

  entries_unique : (ms : Members) (es : List (Keyed Tree)) → entries ms ≡ Some es → MembersHaveUniqueKeys ms
  entries_unique no_members es e = tt
  entries_unique (member k j ms) es e = let x = entry_is k (datum j) (entries ms) es e in (datum_unique j x.0 x.1, entries_unique ms x.2 x.3)

  call_unique : (j : Json) (t : Tree) → call_in j ≡ Some t → HasUniqueKeys j
  call_unique (object (member k a (member l b no_members))) t e =
      calls_apart k l a b t (is_text k (codes "fn")) (is_text l (codes "fn")) refl refl (λ u f. datum_unique a u f) (λ us f. items_unique a us f)
      (λ u f. datum_unique b u f) (λ us f. items_unique b us f) e
  call_unique j t e = absurd (cc e)

  items_unique : (j : Json) (ts : List Tree) → items_in j ≡ Some ts → HasUniqueKeys j
  items_unique (array js) ts e = data_unique js ts e
  items_unique j ts e = absurd (cc e)

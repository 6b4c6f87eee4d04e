-- What is written for a value is read as that value.
use Rattle.std.proofs.Common.{◌≡◌, ℕ, ◌≤◌, Bool, true, false, cond, List, [], ◌∷◌, ◌++◌, Option, Some, None, refl, sym, ap, ◌∙◌, subst, append_assoc, append-nil, arith}
use Rattle.std.specs.Prelude.{◌&&◌, not, codes, option_map, encode_utf8_all, IsUtf8}
use Rattle.std.specs.List.{list_any}
use Rattle.std.specs.Str.{chars}
use Rattle.std.proofs.lemmas.Bool.{and_parts}
use Rattle.std.proofs.lemmas.Slice.Eq.{bytes_eq-Decides}
use Rattle.std.proofs.lemmas.Str.{chars_from_encodes}
use Rattle.json.specs.Json.{Json, null, boolean, number, string, array, object, Items, no_items, item, Members, no_members, member}
use Rattle.cedar_language.specs.Uid.{Text, Name, Uid}
use Rattle.cedar_language.specs.Height.{height, heights}
use Rattle.cedar_language.specs.Slots.{trees_slots}
use Rattle.cedar_language.specs.Tree.{Tree, Lit, String, Entity, Apply, MakeSet, Call}
use Rattle.cedar_grammar.specs.Build.{truth, trees, keys, record_of}
use Rattle.cedar_grammar.specs.Calls.{calls_only, all_call_only}
use Rattle.cedar_grammar.specs.Grammar as grammar
use Rattle.cedar_grammar.specs.Grammar.{inner, last_item, an_item, Entry, text_entry, Primary, call_is, list_is, record_is, Within}
use Rattle.cedar_grammar.specs.Names.{Names, is_text, is_among, is_function, are_distinct}
use Rattle.cedar_grammar.specs.Token as token
use Rattle.cedar_grammar.specs.Token.{Mark, Token, text, mark}
use Rattle.cedar_grammar.specs.Tokens.{colon, is_in_word, Stops, Front, AreTokens, none, nothing}
use Rattle.cedar_world.specs.Bodies.{and_then, read_with, name_spelled}
use Rattle.cedar_json.specs.Values.{uid_with, uid_in, name_in, arguments, call_with, escapes, record_with, entry_with, datum, data_of, entries, call_in, items_in, IsTextOf}
use Rattle.cedar_json.specs.Written.{escaped, quoted, uid_text, uid_written, name_written, arguments_written, entry_written, written, items_written, members_written, call_written, list_written, AreTexts, ItemsAreTexts, MembersAreTexts}
use Rattle.cedar_json.proofs.Literals.{of_primary, Spells, by_level, boolean_spelled, string_spelled, long_spelled, uid_with_spelled}
use Rattle.cedar_json.proofs.Names.{is_named, path, path_read, named_chars}
use Rattle.cedar_json.proofs.Records.{Entries, values, Each, SlotFree, low_unsorted, calls_unsorted, free_sorted}
use Rattle.cedar_json.proofs.Strings.{quoted_front, quoted_string}
use Rattle.cedar_json.proofs.Tokens.{in_front, behind_space, comma, colon_space, left_paren, right_paren, left_bracket, right_bracket, left_brace, right_brace}

-- the mark that a byte writes, whatever follows
abbrev pub Closes : Mark → ℕ → Type 0
Closes m b = (rest : List ℕ) → Front (b ∷ rest) (mark m) rest

module _ (names : Names) where
  abbrev pub Calls : Tree → Type 0
  Calls t = calls_only (is_function names) t ≡ true

  abbrev pub AllCall : List Tree → Type 0
  AllCall ts = all_call_only (is_function names) (trees ts) ≡ true

  -- ---- lists

  abbrev pub ItemsRead : Mark → List ℕ → List Tree → List Token → Type 0
  ItemsRead m cs ts us = (ss : List Token) × AreTokens cs ss × ((n : ℕ) → heights (trees ts) ≤ n → grammar.Items m (Within names n) ss ts us)

  pub record SpellsItems (m : Mark) (cs : List ℕ) (ts : List Tree) : Type 0 where
    pub reads : (rest : List ℕ) (us : List Token) → AreTokens rest us → ItemsRead m (cs ++ rest) ts us
    pub slots : trees_slots (trees ts) ≡ []

  pub no_item : (m : Mark) (b : ℕ) → Closes m b → SpellsItems m (b ∷ []) []
  no_item m b closes = record { reads = λ rest us are. (mark m ∷ us, in_front _ _ rest us (closes rest) are, λ n low. grammar.no_items); slots = refl }

  pub item_more : (m : Mark) (cs ds : List ℕ) (t : Tree) (ts : List Tree) → Spells names cs t → SpellsItems m ds ts → SpellsItems m (cs ++ 44 ∷ ds) (t ∷ ts)
  item_more m cs ds t ts one more =
      record {
        reads = λ rest us are.
            let x = more.reads rest us are in
            let y = one.reads (44 ∷ (ds ++ rest)) (mark token.Comma ∷ x.0) refl (in_front _ _ (ds ++ rest) x.0 (comma (ds ++ rest)) x.1) in
            (y.0, subst (λ z. AreTokens z y.0) (sym (append_assoc cs (44 ∷ ds) rest)) y.1, λ n low. an_item x.0 (y.2 n (omega arith)) (x.2 n (omega arith)));
        slots = ap (λ ss. ss ++ trees_slots (trees ts)) one.slots ∙ more.slots;
      }

  -- one item, without a comma behind it
  item_alone : (m : Mark) (b : ℕ) (cs : List ℕ) (t : Tree) → Closes m b → ((rest : List ℕ) → Stops is_in_word (b ∷ rest)) → Spells names cs t
      → SpellsItems m (cs ++ b ∷ []) (t ∷ [])
  item_alone m b cs t closes stops one =
      record {
        reads = λ rest us are.
            let y = one.reads (b ∷ rest) (mark m ∷ us) (stops rest) (in_front _ _ rest us (closes rest) are) in
            (y.0, subst (λ z. AreTokens z y.0) (sym (append_assoc cs (b ∷ []) rest)) y.1, λ n low. last_item (y.2 n (omega arith)));
        slots = ap (λ ss. ss ++ []) one.slots;
      }

  pub list_spelled : (cs : List ℕ) (ts : List Tree) → SpellsItems token.RightBracket cs ts → Spells names (91 ∷ cs) (Apply MakeSet (trees ts))
  list_spelled cs ts items =
      record {
        reads = λ rest us stop are.
            let x = items.reads rest us are in (
              mark token.LeftBracket ∷ x.0,
              in_front _ _ (cs ++ rest) x.0 (left_bracket (cs ++ rest)) x.1,
              by_level names (Apply MakeSet (trees ts)) _ us (omega arith) (λ n low. of_primary (list_is (x.2 n (omega arith)))),
            );
        slots = items.slots;
      }

  -- ---- calls

  called : (p : Name) (ts : List Tree) → Calls (Apply (Call p) (trees ts)) → (is_function names p ≡ true) × AllCall ts
  called p ts h = and_parts (is_function names p) (all_call_only (is_function names) (trees ts)) h

  call_spelled : (s : Text) (p : Name) (cs : List ℕ) (ts : List Tree) → IsUtf8 s → name_spelled s ≡ Some p → is_function names p ≡ true
      → SpellsItems token.RightParen cs ts → Spells names (chars s ++ 40 ∷ cs) (Apply (Call p) (trees ts))
  call_spelled s p cs ts u e listed items =
      let named = is_named s p e in
      record {
        reads = λ rest us stop are.
            let x = items.reads rest us are in
            let behind = in_front _ _ (cs ++ rest) x.0 (left_paren (cs ++ rest)) x.1 in
            let y = path_read p (40 ∷ (cs ++ rest)) (mark token.LeftParen ∷ x.0) named.free named.some refl behind in
            let whole : (chars s ++ 40 ∷ cs) ++ rest ≡ path p ++ 40 ∷ (cs ++ rest) = append_assoc (chars s) (40 ∷ cs) rest
            ∙ ap (λ z. z ++ 40 ∷ (cs ++ rest)) (named_chars s p u named) in (
              y.0,
              subst (λ z. AreTokens z y.0) (sym whole) y.1,
              by_level names (Apply (Call p) (trees ts)) _ us (omega arith) (λ n low. of_primary (call_is x.0 y.2 listed (x.2 n (omega arith)))),
            );
        slots = items.slots;
      }

  -- ---- records

  abbrev pub EntriesRead : List ℕ → Entries → List Token → Type 0
  EntriesRead cs es us = (ss : List Token) × AreTokens cs ss ×
      ((n : ℕ) → heights (trees (values es)) ≤ n → grammar.Items token.RightBrace (Entry (Within names n)) ss es us)

  pub record SpellsEntries (cs : List ℕ) (es : Entries) : Type 0 where
    pub reads : (rest : List ℕ) (us : List Token) → AreTokens rest us → EntriesRead (cs ++ rest) es us
    pub slots : Each SlotFree es

  pub no_entry : SpellsEntries (125 ∷ []) []
  no_entry = record { reads = λ rest us are. (mark token.RightBrace ∷ us, in_front _ _ rest us (right_brace rest) are, λ n low. grammar.no_items); slots = tt }

  pub entry_more : (k : Text) (cs ds : List ℕ) (t : Tree) (es : Entries) → IsUtf8 k → Spells names cs t → SpellsEntries ds es
      → SpellsEntries (entry_written k cs ds) ((k, t) ∷ es)
  entry_more k cs ds t es u one more =
      record {
        reads = λ rest us are.
            let x = more.reads rest us are in
            let after = 44 ∷ (ds ++ rest) in
            let y = one.reads after (mark token.Comma ∷ x.0) refl (in_front _ _ (ds ++ rest) x.0 (comma (ds ++ rest)) x.1) in
            let value = behind_space y.0 y.1 in
            let coloned = in_front _ _ (32 ∷ (cs ++ after)) y.0 (colon_space (cs ++ after)) value in
            let keyed = in_front _ _ (colon ∷ 32 ∷ (cs ++ after)) (mark token.Colon ∷ y.0) (quoted_front k (colon ∷ 32 ∷ (cs ++ after))) coloned in
            let whole : entry_written k cs ds ++ rest ≡ quoted k ++ (colon ∷ 32 ∷ (cs ++ after)) =
            append_assoc (quoted k) (colon ∷ 32 ∷ (cs ++ 44 ∷ ds)) rest ∙ ap (λ z. quoted k ++ colon ∷ 32 ∷ z) (append_assoc cs (44 ∷ ds) rest)
            in (
              text (escaped (chars k)) ∷ mark token.Colon ∷ y.0,
              subst (λ z. AreTokens z (text (escaped (chars k)) ∷ mark token.Colon ∷ y.0)) (sym whole) keyed,
              λ n low. an_item x.0 (text_entry (quoted_string k u) (y.2 n (omega arith))) (x.2 n (omega arith)),
            );
        slots = (one.slots, more.slots);
      }

  pub record_spelled : (cs : List ℕ) (es : Entries) → SpellsEntries cs es → are_distinct (keys es) ≡ true → Spells names (123 ∷ cs) (record_of es)
  record_spelled cs es are_entries distinct =
      record {
        reads = λ rest us stop are.
            let x = are_entries.reads rest us are in (
              mark token.LeftBrace ∷ x.0,
              in_front _ _ (cs ++ rest) x.0 (left_brace (cs ++ rest)) x.1,
              by_level names (record_of es) _ us (omega arith) (λ n low. of_primary (record_is (x.2 n (low_unsorted n es (omega arith))) distinct)),
            );
        slots = free_sorted es are_entries.slots;
      }

  -- the record that entries make
  record_by : (cs : List ℕ) (es : Entries) (t : Tree) (b : Bool) → (are_distinct (keys es) && not (list_any (λ k. is_among k escapes) (keys es))) ≡ b
      → cond b (Some (record_of es)) None ≡ Some t → Calls t
      → (AllCall (values es) → SpellsEntries cs es) → Spells names (123 ∷ cs) t
  record_by cs es t true h e calls spelled =
      let same : record_of es ≡ t = cc e in
      let all = calls_unsorted (is_function names) es (subst Calls (sym same) calls) in
      subst (Spells names (123 ∷ cs)) same
      (record_spelled cs es (spelled all) (and_parts (are_distinct (keys es)) (not (list_any (λ k. is_among k escapes) (keys es))) h).0)
  record_by cs es t false h e calls spelled = absurd (cc e)

  record_back : (cs : List ℕ) (t : Tree) (o : Option Entries) → and_then o record_with ≡ Some t → Calls t
      → ((es : Entries) → o ≡ Some es → AllCall (values es) → SpellsEntries cs es) → Spells names (123 ∷ cs) t
  record_back cs t None e calls spelled = absurd (cc e)
  record_back cs t (Some es) e calls spelled = record_by cs es t (are_distinct (keys es) && not (list_any (λ k. is_among k escapes) (keys es))) refl e calls
      (λ all. spelled es refl all)

  -- ---- entities

  two_by : (k s l t : Text) (u : Uid) → IsUtf8 s → IsUtf8 t → (a b c d : Bool) → is_text k (codes "type") ≡ a
      → cond (a && b) (uid_with s t) (cond (c && d) (uid_with t s) None) ≡ Some u → (c ≡ true → a ≡ false)
      → Spells names (cond (is_text k (codes "type")) (uid_text s t) (uid_text t s)) (Lit (Entity u))
  two_by k s l t u v w true true c d f e other = rw f (uid_with_spelled names s t u v w e)
  two_by k s l t u v w true false true d f e other = absurd (cc (other refl))
  two_by k s l t u v w true false false d f e other = absurd (cc e)
  two_by k s l t u v w false b true true f e other = rw f (uid_with_spelled names t s u w v e)
  two_by k s l t u v w false b true false f e other = absurd (cc e)
  two_by k s l t u v w false b false d f e other = absurd (cc e)

  -- a key is not both
  type_alone : (k : Text) → is_text k (codes "id") ≡ true → is_text k (codes "type") ≡ false
  type_alone k e = subst (λ x. is_text x (codes "type") ≡ false) (sym ((bytes_eq-Decides k (codes "id")).0 e)) refl

  pub uid_spelled_back : (j : Json) (u : Uid) → AreTexts j → uid_in j ≡ Some u → Spells names (uid_written j) (Lit (Entity u))
  uid_spelled_back (object (member k (string s) (member l (string t) no_members))) u a e =
      two_by k s l t u a.1 a.2.1 (is_text k (codes "type")) (is_text l (codes "id")) (is_text k (codes "id")) (is_text l (codes "type")) refl e (type_alone k)
  uid_spelled_back j u a e = absurd (cc e)

  uid_back : (j : Json) (t : Tree) (o : Option Uid) → AreTexts j → uid_in j ≡ o → option_map (λ u. Lit (Entity u)) o ≡ Some t → Spells names (uid_written j) t
  uid_back j t None a f e = absurd (cc e)
  uid_back j t (Some u) a f e = let same : Lit (Entity u) ≡ t = cc e in subst (Spells names (uid_written j)) same (uid_spelled_back j u a f)

  -- ---- calls of JSON

  -- the arguments, by what stands under their key
  arguments_by : (key : Text) (one some : List ℕ) (o : Option Tree) (os : Option (List Tree)) (ts : List Tree) → AllCall ts
      → ((t : Tree) → o ≡ Some t → Calls t → Spells names one t) → ((us : List Tree) → os ≡ Some us → AllCall us → SpellsItems token.RightParen some us)
      → (a b : Bool) → cond a (option_map (λ t. t ∷ []) o) (cond b os None) ≡ Some ts → SpellsItems token.RightParen (cond a (one ++ 41 ∷ []) some) ts
  arguments_by key one some None os ts all f g true b e = absurd (cc e)
  arguments_by key one some (Some t) os ts all f g true b e =
      let same : t ∷ [] ≡ ts = cc e in
      let both = and_parts (calls_only (is_function names) t) true (subst AllCall (sym same) all) in
      subst (SpellsItems token.RightParen (one ++ 41 ∷ [])) same (item_alone token.RightParen 41 one t right_paren (λ rest. refl) (f t refl both.0))
  arguments_by key one some o None ts all f g false true e = absurd (cc e)
  arguments_by key one some o (Some us) ts all f g false true e = let same : us ≡ ts = cc e in subst (SpellsItems token.RightParen some) same
      (g us refl (subst AllCall (sym same) all))
  arguments_by key one some o os ts all f g false false e = absurd (cc e)

  -- a call, by the name in its function
  call_of : (f : Json) (cs : List ℕ) (t : Tree) (os : Option (List Tree)) → AreTexts f → call_with (name_in f) os ≡ Some t → Calls t
      → ((ts : List Tree) → os ≡ Some ts → AllCall ts → SpellsItems token.RightParen cs ts) → Spells names (name_written f ++ 40 ∷ cs) t
  call_of (string s) cs t os a e calls spelled = by (name_spelled s) refl os refl e
    where
      by : (o : Option Name) → name_spelled s ≡ o → (ps : Option (List Tree)) → os ≡ ps → call_with o ps ≡ Some t → Spells names (chars s ++ 40 ∷ cs) t
      by None f ps g e = absurd (cc e)
      by (Some p) f None g e = absurd (cc e)
      by (Some p) f (Some ts) g e =
          let same : Apply (Call p) (trees ts) ≡ t = cc e in
          let both = called p ts (subst Calls (sym same) calls) in
          subst (Spells names (chars s ++ 40 ∷ cs)) same (call_spelled s p cs ts a f both.0 (spelled ts g both.1))
  call_of null cs t os a e calls spelled = absurd (cc e)
  call_of (boolean b) cs t os a e calls spelled = absurd (cc e)
  call_of (number s) cs t os a e calls spelled = absurd (cc e)
  call_of (array js) cs t os a e calls spelled = absurd (cc e)
  call_of (object ms) cs t os a e calls spelled = absurd (cc e)

  call_by : (k l : Text) (a b : Json) (t : Tree) → AreTexts a → AreTexts b → Calls t
      → ((u : Tree) → datum a ≡ Some u → Calls u → Spells names (written a) u)
      → ((us : List Tree) → items_in a ≡ Some us → AllCall us → SpellsItems token.RightParen (list_written a) us)
      → ((u : Tree) → datum b ≡ Some u → Calls u → Spells names (written b) u)
      → ((us : List Tree) → items_in b ≡ Some us → AllCall us → SpellsItems token.RightParen (list_written b) us)
      → (p q : Bool) → cond p (call_with (name_in a) (arguments l (datum b) (items_in b)))
      (cond q (call_with (name_in b) (arguments k (datum a) (items_in a))) None) ≡ Some t
      → Spells names (cond p (name_written a ++ arguments_written l (written b) (list_written b))
      (name_written b ++ arguments_written k (written a) (list_written a))) t
  call_by k l a b t x y calls f g h i true q e =
      call_of a _ t _ x e calls (λ ts o all. arguments_by l (written b) (list_written b) (datum b) (items_in b) ts all h i (is_text l (codes "arg"))
      (is_text l (codes "args")) o)
  call_by k l a b t x y calls f g h i false true e =
      call_of b _ t _ y e calls (λ ts o all. arguments_by k (written a) (list_written a) (datum a) (items_in a) ts all f g (is_text k (codes "arg"))
      (is_text k (codes "args")) o)
  call_by k l a b t x y calls f g h i false false e = absurd (cc e)

  -- ---- lists of JSON

  list_back : (cs : List ℕ) (t : Tree) (o : Option (List Tree)) → option_map (λ ts. Apply MakeSet (trees ts)) o ≡ Some t → Calls t
      → ((ts : List Tree) → o ≡ Some ts → AllCall ts → SpellsItems token.RightBracket cs ts) → Spells names (91 ∷ cs) t
  list_back cs t None e calls spelled = absurd (cc e)
  list_back cs t (Some ts) e calls spelled =
      let same : Apply MakeSet (trees ts) ≡ t = cc e in subst (Spells names (91 ∷ cs)) same
      (list_spelled cs ts (spelled ts refl (subst Calls (sym same) calls)))

  item_by : (m : Mark) (cs ds : List ℕ) (ts : List Tree) (o : Option Tree) (os : Option (List Tree)) → read_with o os ≡ Some ts → AllCall ts
      → ((t : Tree) → o ≡ Some t → Calls t → Spells names cs t)
      → ((us : List Tree) → os ≡ Some us → AllCall us → SpellsItems m ds us) → SpellsItems m (cs ++ 44 ∷ ds) ts
  item_by m cs ds ts (Some t) (Some us) e all f g =
      let same : t ∷ us ≡ ts = cc e in
      let both = and_parts (calls_only (is_function names) t) (all_call_only (is_function names) (trees us)) (subst AllCall (sym same) all) in
      subst (SpellsItems m (cs ++ 44 ∷ ds)) same (item_more m cs ds t us (f t refl both.0) (g us refl both.1))
  item_by m cs ds ts (Some t) None e all f g = absurd (cc e)
  item_by m cs ds ts None os e all f g = absurd (cc e)

  entry_by : (k : Text) (cs ds : List ℕ) (es : Entries) (o : Option Tree) (os : Option Entries) → IsUtf8 k → entry_with k o os ≡ Some es
      → AllCall (values es) → ((t : Tree) → o ≡ Some t → Calls t → Spells names cs t)
      → ((fs : Entries) → os ≡ Some fs → AllCall (values fs) → SpellsEntries ds fs) → SpellsEntries (entry_written k cs ds) es
  entry_by k cs ds es (Some t) (Some fs) u e all f g =
      let same : (k, t) ∷ fs ≡ es = cc e in
      let both = and_parts (calls_only (is_function names) t) (all_call_only (is_function names) (trees (values fs)))
      (subst (λ (x : Entries). AllCall (values x)) (sym same) all) in
      subst (SpellsEntries (entry_written k cs ds)) same (entry_more k cs ds t fs u (f t refl both.0) (g fs refl both.1))
  entry_by k cs ds es (Some t) None u e all f g = absurd (cc e)
  entry_by k cs ds es None os u e all f g = absurd (cc e)

  single_by : (k : Text) (j : Json) (cs call : List ℕ) (t : Tree) (o : Option Tree) (r : Option Tree) → AreTexts j → Calls t
      → (o ≡ Some t → Spells names call t) → (r ≡ Some t → Spells names cs t)
      → (a b : Bool) → cond a (option_map (λ u. Lit (Entity u)) (uid_in j)) (cond b o r) ≡ Some t → Spells names (cond a (uid_written j) (cond b call cs)) t
  single_by k j cs call t o r x calls f g true b e = uid_back j t (uid_in j) x refl e
  single_by k j cs call t o r x calls f g false true e = f e
  single_by k j cs call t o r x calls f g false false e = g e

  mutual
    pub read_back : (j : Json) (t : Tree) → AreTexts j → datum j ≡ Some t → Calls t → Spells names (written j) t
    read_back null t a e h = absurd (cc e)
    read_back (boolean b) t a e h = let same : truth b ≡ t = cc e in subst (Spells names (written (boolean b))) same (boolean_spelled names b)
    read_back (number s) t a e h = long_spelled names s t a e
    read_back (string s) t a e h = let same : Lit (String s) ≡ t = cc e in subst (Spells names (quoted s)) same (string_spelled names s a)
    read_back (array js) t a e h = list_back (items_written 93 js) t (data_of js) e h (λ ts o all. items_back token.RightBracket 93 right_bracket js ts a o all)
    read_back (object no_members) t a e h = record_back (125 ∷ []) t (Some []) e h
        (λ es o all. let same : [] ≡ es = cc o in subst (SpellsEntries (125 ∷ [])) same no_entry)
    read_back (object (member k j no_members)) t a e h =
        single_by k j (123 ∷ entry_written k (written j) (125 ∷ [])) (call_written j) t (call_in j)
        (and_then (entry_with k (datum j) (Some [])) record_with) a.1 h
        (λ o. call_back j t a.1 o h)
        (λ o. record_back (entry_written k (written j) (125 ∷ [])) t (entry_with k (datum j) (Some [])) o h
        (λ es p all. members_back (member k j no_members) es a p all))
        (is_text k (codes "__entity")) (is_text k (codes "__extn")) e
    read_back (object (member k j (member l i ms))) t a e h =
        record_back (members_written (member k j (member l i ms))) t (entries (member k j (member l i ms))) e h
        (λ es o all. members_back (member k j (member l i ms)) es a o all)

    items_back : (m : Mark) (b : ℕ) → Closes m b → (js : Items) (ts : List Tree) → ItemsAreTexts js → data_of js ≡ Some ts → AllCall ts
        → SpellsItems m (items_written b js) ts
    items_back m b closes no_items ts a e all = let same : [] ≡ ts = cc e in subst (SpellsItems m (b ∷ [])) same (no_item m b closes)
    items_back m b closes (item j js) ts a e all =
        item_by m (written j) (items_written b js) ts (datum j) (data_of js) e all (λ t o h. read_back j t a.0 o h)
        (λ us o h. items_back m b closes js us a.1 o h)

    members_back : (ms : Members) (es : Entries) → MembersAreTexts ms → entries ms ≡ Some es → AllCall (values es) → SpellsEntries (members_written ms) es
    members_back no_members es a e all = let same : [] ≡ es = cc e in subst (SpellsEntries (125 ∷ [])) same no_entry
    members_back (member k j ms) es a e all =
        entry_by k (written j) (members_written ms) es (datum j) (entries ms) a.0 e all (λ t o h. read_back j t a.1 o h) (λ fs o h. members_back ms fs a.2 o h)

    call_back : (j : Json) (t : Tree) → AreTexts j → call_in j ≡ Some t → Calls t → Spells names (call_written j) t
    call_back (object (member k a (member l b no_members))) t x e h =
        call_by k l a b t x.1 x.2.1 h
        (λ u o c. read_back a u x.1 o c) (λ us o c. list_of_back a us x.1 o c)
        (λ u o c. read_back b u x.2.1 o c) (λ us o c. list_of_back b us x.2.1 o c)
        (is_text k (codes "fn")) (is_text l (codes "fn")) e
    call_back j t x e h = absurd (cc e)

    list_of_back : (j : Json) (ts : List Tree) → AreTexts j → items_in j ≡ Some ts → AllCall ts → SpellsItems token.RightParen (list_written j) ts
    list_of_back (array js) ts a e all = items_back token.RightParen 41 right_paren js ts a e all
    list_of_back j ts a e all = absurd (cc e)

-- a text of the characters that are written for a value is a text of it
pub text_of : (j : Json) (t : Tree) (bytes : Text) → AreTexts j → datum j ≡ Some t → IsUtf8 bytes → encode_utf8_all (written j) ≡ bytes → IsTextOf bytes t
text_of j t bytes a e u is names calls =
    let spelled = read_back names j t a e calls in
    let x = spelled.reads [] [] tt (none nothing) in (
      x.0,
      subst (λ cs. AreTokens cs x.0) (append-nil (written j) ∙ chars_from_encodes (written j) bytes u is) x.1,
      (x.2 (height t) (omega arith), spelled.slots),
    )

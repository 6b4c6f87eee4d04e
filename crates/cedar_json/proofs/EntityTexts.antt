-- What is written for entities is read as a body of these.
use Rattle.std.proofs.Common.{◌≡◌, ℕ, Bool, true, false, cond, List, [], ◌∷◌, ◌++◌, Option, Some, None, map, refl, ap, ◌∙◌, subst, append-nil, arith}
use Rattle.std.specs.Prelude.{◌&&◌, codes, option_map, encode_utf8_all, IsUtf8, ⊤}
use Rattle.std.specs.Option.{unwrap_or}
use Rattle.std.specs.FinSet as set
use Rattle.std.proofs.lemmas.Bool.{and_parts}
use Rattle.std.proofs.lemmas.Str.{chars_from_encodes}
use Rattle.json.specs.Json.{Json, null, boolean, number, string, array, object, Items, no_items, item, Members, no_members, member}
use Rattle.json.specs.Strict.{keys}
use Rattle.cedar_language.specs.Uid.{Text, Uid}
use Rattle.cedar_language.specs.Height.{height}
use Rattle.cedar_language.specs.Tree.{Tree, Lit, Entity, Apply, MakeSet}
use Rattle.cedar_grammar.specs.Build.{trees, Keyed, record_of}
use Rattle.cedar_grammar.specs.Calls.{calls_only, all_call_only}
use Rattle.cedar_grammar.specs.Names.{Names, is_text, is_function, are_distinct}
use Rattle.cedar_grammar.specs.Token as token
use Rattle.cedar_grammar.specs.Tokens.{AreTokens, none, nothing}
use Rattle.cedar_world.specs.Bodies.{and_then, read_with, each, Fields, named_fields, entity_of, EntityBody, entity_with, entity_body, entity_bodies}
use Rattle.cedar_json.specs.Entities.{entity_in, each_entity, parents_in, fields_in, under, only_under, if_there, entity_keys, body_of, body_in, bodies_of, entities_in}
use Rattle.cedar_json.specs.EntitiesWritten.{entity_written, each_written, parents_written, uid_part, fields_written, body_written, one_written, bodies_written, entities_written}
use Rattle.cedar_json.specs.Values.{uid_in, datum, IsTextOf}
use Rattle.cedar_json.specs.Written.{uid_written, entry_written, written, AreTexts, ItemsAreTexts, MembersAreTexts}
use Rattle.cedar_json.proofs.Literals.{Spells}
use Rattle.cedar_json.proofs.ReadBack.{Calls, AllCall, SpellsItems, no_item, item_more, list_spelled, no_entry, entry_more, record_spelled, uid_spelled_back, read_back}
use Rattle.cedar_json.proofs.Records.{values, calls_unsorted}
use Rattle.cedar_json.proofs.Tokens.{right_bracket}

-- ---- entities and lists of them

entity_by : (names : Names) (j : Json) (u : Uid) (b : Bool) → AreTexts j → cond b (uid_in j) None ≡ Some u → Spells names (uid_written j) (Lit (Entity u))
entity_by names j u true a e = uid_spelled_back names j u a e
entity_by names j u false a e = absurd (cc e)

pub entity_spelled : (names : Names) (j : Json) (u : Uid) → AreTexts j → entity_in j ≡ Some u → Spells names (entity_written j) (Lit (Entity u))
entity_spelled names null u a e = absurd (cc e)
entity_spelled names (boolean b) u a e = absurd (cc e)
entity_spelled names (number s) u a e = absurd (cc e)
entity_spelled names (string s) u a e = absurd (cc e)
entity_spelled names (array js) u a e = absurd (cc e)
entity_spelled names (object no_members) u a e = absurd (cc e)
entity_spelled names (object (member k j no_members)) u a e = entity_by names j u (is_text k (codes "__entity")) a.1 e
entity_spelled names (object (member k j (member l i ms))) u a e = uid_spelled_back names (object (member k j (member l i ms))) u a e

abbrev pub literals : List Uid → List Tree
literals us = map (λ u. Lit (Entity u)) us

each_by : (names : Names) (cs ds : List ℕ) (us : List Uid) (o : Option Uid) (os : Option (List Uid)) → read_with o os ≡ Some us
    → ((u : Uid) → o ≡ Some u → Spells names cs (Lit (Entity u)))
    → ((vs : List Uid) → os ≡ Some vs → SpellsItems names token.RightBracket ds (literals vs))
    → SpellsItems names token.RightBracket (cs ++ 44 ∷ ds) (literals us)
each_by names cs ds us (Some u) (Some vs) e f g =
    let same : u ∷ vs ≡ us = cc e in
    subst (λ x. SpellsItems names token.RightBracket (cs ++ 44 ∷ ds) (literals x)) same
    (item_more names token.RightBracket cs ds (Lit (Entity u)) (literals vs) (f u refl) (g vs refl))
each_by names cs ds us (Some u) None e f g = absurd (cc e)
each_by names cs ds us None os e f g = absurd (cc e)

pub each_spelled : (names : Names) (js : Items) (us : List Uid) → ItemsAreTexts js → each_entity js ≡ Some us
    → SpellsItems names token.RightBracket (each_written js) (literals us)
each_spelled names no_items us a e =
    let same : [] ≡ us = cc e in subst (λ x. SpellsItems names token.RightBracket (93 ∷ []) (literals x)) same
    (no_item names token.RightBracket 93 right_bracket)
each_spelled names (item j js) us a e =
    each_by names (entity_written j) (each_written js) us (entity_in j) (each_entity js) e (λ u f. entity_spelled names j u a.0 f)
    (λ vs f. each_spelled names js vs a.1 f)

-- ---- parts of an entity

abbrev pub TextsIf : Option Json → Type 0
TextsIf None = ⊤
TextsIf (Some j) = AreTexts j

pub under_texts : (key : Text) (ms : Members) → MembersAreTexts ms → TextsIf (under key ms)
under_texts key no_members a = tt
under_texts key (member k j ms) a = by (under_texts key ms a.2) a.1 (is_text key k)
  where
    by : TextsIf (under key ms) → AreTexts j → (b : Bool) → TextsIf (cond b (Some j) (under key ms))
    by others here true = here
    by others here false = others

uid_spelled : (names : Names) (o : Option Json) (u : Uid) → TextsIf o → and_then o entity_in ≡ Some u → Spells names (uid_part o) (Lit (Entity u))
uid_spelled names None u a e = absurd (cc e)
uid_spelled names (Some j) u a e = entity_spelled names j u a e

list_of : (names : Names) (js : Items) (p : Option (List Uid)) (o : Option (List Uid)) → ItemsAreTexts js → each_entity js ≡ o
    → option_map (λ us. Some us) o ≡ Some p
    → Spells names (91 ∷ each_written js) (Apply MakeSet (trees (literals (unwrap_or p []))))
list_of names js p None a f e = absurd (cc e)
list_of names js p (Some us) a f e =
    let same : Some us ≡ p = cc e in
    subst (λ (x : Option (List Uid)). Spells names (91 ∷ each_written js) (Apply MakeSet (trees (literals (unwrap_or x []))))) same
    (list_spelled names (each_written js) (literals us) (each_spelled names js us a f))

parents_spelled : (names : Names) (o : Option Json) (p : Option (List Uid)) → TextsIf o → if_there parents_in o ≡ Some p
    → Spells names (parents_written o) (Apply MakeSet (trees (literals (unwrap_or p []))))
parents_spelled names None p a e =
    let same : None ≡ p = cc e in
    subst (λ (x : Option (List Uid)). Spells names (91 ∷ 93 ∷ []) (Apply MakeSet (trees (literals (unwrap_or x []))))) same
    (list_spelled names (93 ∷ []) [] (no_item names token.RightBracket 93 right_bracket))
parents_spelled names (Some (array js)) p a e = list_of names js p (each_entity js) a refl e
parents_spelled names (Some null) p a e = absurd (cc e)
parents_spelled names (Some (boolean b)) p a e = absurd (cc e)
parents_spelled names (Some (number s)) p a e = absurd (cc e)
parents_spelled names (Some (string s)) p a e = absurd (cc e)
parents_spelled names (Some (object ms)) p a e = absurd (cc e)

-- a tree of fields, that the characters are
record SpellsFields (cs : List ℕ) (p : Option Fields) : Type 0 where
  pub tree : Tree
  pub spells : (names : Names) → Calls names tree → Spells names cs tree
  pub fields : named_fields tree ≡ Some (unwrap_or p [])

fields_by : (j : Json) (p : Option Fields) (o : Option Tree) → AreTexts j → datum j ≡ o → option_map (λ fs. Some fs) (and_then o named_fields) ≡ Some p
    → SpellsFields (written j) p
fields_by j p None a f e = absurd (cc e)
fields_by j p (Some t) a f e = by (named_fields t) refl e
  where
    by : (o : Option Fields) → named_fields t ≡ o → option_map (λ fs. Some fs) o ≡ Some p → SpellsFields (written j) p
    by None g e = absurd (cc e)
    by (Some fs) g e =
        let same : Some fs ≡ p = cc e in
        record { tree = t; spells = λ names h. read_back names j t a f h; fields = g ∙ ap (λ (x : Option Fields). Some (unwrap_or x [])) same }

fields_spelled : (o : Option Json) (p : Option Fields) → TextsIf o → if_there fields_in o ≡ Some p → SpellsFields (fields_written o) p
fields_spelled None p a e =
    let same : None ≡ p = cc e in
    record {
      tree = record_of [];
      spells = λ names h. record_spelled names (125 ∷ []) [] (no_entry names) refl;
      fields = ap (λ (x : Option Fields). Some (unwrap_or x [])) same;
    }
fields_spelled (Some j) p a e = fields_by j p (datum j) a refl e

-- ---- one entity

abbrev parts : Uid → List Uid → Tree → Tree → List (Keyed Tree)
parts u us a b = (codes "uid", Lit (Entity u)) ∷ (codes "parents", Apply MakeSet (trees (literals us))) ∷ (codes "attrs", a) ∷ (codes "tags", b) ∷ []

pub uids_read : (us : List Uid) → each entity_of (trees (literals us)) ≡ Some us
uids_read [] = refl
uids_read (u ∷ us) = ap (λ o. read_with (Some u) o) (uids_read us)

abbrev made : Uid → List Uid → Fields → Fields → EntityBody
made u us fs gs = record { uid = u; parents = set.from_list us; attributes = fs; tags = gs }

body_read : (u : Uid) (us : List Uid) (a b : Tree) (fs gs : Fields) → named_fields a ≡ Some fs → named_fields b ≡ Some gs
    → entity_body (record_of (parts u us a b)) ≡ Some (made u us fs gs)
body_read u us a b fs gs f g = λ i. entity_with (Some u) (option_map (λ x. Some x) (uids_read us i)) (option_map (λ x. Some x) (f i))
    (option_map (λ x. Some x) (g i))

uid_utf8 : IsUtf8 (codes "uid")
unfolding lib.Utf8.encode
uid_utf8 = (codes "uid", (refl, refl))

parents_utf8 : IsUtf8 (codes "parents")
unfolding lib.Utf8.encode
parents_utf8 = (codes "parents", (refl, refl))

attrs_utf8 : IsUtf8 (codes "attrs")
unfolding lib.Utf8.encode
attrs_utf8 = (codes "attrs", (refl, refl))

tags_utf8 : IsUtf8 (codes "tags")
unfolding lib.Utf8.encode
tags_utf8 = (codes "tags", (refl, refl))

record SpellsBody (cs : List ℕ) (body : EntityBody) : Type 0 where
  pub tree : Tree
  pub spells : (names : Names) → Calls names tree → Spells names cs tree
  pub reads : entity_body tree ≡ Some body

abbrev four : List ℕ → List ℕ → List ℕ → List ℕ → List ℕ
four u p a t = 123 ∷ entry_written (codes "uid") u
    (entry_written (codes "parents") p (entry_written (codes "attrs") a (entry_written (codes "tags") t (125 ∷ []))))

parts_spelled : (names : Names) (u : Uid) (us : List Uid) (a b : Tree) (cs ds es fs : List ℕ) → Spells names cs (Lit (Entity u))
    → Spells names ds (Apply MakeSet (trees (literals us)))
    → (Calls names a → Spells names es a) → (Calls names b → Spells names fs b) → Calls names (record_of (parts u us a b))
    → Spells names (four cs ds es fs) (record_of (parts u us a b))
parts_spelled names u us a b cs ds es fs x y z w h =
    let all : AllCall names (values (parts u us a b)) = calls_unsorted (is_function names) (parts u us a b) h in
    let c : Tree → Bool = calls_only (is_function names) in
    let others = and_parts (c (Apply MakeSet (trees (literals us)))) (c a && (c b && true)) all in
    let last = and_parts (c a) (c b && true) others.1 in
    let one : c b ≡ true = (and_parts (c b) true last.1).0 in
    record_spelled names _ (parts u us a b)
    (entry_more names (codes "uid") cs _ (Lit (Entity u)) _ uid_utf8 x
    (entry_more names (codes "parents") ds _ (Apply MakeSet (trees (literals us))) _ parents_utf8 y
    (entry_more names (codes "attrs") es _ a _ attrs_utf8 (z last.0)
    (entry_more names (codes "tags") fs (125 ∷ []) b [] tags_utf8 (w one) (no_entry names))))) refl

body_by : (x y z w : Option Json) (body : EntityBody) → TextsIf x → TextsIf y → TextsIf z → TextsIf w → (u : Option Uid) → and_then x entity_in ≡ u
    → (p : Option (Option (List Uid))) → if_there parents_in y ≡ p
    → (q : Option (Option Fields)) → if_there fields_in z ≡ q → (r : Option (Option Fields)) → if_there fields_in w ≡ r → entity_with u p q r ≡ Some body
    → SpellsBody (four (uid_part x) (parents_written y) (fields_written z) (fields_written w)) body
body_by x y z w body a b c d (Some u) e (Some p) f (Some q) g (Some r) h is =
    let attributes = fields_spelled z q c g in
    let tags = fields_spelled w r d h in
    let us : List Uid = unwrap_or p [] in
    let same : made u us (unwrap_or q []) (unwrap_or r []) ≡ body = cc is in
    record {
      tree = record_of (parts u us attributes.tree tags.tree);
      spells = λ names calls.
          parts_spelled names u us attributes.tree tags.tree (uid_part x) (parents_written y) (fields_written z) (fields_written w)
          (uid_spelled names x u a e) (parents_spelled names y p b f) (attributes.spells names) (tags.spells names) calls;
      reads = body_read u us attributes.tree tags.tree (unwrap_or q []) (unwrap_or r []) attributes.fields tags.fields ∙ ap Some same;
    }
body_by x y z w body a b c d None e p f q g r h is = absurd (cc is)
body_by x y z w body a b c d (Some u) e None f q g r h is = absurd (cc is)
body_by x y z w body a b c d (Some u) e (Some p) f None g r h is = absurd (cc is)
body_by x y z w body a b c d (Some u) e (Some p) f (Some q) g None h is = absurd (cc is)

object_by : (ms : Members) (body : EntityBody) (b : Bool) → MembersAreTexts ms → cond b (body_of ms) None ≡ Some body → SpellsBody (body_written ms) body
object_by ms body true a e =
    body_by (under (codes "uid") ms) (under (codes "parents") ms) (under (codes "attrs") ms) (under (codes "tags") ms) body
    (under_texts (codes "uid") ms a) (under_texts (codes "parents") ms a) (under_texts (codes "attrs") ms a)
    (under_texts (codes "tags") ms a) _ refl _ refl _ refl _ refl e
object_by ms body false a e = absurd (cc e)

body_spelled : (j : Json) (body : EntityBody) → AreTexts j → body_in j ≡ Some body → SpellsBody (one_written j) body
body_spelled (object ms) body a e = object_by ms body (only_under entity_keys ms && are_distinct (keys ms)) a e
body_spelled null body a e = absurd (cc e)
body_spelled (boolean b) body a e = absurd (cc e)
body_spelled (number s) body a e = absurd (cc e)
body_spelled (string s) body a e = absurd (cc e)
body_spelled (array js) body a e = absurd (cc e)

-- ---- all of them

record SpellsBodies (cs : List ℕ) (bodies : List EntityBody) : Type 0 where
  pub items : List Tree
  pub spells : (names : Names) → AllCall names items → SpellsItems names token.RightBracket cs items
  pub reads : each entity_body (trees items) ≡ Some bodies

bodies_by : (cs ds : List ℕ) (bodies : List EntityBody) (o : Option EntityBody) (os : Option (List EntityBody)) → read_with o os ≡ Some bodies
    → ((body : EntityBody) → o ≡ Some body → SpellsBody cs body)
    → ((others : List EntityBody) → os ≡ Some others → SpellsBodies ds others) → SpellsBodies (cs ++ 44 ∷ ds) bodies
bodies_by cs ds bodies (Some body) (Some others) e f g =
    let same : body ∷ others ≡ bodies = cc e in
    let one = f body refl in
    let more = g others refl in
    record {
      items = one.tree ∷ more.items;
      spells = λ names all.
          let both = and_parts (calls_only (is_function names) one.tree) (all_call_only (is_function names) (trees more.items)) all in
          item_more names token.RightBracket cs ds one.tree more.items (one.spells names both.0) (more.spells names both.1);
      reads = (λ i. read_with (one.reads i) (more.reads i)) ∙ ap Some same;
    }
bodies_by cs ds bodies (Some body) None e f g = absurd (cc e)
bodies_by cs ds bodies None os e f g = absurd (cc e)

bodies_spelled : (js : Items) (bodies : List EntityBody) → ItemsAreTexts js → bodies_of js ≡ Some bodies → SpellsBodies (bodies_written js) bodies
bodies_spelled no_items bodies a e = record { items = []; spells = λ names all. no_item names token.RightBracket 93 right_bracket; reads = e }
bodies_spelled (item j js) bodies a e = bodies_by (one_written j) (bodies_written js) bodies (body_in j) (bodies_of js) e
    (λ body f. body_spelled j body a.0 f) (λ others f. bodies_spelled js others a.1 f)

abbrev IsBody : Text → List EntityBody → Type 0
IsBody text bodies = (t : Tree) × IsTextOf text t × (entity_bodies t ≡ Some bodies)

pub entities_text : (j : Json) (bodies : List EntityBody) (text : Text) → AreTexts j → entities_in j ≡ Some bodies → IsUtf8 text
    → encode_utf8_all (entities_written j) ≡ text → IsBody text bodies
entities_text (array js) bodies text a e u is =
    let all = bodies_spelled js bodies a e in
    let tree = Apply MakeSet (trees all.items) in
    let reads : IsTextOf text tree =
    λ names calls.
    let spelled = list_spelled names (bodies_written js) all.items (all.spells names calls) in
    let x = spelled.reads [] [] tt (none nothing) in (
      x.0,
      subst (λ cs. AreTokens cs x.0) (append-nil (entities_written (array js)) ∙ chars_from_encodes (entities_written (array js)) text u is) x.1,
      (x.2 (height tree) (omega arith), spelled.slots),
    )
    in
    (tree, reads, all.reads)
entities_text null bodies text a e u is = absurd (cc e)
entities_text (boolean b) bodies text a e u is = absurd (cc e)
entities_text (number s) bodies text a e u is = absurd (cc e)
entities_text (string s) bodies text a e u is = absurd (cc e)
entities_text (object ms) bodies text a e u is = absurd (cc e)

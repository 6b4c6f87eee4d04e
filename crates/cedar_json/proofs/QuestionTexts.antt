-- What is written for a question is read as a body of this one.
use Rattle.std.proofs.Common.{◌≡◌, ◌≢◌, ℕ, Bool, true, false, cond, List, [], ◌∷◌, ◌++◌, Option, Some, None, is_some, refl, sym, ap, ◌∙◌, subst, append_assoc, append-nil, arith}
use Rattle.std.specs.Prelude.{◌&&◌, codes, option_map, encode_utf8_all, IsUtf8, ⊤}
use Rattle.std.specs.List.{list_all}
use Rattle.std.specs.Option.{unwrap_or}
use Rattle.std.specs.Str.{chars}
use Rattle.std.proofs.lemmas.Bool.{and_parts}
use Rattle.std.proofs.lemmas.Str.{chars_from_encodes}
use Rattle.json.specs.Json.{Json, null, boolean, number, string, array, object, Members}
use Rattle.json.specs.Strict.{keys}
use Rattle.cedar_language.specs.Uid.{Text, Name, Uid}
use Rattle.cedar_language.specs.Height.{height}
use Rattle.cedar_language.specs.Tree.{Tree, Lit, Entity, no_trees}
use Rattle.cedar_grammar.specs.Build.{Keyed, record_of}
use Rattle.cedar_grammar.specs.Calls.{calls_only}
use Rattle.cedar_grammar.specs.Escape.{string_of}
use Rattle.cedar_grammar.specs.Grammar.{entity_is, entity}
use Rattle.cedar_grammar.specs.Names.{Names, is_function, are_distinct}
use Rattle.cedar_grammar.specs.Steps.{is_mark}
use Rattle.cedar_grammar.specs.Token as token
use Rattle.cedar_grammar.specs.Token.{ColonColon, Word, Token, word, text, slot, mark, word_of, id_of}
use Rattle.cedar_grammar.specs.Tokens.{quote, colon, begins_word, is_in_word, Run, ends, goes_on, Inside, closes, plain, escaped, Front, is_word, is_number, is_text, is_slot, is_mark as mark_front, AreTokens, none, next, nothing, tokens_of}
use Rattle.cedar_grammar.proofs.TokensComplete.{reads_tokens}
use Rattle.cedar_world.specs.Asking.{Part, Given, Entries, NoContext, WithEntries, Question}
use Rattle.cedar_world.specs.Bodies.{and_then, entries_of, question_with, ask_body, is_free_word}
use Rattle.cedar_json.specs.Entities.{under, only_under, if_there}
use Rattle.cedar_json.specs.EntitiesWritten.{fields_written}
use Rattle.cedar_json.specs.Questions.{longer, string_alone, or_else, path_in, uid_told, asked_in, part_in, context_in, or_empty, question_keys, asked_of, question_in}
use Rattle.cedar_json.specs.QuestionsWritten.{told_written, read_written, asked_written, part_written, question_written, asks_written}
use Rattle.cedar_json.specs.Values.{datum, IsTextOf}
use Rattle.cedar_json.specs.Written.{path, entry_written, written, AreTexts, MembersAreTexts}
use Rattle.cedar_json.proofs.EntityTexts.{TextsIf, under_texts, entity_spelled}
use Rattle.cedar_json.proofs.Literals.{Spells, literal_read, of_primary}
use Rattle.cedar_json.proofs.Names.{free_word_is, path_read}
use Rattle.cedar_json.proofs.ReadBack.{Calls, AllCall, no_entry, entry_more, record_spelled, read_back}
use Rattle.cedar_json.proofs.Records.{values, calls_unsorted}
use Rattle.cedar_json.proofs.Tokens.{in_front, two_colons}

-- ---- tokens of a text

record IsWord (w : Word) : Type 0 where
  pub first : ℕ
  pub others : Text
  pub is : w ≡ word_of (first ∷ others)
  pub begins : begins_word first ≡ true
  pub stand : list_all is_in_word others ≡ true

record IsRaw (raw : List ℕ) : Type 0 where
  pub before : List ℕ
  pub after : List ℕ
  pub inside : Inside before raw after

abbrev IsOfText : Token → Type 0
IsOfText (word w) = IsWord w
IsOfText (token.number n) = ⊤
IsOfText (text raw) = IsRaw raw
IsOfText (slot w) = ⊤
IsOfText (mark m) = ⊤

abbrev AreOfText : List Token → Type 0
AreOfText [] = ⊤
AreOfText (t ∷ ts) = IsOfText t × AreOfText ts

run_passes : (test : ℕ → Bool) (cs front rest : List ℕ) → Run test cs front rest → list_all test front ≡ true
run_passes test cs front rest (ends stop) = refl
run_passes test cs front rest (goes_on c {cs = ds} {front = more} passes run) = ap (λ b. b && list_all test more) passes ∙ run_passes test ds more rest run

front_of_text : (cs : List ℕ) (t : Token) (rest : List ℕ) → Front cs t rest → IsOfText t
front_of_text cs t rest (is_word c {cs = ds} {more} begins run) = record { first = c; others = more; is = refl; begins = begins; stand = run_passes is_in_word ds more rest run }
front_of_text cs t rest (is_number c begins run) = tt
front_of_text cs t rest (is_text c {cs = ds} {raw} opens inside) = record { before = ds; after = rest; inside = inside }
front_of_text cs t rest (is_slot c d e begins run) = tt
front_of_text cs t rest (mark_front m e stop) = tt

are_of_text : (cs : List ℕ) (ts : List Token) → AreTokens cs ts → AreOfText ts
are_of_text cs ts (none b) = tt
are_of_text cs ts (next t mid after {ts = us} b front more) = (front_of_text mid t after front, are_of_text after us more)

-- a word that is an identifier is its own
word_free : (w : Word) (s : Text) → IsWord w → id_of w ≡ Some s → is_free_word s ≡ true
word_free w s is e =
    let c = is.first in
    let cs = is.others in
    let named : id_of (word_of (c ∷ cs)) ≡ Some s = ap id_of (sym is.is) ∙ e in
    let own = free_word_is (c ∷ cs) (ap is_some named) in
    let same : c ∷ cs ≡ s = cc (own, named) in
    subst (λ x. is_free_word x ≡ true) same (rw (is.begins, is.stand, named) refl)

inside_move : (cs raw rest after : List ℕ) → Inside cs raw rest → Inside (raw ++ quote ∷ after) raw after
inside_move cs raw rest after (closes c e) = closes quote refl
inside_move cs raw rest after (plain c {cs = ds} {raw = more} e f inside) = plain c e f (inside_move ds more rest after inside)
inside_move cs raw rest after (escaped c d {cs = ds} {raw = more} e f inside) = escaped c d e f (inside_move ds more rest after inside)

-- ---- paths

record IsPath (x : Name × List ℕ) : Type 0 where
  pub free : list_all is_free_word x.0 ≡ true
  pub raw : IsRaw x.1

longer_path : (w : Word) (o : Option Text) (q : Option (Name × List ℕ)) (x : Name × List ℕ) → IsWord w → id_of w ≡ o
    → ((y : Name × List ℕ) → q ≡ Some y → IsPath y) → longer o q ≡ Some x → IsPath x × (x.0 ≢ [])
longer_path w None q x is e f g = absurd (cc g)
longer_path w (Some s) None x is e f g = absurd (cc g)
longer_path w (Some s) (Some y) x is e f g =
    let same : (s ∷ y.0, y.1) ≡ x = cc g in
    let rest = f y refl in
    subst (λ z. IsPath z × (z.0 ≢ [])) same (record { free = rw (word_free w s is e) rest.free; raw = rest.raw }, λ empty. cc)

string_path : (ts : List Token) (y : Name × List ℕ) → AreOfText ts → string_alone ts ≡ Some y → IsPath y
string_path [] y a e = absurd (cc e)
string_path (word w ∷ ts) y a e = absurd (cc e)
string_path (token.number n ∷ ts) y a e = absurd (cc e)
string_path (text raw ∷ []) y a e = let same : ([], raw) ≡ y = cc e in subst IsPath same (record { free = refl; raw = a.0 })
string_path (text raw ∷ t ∷ ts) y a e = absurd (cc e)
string_path (slot w ∷ ts) y a e = absurd (cc e)
string_path (mark m ∷ ts) y a e = absurd (cc e)

either_path : (o q : Option (Name × List ℕ)) (y : Name × List ℕ) → ((z : Name × List ℕ) → o ≡ Some z → IsPath z)
    → ((z : Name × List ℕ) → q ≡ Some z → IsPath z) → or_else o q ≡ Some y → IsPath y
either_path (Some z) q y f g e = f y e
either_path None q y f g e = g y e

step_path : (w : Word) (b : Bool) (q : Option (Name × List ℕ)) (x : Name × List ℕ) → IsWord w → ((y : Name × List ℕ) → q ≡ Some y → IsPath y)
    → cond b (longer (id_of w) q) None ≡ Some x → IsPath x × (x.0 ≢ [])
step_path w true q x is f e = longer_path w (id_of w) q x is refl f e
step_path w false q x is f e = absurd (cc e)

is_path : (ts : List Token) (x : Name × List ℕ) → AreOfText ts → path_in ts ≡ Some x → IsPath x × (x.0 ≢ [])
is_path [] x a e = absurd (cc e)
is_path (t ∷ []) x a e = absurd (cc e)
is_path (word w ∷ t ∷ ts) x a e =
    step_path w (is_mark ColonColon t) (or_else (string_alone ts) (path_in ts)) x a.0
    (λ y f. either_path (string_alone ts) (path_in ts) y (λ z g. string_path ts z a.1.1 g) (λ z g. (is_path ts z a.1.1 g).0) f) e
is_path (token.number n ∷ t ∷ ts) x a e = absurd (cc e)
is_path (text raw ∷ t ∷ ts) x a e = absurd (cc e)
is_path (slot w ∷ t ∷ ts) x a e = absurd (cc e)
is_path (mark m ∷ t ∷ ts) x a e = absurd (cc e)

-- ---- entities

path_spelled : (names : Names) (x : Name × List ℕ) (s : Text) → IsPath x → x.0 ≢ [] → string_of x.1 ≡ Some s
    → Spells names (told_written (Some x)) (Lit (Entity (record { type_name = x.0; id = s })))
path_spelled names x s is some e =
    let raw = x.1 in
    let strung : (rest : List ℕ) → Front (quote ∷ (raw ++ quote ∷ rest)) (text raw) rest = λ rest. is_text quote refl
    (inside_move is.raw.before raw is.raw.after rest is.raw.inside) in
    let whole : (rest : List ℕ) → told_written (Some x) ++ rest ≡ path x.0 ++ colon ∷ colon ∷ quote ∷ (raw ++ quote ∷ rest) =
    λ rest. append_assoc (path x.0) (colon ∷ colon ∷ quote ∷ (raw ++ quote ∷ [])) rest
    ∙ ap (λ y. path x.0 ++ colon ∷ colon ∷ quote ∷ y) (append_assoc raw (quote ∷ []) rest)
    in
    record {
      reads = λ rest us stop are.
          let behind = in_front _ _ (quote ∷ (raw ++ quote ∷ rest)) (text raw ∷ us) (two_colons (quote ∷ (raw ++ quote ∷ rest)))
          (in_front _ _ rest us (strung rest) are) in
          let y = path_read x.0 (colon ∷ colon ∷ quote ∷ (raw ++ quote ∷ rest)) (mark ColonColon ∷ text raw ∷ us) is.free some refl behind in
          (y.0, subst (λ z. AreTokens z y.0) (sym (whole rest)) y.1, literal_read names _ _ us (λ n. of_primary (entity_is (entity x.0 raw y.2 e))));
      slots = refl;
    }

told_spelled : (names : Names) (o : Option (Name × List ℕ)) (u : Uid) → ((x : Name × List ℕ) → o ≡ Some x → IsPath x × (x.0 ≢ [])) → uid_told o ≡ Some u
    → Spells names (told_written o) (Lit (Entity u))
told_spelled names None u f e = absurd (cc e)
told_spelled names (Some x) u f e = by (string_of x.1) refl e
  where
    by : (o : Option Text) → string_of x.1 ≡ o → option_map (λ s. record { type_name = x.0; id = s }) o ≡ Some u
        → Spells names (told_written (Some x)) (Lit (Entity u))
    by None g e = absurd (cc e)
    by (Some s) g e =
        let same : record { type_name = x.0; id = s } ≡ u = cc e in
        let is = f x refl in
        subst (λ v. Spells names (told_written (Some x)) (Lit (Entity v))) same (path_spelled names x s is.0 is.1 g)

read_spelled : (names : Names) (s : Text) (u : Uid) (o : Option (List Token)) → tokens_of (chars s) ≡ o → and_then o (λ ts. uid_told (path_in ts)) ≡ Some u
    → Spells names (read_written o) (Lit (Entity u))
read_spelled names s u None f e = absurd (cc e)
read_spelled names s u (Some ts) f e = told_spelled names (path_in ts) u (λ x g. is_path ts x (are_of_text (chars s) ts ((reads_tokens (chars s) ts).1 f)) g) e

pub asked_spelled : (names : Names) (j : Json) (u : Uid) → AreTexts j → asked_in j ≡ Some u → Spells names (asked_written j) (Lit (Entity u))
asked_spelled names (string s) u a e = read_spelled names s u (tokens_of (chars s)) refl e
asked_spelled names null u a e = absurd (cc e)
asked_spelled names (boolean b) u a e = absurd (cc e)
asked_spelled names (number s) u a e = absurd (cc e)
asked_spelled names (array js) u a e = absurd (cc e)
asked_spelled names (object ms) u a e = entity_spelled names (object ms) u a e

-- ---- parts of a question

record SpellsPart (cs : List ℕ) (p : Part) : Type 0 where
  pub uid : Uid
  pub spells : (names : Names) → Spells names cs (Lit (Entity uid))
  pub is : p ≡ Given uid

part_spelled : (o : Option Json) (p : Part) → TextsIf o → part_in o ≡ Some p → SpellsPart (part_written o) p
part_spelled None p a e = absurd (cc e)
part_spelled (Some j) p a e = by (asked_in j) refl e
  where
    by : (o : Option Uid) → asked_in j ≡ o → option_map Given o ≡ Some p → SpellsPart (asked_written j) p
    by None f e = absurd (cc e)
    by (Some u) f e = let same : Given u ≡ p = cc e in record { uid = u; spells = λ names. asked_spelled names j u a f; is = sym same }

-- a tree of entries, that the characters are
pub record SpellsContext (cs : List ℕ) (context : Option Entries) : Type 0 where
  pub tree : Tree
  pub spells : (names : Names) → Calls names tree → Spells names cs tree
  pub entries : Some (entries_of tree) ≡ Some context

context_by : (j : Json) (q : Option Entries) (o : Option Tree) → AreTexts j → datum j ≡ o
    → option_map or_empty (option_map (λ e. Some e) (and_then o entries_of)) ≡ Some q → SpellsContext (written j) q
context_by j q None a f e = absurd (cc e)
context_by j q (Some t) a f e = by (entries_of t) refl e
  where
    by : (o : Option Entries) → entries_of t ≡ o → option_map or_empty (option_map (λ e. Some e) o) ≡ Some q → SpellsContext (written j) q
    by None g e = absurd (cc e)
    by (Some es) g e = record { tree = t; spells = λ names h. read_back names j t a f h; entries = ap Some g ∙ e }

pub context_spelled : (o : Option Json) (q : Option Entries) → TextsIf o → option_map or_empty (if_there context_in o) ≡ Some q → SpellsContext (fields_written o) q
context_spelled None q a e = record { tree = record_of []; spells = λ names h. record_spelled names (125 ∷ []) [] (no_entry names) refl; entries = e }
context_spelled (Some j) q a e = context_by j q (datum j) a refl e

-- ---- the question

abbrev parts : Uid → Uid → Uid → Tree → List (Keyed Tree)
parts p a r c = (codes "principal", Lit (Entity p)) ∷ (codes "action", Lit (Entity a)) ∷ (codes "resource", Lit (Entity r)) ∷ (codes "context", c) ∷ []

body_read : (p a r : Uid) (c : Tree) (q : Option Entries) → Some (entries_of c) ≡ Some q → (e : Entries) → q ≡ Some e
    → ask_body (record_of (parts p a r c)) ≡ Some (record { principal = Given p; action = Given a; resource = Given r; context = e })
body_read p a r c q f e g =
    let is : entries_of c ≡ Some e = cc (f, g) in
    λ i. question_with (Some (Given p)) (Some (Given a)) (Some (Given r)) (option_map (λ x. Some x) (is i))

principal_utf8 : IsUtf8 (codes "principal")
unfolding lib.Utf8.encode
principal_utf8 = (codes "principal", (refl, refl))

action_utf8 : IsUtf8 (codes "action")
unfolding lib.Utf8.encode
action_utf8 = (codes "action", (refl, refl))

resource_utf8 : IsUtf8 (codes "resource")
unfolding lib.Utf8.encode
resource_utf8 = (codes "resource", (refl, refl))

context_utf8 : IsUtf8 (codes "context")
unfolding lib.Utf8.encode
context_utf8 = (codes "context", (refl, refl))

record SpellsQuestion (cs : List ℕ) (question : Question) : Type 0 where
  pub tree : Tree
  pub spells : (names : Names) → Calls names tree → Spells names cs tree
  pub reads : ask_body tree ≡ Some question

abbrev four : List ℕ → List ℕ → List ℕ → List ℕ → List ℕ
four p a r c = 123 ∷ entry_written (codes "principal") p
    (entry_written (codes "action") a (entry_written (codes "resource") r (entry_written (codes "context") c (125 ∷ []))))

parts_spelled : (names : Names) (p a r : Uid) (c : Tree) (cs ds es fs : List ℕ) → Spells names cs (Lit (Entity p)) → Spells names ds (Lit (Entity a))
    → Spells names es (Lit (Entity r)) → (Calls names c → Spells names fs c)
    → Calls names (record_of (parts p a r c)) → Spells names (four cs ds es fs) (record_of (parts p a r c))
parts_spelled names p a r c cs ds es fs x y z w h =
    let all : AllCall names (values (parts p a r c)) = calls_unsorted (is_function names) (parts p a r c) h in
    let one : Calls names c = (and_parts (calls_only (is_function names) c) true all).0 in
    record_spelled names _ (parts p a r c)
    (entry_more names (codes "principal") cs _ (Lit (Entity p)) _ principal_utf8 x
    (entry_more names (codes "action") ds _ (Lit (Entity a)) _ action_utf8 y
    (entry_more names (codes "resource") es _ (Lit (Entity r)) _ resource_utf8 z
    (entry_more names (codes "context") fs (125 ∷ []) c [] context_utf8 (w one) (no_entry names))))) refl

-- an empty context is one too
pub some_context : (o : Option (Option Entries)) (q : Option Entries) → option_map or_empty o ≡ Some q → (e : Entries) × (q ≡ Some e)
some_context None q f = absurd (cc f)
some_context (Some None) q f = let same : Some (WithEntries [] no_trees) ≡ q = cc f in (WithEntries [] no_trees, sym same)
some_context (Some (Some e)) q f = let same : Some e ≡ q = cc f in (e, sym same)

question_by : (x y z w : Option Json) (question : Question) → TextsIf x → TextsIf y → TextsIf z → TextsIf w → (p : Option Part) → part_in x ≡ p
    → (a : Option Part) → part_in y ≡ a → (r : Option Part) → part_in z ≡ r
    → (c : Option (Option Entries)) → option_map or_empty (if_there context_in w) ≡ c → question_with p a r c ≡ Some question
    → SpellsQuestion (four (part_written x) (part_written y) (part_written z) (fields_written w)) question
question_by x y z w question i j k l (Some p) e (Some a) f (Some r) g (Some c) h is =
    let principal = part_spelled x p i e in
    let action = part_spelled y a j f in
    let resource = part_spelled z r k g in
    let context = context_spelled w c l h in
    let entries = some_context (if_there context_in w) c h in
    let same : record { principal = Given principal.uid; action = Given action.uid; resource = Given resource.uid; context = entries.0 } ≡ question =
    (λ n. record { principal = sym principal.is n; action = sym action.is n; resource = sym resource.is n; context = unwrap_or (sym entries.1 n) NoContext })
    ∙ cc is
    in
    record {
      tree = record_of (parts principal.uid action.uid resource.uid context.tree);
      spells = λ names calls.
          parts_spelled names principal.uid action.uid resource.uid context.tree (part_written x) (part_written y) (part_written z) (fields_written w)
          (principal.spells names) (action.spells names) (resource.spells names) (context.spells names) calls;
      reads = body_read principal.uid action.uid resource.uid context.tree c context.entries entries.0 entries.1 ∙ ap Some same;
    }
question_by x y z w question i j k l None e a f r g c h is = absurd (cc is)
question_by x y z w question i j k l (Some p) e None f r g c h is = absurd (cc is)
question_by x y z w question i j k l (Some p) e (Some a) f None g c h is = absurd (cc is)
question_by x y z w question i j k l (Some p) e (Some a) f (Some r) g None h is = absurd (cc is)

object_by : (ms : Members) (question : Question) (b : Bool) → MembersAreTexts ms → cond b (asked_of ms) None ≡ Some question
    → SpellsQuestion (question_written ms) question
object_by ms question true a e =
    question_by (under (codes "principal") ms) (under (codes "action") ms) (under (codes "resource") ms) (under (codes "context") ms) question
    (under_texts (codes "principal") ms a) (under_texts (codes "action") ms a) (under_texts (codes "resource") ms a)
    (under_texts (codes "context") ms a) _ refl _ refl _ refl _ refl e
object_by ms question false a e = absurd (cc e)

abbrev IsBody : Text → Question → Type 0
IsBody text_ question = (t : Tree) × IsTextOf text_ t × (ask_body t ≡ Some question)

pub question_text : (j : Json) (question : Question) (bytes : Text) → AreTexts j → question_in j ≡ Some question → IsUtf8 bytes
    → encode_utf8_all (asks_written j) ≡ bytes → IsBody bytes question
question_text (object ms) question bytes a e u is =
    let asked = object_by ms question (only_under question_keys ms && are_distinct (keys ms)) a e in
    let reads : IsTextOf bytes asked.tree =
    λ names calls.
    let spelled = asked.spells names calls in
    let x = spelled.reads [] [] tt (none nothing) in (
      x.0,
      subst (λ cs. AreTokens cs x.0) (append-nil (question_written ms) ∙ chars_from_encodes (question_written ms) bytes u is) x.1,
      (x.2 (height asked.tree) (omega arith), spelled.slots),
    )
    in
    (asked.tree, reads, asked.reads)
question_text null question bytes a e u is = absurd (cc e)
question_text (boolean b) question bytes a e u is = absurd (cc e)
question_text (number s) question bytes a e u is = absurd (cc e)
question_text (string s) question bytes a e u is = absurd (cc e)
question_text (array js) question bytes a e u is = absurd (cc e)

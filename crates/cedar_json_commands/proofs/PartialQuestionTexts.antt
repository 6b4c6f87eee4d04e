-- What is written for a question with open parts is read as a body of this one.
use Rattle.std.proofs.Common.{◌≡◌, ℕ, Bool, true, false, cond, List, [], ◌∷◌, Option, Some, None, refl, sym, ap, ◌∙◌, subst}
use Rattle.std.specs.Prelude.{◌&&◌, codes, option_map, encode_utf8_all, IsUtf8}
use Rattle.json.specs.Find.{as_str}
use Rattle.json.specs.Json.{Json, null, boolean, number, string, array, object, Members, no_members, member}
use Rattle.json.specs.Strict.{keys}
use Rattle.cedar_language.specs.Uid.{Text, Name, Uid}
use Rattle.cedar_language.specs.Tree.{Tree, Lit, String, Entity}
use Rattle.cedar_grammar.specs.Build.{Keyed, record_of}
use Rattle.cedar_grammar.specs.Build as build
use Rattle.cedar_grammar.specs.Names.{Names, is_text, are_distinct}
use Rattle.cedar_world.specs.Asking.{Part, Given, Missing, Entries, Question}
use Rattle.cedar_world.specs.Bodies.{name_spelled, part_with, entries_of, question_with, ask_body}
use Rattle.cedar_json.specs.Entities.{under, only_under, if_there}
use Rattle.cedar_json.specs.EntitiesWritten.{fields_written}
use Rattle.cedar_json.specs.Parts.{part_written}
use Rattle.cedar_json.specs.Questions.{asked_in, context_in, or_empty, question_keys}
use Rattle.cedar_json.specs.Values.{IsTextOf}
use Rattle.cedar_json.specs.Written.{AreTexts, MembersAreTexts, quoted}
use Rattle.cedar_json.proofs.EntityTexts.{TextsIf, under_texts}
use Rattle.cedar_json.proofs.Literals.{Spells, string_spelled}
use Rattle.cedar_json.proofs.QuestionTexts.{asked_spelled, context_spelled, some_context}
use Rattle.cedar_json.proofs.ReadBack.{Calls}
use Rattle.cedar_json.proofs.Taken.{string_is}
use Rattle.cedar_json_commands.specs.PartialQuestions.{type_alone, typed_or_given, open_part, open_action, is_unknown, open_context, open_of, partial_question_in}
use Rattle.cedar_json_commands.specs.PartialQuestionsWritten.{given_written, typed_written, open_written, context_written, open_question_written, partial_question_written}
use Rattle.cedar_json_commands.proofs.Standing.{Stands, nothing_stands, literal_stands, tree_stands, four, braced_spelled, spelled_text}

-- ---- parts that are given

abbrev pub given : Text → Option Uid → List (Keyed Tree)
given key None = []
given key (Some u) = (key, Lit (Entity u)) ∷ []

given_by : (names : Names) (key : Text) (j : Json) (x : Option Uid) (o : Option Uid) → IsUtf8 key → AreTexts j → asked_in j ≡ o
    → option_map (λ u. Some u) o ≡ Some x → Stands names (given_written key (Some j)) (given key x)
given_by names key j x None v a f e = absurd (cc e)
given_by names key j x (Some u) v a f e =
    let same : Some u ≡ x = cc e in
    subst (λ y. Stands names (given_written key (Some j)) (given key y)) same (literal_stands names key _ (Entity u) v (asked_spelled names j u a f))

pub given_stands : (names : Names) (key : Text) (o : Option Json) (x : Option Uid) → IsUtf8 key → TextsIf o → if_there asked_in o ≡ Some x
    → Stands names (given_written key o) (given key x)
given_stands names key None x v a e = let same : None ≡ x = cc e in subst (λ y. Stands names [] (given key y)) same (nothing_stands names)
given_stands names key (Some j) x v a e = given_by names key j x (asked_in j) v a refl e

-- ---- principals and resources

-- how one stands: not at all, by its type, or given
data Stated : Type 0 where
  left_out : Stated
  typed : Text → Stated
  named : Uid → Stated

abbrev stated : Text → Text → Stated → List (Keyed Tree)
stated key type_key left_out = []
stated key type_key (typed s) = (type_key, Lit (String s)) ∷ []
stated key type_key (named u) = (key, Lit (Entity u)) ∷ []

abbrev says : Stated → Option Part
says left_out = Some (Missing None)
says (typed s) = part_with (Some None) (option_map (λ p. Some p) (name_spelled s))
says (named u) = Some (Given u)

record SpellsOpen (cs : List ℕ) (key type_key : Text) (p : Part) : Type 0 where
  pub how : Stated
  pub stands : (names : Names) → Stands names cs (stated key type_key how)
  pub is : says how ≡ Some p

string_text : (j : Json) (s : Text) → AreTexts j → as_str j ≡ Some s → IsUtf8 s
string_text j s a e = subst AreTexts (string_is j s e) a

-- the string of an object of a type alone
type_text : (j : Json) (s : Text) → AreTexts j → type_alone j ≡ Some s → IsUtf8 s
type_text (object (member k j no_members)) s a e = by (is_text k (codes "type")) e
  where
    by : (b : Bool) → cond b (as_str j) None ≡ Some s → IsUtf8 s
    by true f = string_text j s a.1 f
    by false f = absurd (cc f)
type_text (object no_members) s a e = absurd (cc e)
type_text (object (member k j (member l i ms))) s a e = absurd (cc e)
type_text null s a e = absurd (cc e)
type_text (boolean b) s a e = absurd (cc e)
type_text (number t) s a e = absurd (cc e)
type_text (string t) s a e = absurd (cc e)
type_text (array js) s a e = absurd (cc e)

typed_is : (o : Option Name) (p : Part) → option_map (λ type. Missing (Some type)) o ≡ Some p
    → part_with (Some None) (option_map (λ type. Some type) o) ≡ Some p
typed_is (Some type) p e = e
typed_is None p e = absurd (cc e)

named_by : (key type_key : Text) (j : Json) (p : Part) (o : Option Uid) → IsUtf8 key → AreTexts j → asked_in j ≡ o → option_map Given o ≡ Some p
    → SpellsOpen (typed_written key type_key None j) key type_key p
named_by key type_key j p None v a f e = absurd (cc e)
named_by key type_key j p (Some u) v a f e =
    record { how = named u; stands = λ names. literal_stands names key _ (Entity u) v (asked_spelled names j u a f); is = e }

typed_by : (key type_key : Text) (j : Json) (p : Part) (o : Option Text) → IsUtf8 key → IsUtf8 type_key → AreTexts j → type_alone j ≡ o
    → typed_or_given o j ≡ Some p → SpellsOpen (typed_written key type_key o j) key type_key p
typed_by key type_key j p None v w a f e = named_by key type_key j p (asked_in j) v a refl e
typed_by key type_key j p (Some s) v w a f e =
    record {
      how = typed s;
      stands = λ names. literal_stands names type_key (quoted s) (String s) w (string_spelled names s (type_text j s a f));
      is = typed_is (name_spelled s) p e;
    }

open_spelled : (key type_key : Text) (o : Option Json) (p : Part) → IsUtf8 key → IsUtf8 type_key → TextsIf o → open_part o ≡ Some p
    → SpellsOpen (open_written key type_key o) key type_key p
open_spelled key type_key None p v w a e = record { how = left_out; stands = λ names. nothing_stands names; is = e }
open_spelled key type_key (Some j) p v w a e = typed_by key type_key j p (type_alone j) v w a refl e

-- ---- actions

abbrev action_says : Option Uid → Option Part
action_says None = Some (Missing None)
action_says (Some u) = Some (Given u)

record SpellsAction (cs : List ℕ) (p : Part) : Type 0 where
  pub uid : Option Uid
  pub stands : (names : Names) → Stands names cs (given (codes "action") uid)
  pub is : action_says uid ≡ Some p

action_by : (j : Json) (p : Part) (o : Option Uid) → IsUtf8 (codes "action") → AreTexts j → asked_in j ≡ o → option_map Given o ≡ Some p
    → SpellsAction (given_written (codes "action") (Some j)) p
action_by j p None v a f e = absurd (cc e)
action_by j p (Some u) v a f e =
    record { uid = Some u; stands = λ names. given_by names (codes "action") j (Some u) (Some u) v a f refl; is = e }

action_spelled : (o : Option Json) (p : Part) → IsUtf8 (codes "action") → TextsIf o → open_action o ≡ Some p
    → SpellsAction (given_written (codes "action") o) p
action_spelled None p v a e = record { uid = None; stands = λ names. nothing_stands names; is = e }
action_spelled (Some j) p v a e = action_by j p (asked_in j) v a refl e

-- ---- contexts

abbrev context_entries : Option Tree → List (Keyed Tree)
context_entries None = []
context_entries (Some t) = (codes "context", t) ∷ []

abbrev context_says : Option Tree → Option (Option Entries)
context_says None = Some None
context_says (Some t) = option_map (λ e. Some e) (entries_of t)

record SpellsOpenContext (cs : List ℕ) (q : Option Entries) : Type 0 where
  pub tree : Option Tree
  pub stands : (names : Names) → Stands names cs (context_entries tree)
  pub is : context_says tree ≡ Some q

open_context_by : (o : Option Json) (q : Option Entries) (b : Bool) → IsUtf8 (codes "context") → TextsIf o
    → cond b (Some None) (option_map or_empty (if_there context_in o)) ≡ Some q
    → SpellsOpenContext (cond b [] (part_written (codes "context") (fields_written o))) q
open_context_by o q true v a e = record { tree = None; stands = λ names. nothing_stands names; is = e }
open_context_by o q false v a e =
    let context = context_spelled o q a e in
    let entries = some_context (if_there context_in o) q e in
    let read : entries_of context.tree ≡ Some entries.0 = cc (context.entries, entries.1) in
    record {
      tree = Some context.tree;
      stands = λ names. tree_stands names (codes "context") _ context.tree v (context.spells names);
      is = ap (option_map (λ x. Some x)) read ∙ ap Some (sym entries.1);
    }

open_context_spelled : (o : Option Json) (q : Option Entries) → IsUtf8 (codes "context") → TextsIf o → open_context o ≡ Some q
    → SpellsOpenContext (context_written o) q
open_context_spelled o q v a e = open_context_by o q (is_unknown o) v a e

-- ---- the question

-- the parts of a question that is made
pub record QuestionParts (a b c : Option Part) (d : Option (Option Entries)) (question : Question) : Type 0 where
  pub principal : Part
  pub principal_is : a ≡ Some principal
  pub action : Part
  pub action_is : b ≡ Some action
  pub resource : Part
  pub resource_is : c ≡ Some resource
  pub context : Option Entries
  pub context_is : d ≡ Some context
  pub is : question_with (Some principal) (Some action) (Some resource) (Some context) ≡ Some question

pub question_parts : (a b c : Option Part) (d : Option (Option Entries)) (question : Question) → question_with a b c d ≡ Some question
    → QuestionParts a b c d question
question_parts (Some p) (Some a) (Some r) (Some c) question e =
    record { principal = p; principal_is = refl; action = a; action_is = refl; resource = r; resource_is = refl; context = c; context_is = refl; is = e }
question_parts None a r c question e = absurd (cc e)
question_parts (Some p) None r c question e = absurd (cc e)
question_parts (Some p) (Some a) None c question e = absurd (cc e)
question_parts (Some p) (Some a) (Some r) None question e = absurd (cc e)

abbrev entries_of_all : Stated → Option Uid → Stated → Option Tree → List (Keyed Tree)
entries_of_all p a r c = four (stated (codes "principal") (codes "principal_type") p) (given (codes "action") a)
    (stated (codes "resource") (codes "resource_type") r) (context_entries c)

-- the record of the parts that stand is read as their question, and has no key twice
record IsAsked (p : Stated) (a : Option Uid) (r : Stated) (c : Option Tree) : Type 0 where
  pub read : ask_body (record_of (entries_of_all p a r c)) ≡ question_with (says p) (action_says a) (says r) (context_says c)
  pub distinct : are_distinct (build.keys (entries_of_all p a r c)) ≡ true

are_asked : (p : Stated) (a : Option Uid) (r : Stated) (c : Option Tree) → IsAsked p a r c
are_asked left_out None left_out None = record { read = refl; distinct = refl }
are_asked left_out None left_out (Some c) = record { read = refl; distinct = refl }
are_asked left_out None (typed t) None = record { read = refl; distinct = refl }
are_asked left_out None (typed t) (Some c) = record { read = refl; distinct = refl }
are_asked left_out None (named w) None = record { read = refl; distinct = refl }
are_asked left_out None (named w) (Some c) = record { read = refl; distinct = refl }
are_asked left_out (Some v) left_out None = record { read = refl; distinct = refl }
are_asked left_out (Some v) left_out (Some c) = record { read = refl; distinct = refl }
are_asked left_out (Some v) (typed t) None = record { read = refl; distinct = refl }
are_asked left_out (Some v) (typed t) (Some c) = record { read = refl; distinct = refl }
are_asked left_out (Some v) (named w) None = record { read = refl; distinct = refl }
are_asked left_out (Some v) (named w) (Some c) = record { read = refl; distinct = refl }
are_asked (typed s) None left_out None = record { read = refl; distinct = refl }
are_asked (typed s) None left_out (Some c) = record { read = refl; distinct = refl }
are_asked (typed s) None (typed t) None = record { read = refl; distinct = refl }
are_asked (typed s) None (typed t) (Some c) = record { read = refl; distinct = refl }
are_asked (typed s) None (named w) None = record { read = refl; distinct = refl }
are_asked (typed s) None (named w) (Some c) = record { read = refl; distinct = refl }
are_asked (typed s) (Some v) left_out None = record { read = refl; distinct = refl }
are_asked (typed s) (Some v) left_out (Some c) = record { read = refl; distinct = refl }
are_asked (typed s) (Some v) (typed t) None = record { read = refl; distinct = refl }
are_asked (typed s) (Some v) (typed t) (Some c) = record { read = refl; distinct = refl }
are_asked (typed s) (Some v) (named w) None = record { read = refl; distinct = refl }
are_asked (typed s) (Some v) (named w) (Some c) = record { read = refl; distinct = refl }
are_asked (named u) None left_out None = record { read = refl; distinct = refl }
are_asked (named u) None left_out (Some c) = record { read = refl; distinct = refl }
are_asked (named u) None (typed t) None = record { read = refl; distinct = refl }
are_asked (named u) None (typed t) (Some c) = record { read = refl; distinct = refl }
are_asked (named u) None (named w) None = record { read = refl; distinct = refl }
are_asked (named u) None (named w) (Some c) = record { read = refl; distinct = refl }
are_asked (named u) (Some v) left_out None = record { read = refl; distinct = refl }
are_asked (named u) (Some v) left_out (Some c) = record { read = refl; distinct = refl }
are_asked (named u) (Some v) (typed t) None = record { read = refl; distinct = refl }
are_asked (named u) (Some v) (typed t) (Some c) = record { read = refl; distinct = refl }
are_asked (named u) (Some v) (named w) None = record { read = refl; distinct = refl }
are_asked (named u) (Some v) (named w) (Some c) = record { read = refl; distinct = refl }

principal_utf8 : IsUtf8 (codes "principal")
unfolding lib.Utf8.encode
principal_utf8 = (codes "principal", (refl, refl))

principal_type_utf8 : IsUtf8 (codes "principal_type")
unfolding lib.Utf8.encode
principal_type_utf8 = (codes "principal_type", (refl, refl))

action_utf8 : IsUtf8 (codes "action")
unfolding lib.Utf8.encode
action_utf8 = (codes "action", (refl, refl))

resource_utf8 : IsUtf8 (codes "resource")
unfolding lib.Utf8.encode
resource_utf8 = (codes "resource", (refl, refl))

resource_type_utf8 : IsUtf8 (codes "resource_type")
unfolding lib.Utf8.encode
resource_type_utf8 = (codes "resource_type", (refl, refl))

context_utf8 : IsUtf8 (codes "context")
unfolding lib.Utf8.encode
context_utf8 = (codes "context", (refl, refl))

record SpellsQuestion (cs : List ℕ) (question : Question) : Type 0 where
  pub tree : Tree
  pub spells : (names : Names) → Calls names tree → Spells names cs tree
  pub reads : ask_body tree ≡ Some question

members_spelled : (ms : Members) (question : Question) → MembersAreTexts ms → open_of ms ≡ Some question → SpellsQuestion (open_question_written ms) question
members_spelled ms question a e =
    let texts : (key : Text) → TextsIf (under key ms) = λ key. under_texts key ms a in
    let parts = question_parts (open_part (under (codes "principal") ms)) (open_action (under (codes "action") ms)) (open_part (under (codes "resource") ms))
    (open_context (under (codes "context") ms)) question e
    in
    let p = open_spelled (codes "principal") (codes "principal_type") (under (codes "principal") ms) parts.principal principal_utf8 principal_type_utf8
    (texts (codes "principal")) parts.principal_is
    in
    let x = action_spelled (under (codes "action") ms) parts.action action_utf8 (texts (codes "action")) parts.action_is in
    let r = open_spelled (codes "resource") (codes "resource_type") (under (codes "resource") ms) parts.resource resource_utf8 resource_type_utf8
    (texts (codes "resource")) parts.resource_is
    in
    let c = open_context_spelled (under (codes "context") ms) parts.context context_utf8 (texts (codes "context")) parts.context_is in
    let asked = are_asked p.how x.uid r.how c.tree in
    record {
      tree = record_of (entries_of_all p.how x.uid r.how c.tree);
      spells = λ names calls. braced_spelled names (open_written (codes "principal") (codes "principal_type") (under (codes "principal") ms))
          (given_written (codes "action") (under (codes "action") ms)) (open_written (codes "resource") (codes "resource_type") (under (codes "resource") ms))
          (context_written (under (codes "context") ms)) (stated (codes "principal") (codes "principal_type") p.how) (given (codes "action") x.uid)
          (stated (codes "resource") (codes "resource_type") r.how) (context_entries c.tree) (p.stands names) (x.stands names) (r.stands names) (c.stands names) asked.distinct calls;
      reads = asked.read ∙ (λ i. question_with (p.is i) (x.is i) (r.is i) (c.is i)) ∙ parts.is;
    }

object_spelled : (ms : Members) (question : Question) (b : Bool) → MembersAreTexts ms → cond b (open_of ms) None ≡ Some question
    → SpellsQuestion (open_question_written ms) question
object_spelled ms question true a e = members_spelled ms question a e
object_spelled ms question false a e = absurd (cc e)

pub partial_question_text : (j : Json) (question : Question) (bytes : Text) → AreTexts j → partial_question_in j ≡ Some question → IsUtf8 bytes
    → encode_utf8_all (partial_question_written j) ≡ bytes → (t : Tree) × IsTextOf bytes t × (ask_body t ≡ Some question)
partial_question_text (object ms) question bytes a e u is =
    let asked = object_spelled ms question (only_under question_keys ms && are_distinct (keys ms)) a e in
    (asked.tree, spelled_text (open_question_written ms) asked.tree bytes asked.spells u is, asked.reads)
partial_question_text null question bytes a e u is = absurd (cc e)
partial_question_text (boolean b) question bytes a e u is = absurd (cc e)
partial_question_text (number s) question bytes a e u is = absurd (cc e)
partial_question_text (string s) question bytes a e u is = absurd (cc e)
partial_question_text (array js) question bytes a e u is = absurd (cc e)

-- What is written for a link is read as a body of this one.
use Rattle.std.proofs.Common.{◌≡◌, ℕ, Bool, true, false, cond, List, [], ◌∷◌, Option, Some, None, refl, sym, ◌∙◌, subst}
use Rattle.std.specs.Prelude.{◌&&◌, codes, encode_utf8_all, IsUtf8}
use Rattle.json.specs.Find.{as_str}
use Rattle.json.specs.Json.{Json, null, boolean, number, string, array, object, Members}
use Rattle.json.specs.Strict.{keys}
use Rattle.cedar_language.specs.Uid.{Text, Uid}
use Rattle.cedar_language.specs.Tree.{Tree, Lit, String}
use Rattle.cedar_grammar.specs.Build.{Keyed, record_of}
use Rattle.cedar_grammar.specs.Build as build
use Rattle.cedar_grammar.specs.Names.{Names, are_distinct}
use Rattle.cedar_world.specs.Bodies.{and_then, LinkBody, link_with, link_body}
use Rattle.cedar_json.specs.Entities.{under, only_under, if_there}
use Rattle.cedar_json.specs.Parts.{part_written}
use Rattle.cedar_json.specs.Questions.{asked_in}
use Rattle.cedar_json.specs.Values.{IsTextOf}
use Rattle.cedar_json.specs.Written.{AreTexts, MembersAreTexts, quoted}
use Rattle.cedar_json.proofs.EntityTexts.{TextsIf, under_texts}
use Rattle.cedar_json.proofs.Literals.{Spells, string_spelled}
use Rattle.cedar_json.proofs.ReadBack.{Calls}
use Rattle.cedar_json.proofs.Taken.{string_is}
use Rattle.cedar_json_commands.specs.Links.{slot_keys, link_by, with_slots, link_under, file_keys, call_keys, link_of_members, link_in}
use Rattle.cedar_json_commands.specs.LinksWritten.{string_part, members_of, link_by_written, link_under_written, link_of_members_written, link_written}
use Rattle.cedar_json_commands.specs.Others.{string_written}
use Rattle.cedar_json_commands.specs.PartialQuestionsWritten.{given_written}
use Rattle.cedar_json_commands.proofs.PartialQuestionTexts.{given, given_stands}
use Rattle.cedar_json_commands.proofs.Standing.{Stands, literal_stands, four, braced_spelled, spelled_text}

-- ---- what a link is made of

pub record LinkParts (a b : Option Text) (c d : Option (Option Uid)) (link : LinkBody) : Type 0 where
  pub template : Text
  pub template_is : a ≡ Some template
  pub id : Text
  pub id_is : b ≡ Some id
  pub principal : Option Uid
  pub principal_is : c ≡ Some principal
  pub resource : Option Uid
  pub resource_is : d ≡ Some resource
  pub is : link_with (Some template) (Some id) (Some principal) (Some resource) ≡ Some link

pub link_parts : (a b : Option Text) (c d : Option (Option Uid)) (link : LinkBody) → link_with a b c d ≡ Some link → LinkParts a b c d link
link_parts (Some t) (Some i) (Some p) (Some r) link e =
    record { template = t; template_is = refl; id = i; id_is = refl; principal = p; principal_is = refl; resource = r; resource_is = refl; is = e }
link_parts None i p r link e = absurd (cc e)
link_parts (Some t) None p r link e = absurd (cc e)
link_parts (Some t) (Some i) None r link e = absurd (cc e)
link_parts (Some t) (Some i) (Some p) None link e = absurd (cc e)

-- the slots are an object
pub record SlotsRead (a b : Option Text) (o : Option Json) (link : LinkBody) : Type 0 where
  pub slots : Members
  pub is : o ≡ Some (object slots)
  pub apart : (only_under slot_keys slots && are_distinct (keys slots)) ≡ true
  pub made : link_by a b slots ≡ Some link

pub slots_read : (a b : Option Text) (o : Option Json) (link : LinkBody) → with_slots a b o ≡ Some link → SlotsRead a b o link
slots_read a b (Some (object slots)) link e = by (only_under slot_keys slots && are_distinct (keys slots)) refl e
  where
    by : (w : Bool) → (only_under slot_keys slots && are_distinct (keys slots)) ≡ w → cond w (link_by a b slots) None ≡ Some link
        → SlotsRead a b (Some (object slots)) link
    by true f g = record { slots = slots; is = refl; apart = f; made = g }
    by false f g = absurd (cc g)
slots_read a b None link e = absurd (cc e)
slots_read a b (Some null) link e = absurd (cc e)
slots_read a b (Some (boolean w)) link e = absurd (cc e)
slots_read a b (Some (number s)) link e = absurd (cc e)
slots_read a b (Some (string s)) link e = absurd (cc e)
slots_read a b (Some (array js)) link e = absurd (cc e)

-- ---- its record

abbrev entries_of_all : Text → Text → Option Uid → Option Uid → List (Keyed Tree)
entries_of_all t i p r =
    four ((codes "template", Lit (String t)) ∷ []) ((codes "id", Lit (String i)) ∷ []) (given (codes "principal") p) (given (codes "resource") r)

record IsLinked (t i : Text) (p r : Option Uid) : Type 0 where
  pub read : link_body (record_of (entries_of_all t i p r)) ≡ link_with (Some t) (Some i) (Some p) (Some r)
  pub distinct : are_distinct (build.keys (entries_of_all t i p r)) ≡ true

are_linked : (t i : Text) (p r : Option Uid) → IsLinked t i p r
are_linked t i None None = record { read = refl; distinct = refl }
are_linked t i None (Some r) = record { read = refl; distinct = refl }
are_linked t i (Some p) None = record { read = refl; distinct = refl }
are_linked t i (Some p) (Some r) = record { read = refl; distinct = refl }

-- a string under a key
string_stands : (names : Names) (key : Text) (o : Option Json) (s : Text) → IsUtf8 key → TextsIf o → and_then o as_str ≡ Some s
    → Stands names (part_written key (string_part o)) ((key, Lit (String s)) ∷ [])
string_stands names key None s v a e = absurd (cc e)
string_stands names key (Some j) s v a e =
    let is = string_is j s e in
    subst (λ i. Stands names (part_written key (string_written i)) ((key, Lit (String s)) ∷ [])) (sym is)
    (literal_stands names key (quoted s) (String s) v (string_spelled names s (subst AreTexts is a)))

template_utf8 : IsUtf8 (codes "template")
unfolding lib.Utf8.encode
template_utf8 = (codes "template", (refl, refl))

id_utf8 : IsUtf8 (codes "id")
unfolding lib.Utf8.encode
id_utf8 = (codes "id", (refl, refl))

principal_utf8 : IsUtf8 (codes "principal")
unfolding lib.Utf8.encode
principal_utf8 = (codes "principal", (refl, refl))

resource_utf8 : IsUtf8 (codes "resource")
unfolding lib.Utf8.encode
resource_utf8 = (codes "resource", (refl, refl))

record SpellsLink (cs : List ℕ) (link : LinkBody) : Type 0 where
  pub tree : Tree
  pub spells : (names : Names) → Calls names tree → Spells names cs tree
  pub reads : link_body tree ≡ Some link

by_spelled : (x y : Option Json) (slots : Members) (link : LinkBody) → TextsIf x → TextsIf y → MembersAreTexts slots
    → link_by (and_then x as_str) (and_then y as_str) slots ≡ Some link → SpellsLink (link_by_written x y slots) link
by_spelled x y slots link a b c e =
    let p = under (codes "?principal") slots in
    let r = under (codes "?resource") slots in
    let parts = link_parts (and_then x as_str) (and_then y as_str) (if_there asked_in p) (if_there asked_in r) link e in
    let linked = are_linked parts.template parts.id parts.principal parts.resource in
    record {
      tree = record_of (entries_of_all parts.template parts.id parts.principal parts.resource);
      spells = λ names calls.
          braced_spelled names (part_written (codes "template") (string_part x)) (part_written (codes "id") (string_part y)) (given_written (codes "principal") p)
          (given_written (codes "resource") r) ((codes "template", Lit (String parts.template)) ∷ []) ((codes "id", Lit (String parts.id)) ∷ [])
          (given (codes "principal") parts.principal) (given (codes "resource") parts.resource) (string_stands names (codes "template") x parts.template template_utf8 a parts.template_is)
          (string_stands names (codes "id") y parts.id id_utf8 b parts.id_is)
          (given_stands names (codes "principal") p parts.principal principal_utf8 (under_texts (codes "?principal") slots c) parts.principal_is)
          (given_stands names (codes "resource") r parts.resource resource_utf8 (under_texts (codes "?resource") slots c) parts.resource_is)
          linked.distinct calls;
      reads = linked.read ∙ parts.is;
    }

-- ---- by its keys

under_spelled : (template id slots : Text) (ms : Members) (link : LinkBody) → MembersAreTexts ms → link_under template id slots ms ≡ Some link
    → SpellsLink (link_under_written template id slots ms) link
under_spelled template id slots ms link a e =
    let read = slots_read (and_then (under template ms) as_str) (and_then (under id ms) as_str) (under slots ms) link e in
    let spelled = by_spelled (under template ms) (under id ms) read.slots link (under_texts template ms a) (under_texts id ms a)
    (subst TextsIf read.is (under_texts slots ms a)) read.made
    in
    subst (λ o. SpellsLink (link_by_written (under template ms) (under id ms) (members_of o)) link) (sym read.is) spelled

members_spelled : (ms : Members) (link : LinkBody) (b c : Bool) → MembersAreTexts ms
    → cond b (link_under (codes "template_id") (codes "link_id") (codes "args") ms)
    (cond c (link_under (codes "templateId") (codes "newId") (codes "values") ms) None) ≡ Some link
    → SpellsLink (cond b (link_under_written (codes "template_id") (codes "link_id") (codes "args") ms)
    (link_under_written (codes "templateId") (codes "newId") (codes "values") ms)) link
members_spelled ms link true c a e = under_spelled (codes "template_id") (codes "link_id") (codes "args") ms link a e
members_spelled ms link false true a e = under_spelled (codes "templateId") (codes "newId") (codes "values") ms link a e
members_spelled ms link false false a e = absurd (cc e)

object_spelled : (ms : Members) (link : LinkBody) (b : Bool) → MembersAreTexts ms → cond b (link_of_members ms) None ≡ Some link
    → SpellsLink (link_of_members_written ms) link
object_spelled ms link true a e = members_spelled ms link (only_under file_keys ms) (only_under call_keys ms) a e
object_spelled ms link false a e = absurd (cc e)

pub link_text : (j : Json) (link : LinkBody) (bytes : Text) → AreTexts j → link_in j ≡ Some link → IsUtf8 bytes
    → encode_utf8_all (link_written j) ≡ bytes → (t : Tree) × IsTextOf bytes t × (link_body t ≡ Some link)
link_text (object ms) link bytes a e u is =
    let linked = object_spelled ms link (are_distinct (keys ms)) a e in
    (linked.tree, spelled_text (link_of_members_written ms) linked.tree bytes linked.spells u is, linked.reads)
link_text null link bytes a e u is = absurd (cc e)
link_text (boolean b) link bytes a e u is = absurd (cc e)
link_text (number s) link bytes a e u is = absurd (cc e)
link_text (string s) link bytes a e u is = absurd (cc e)
link_text (array js) link bytes a e u is = absurd (cc e)

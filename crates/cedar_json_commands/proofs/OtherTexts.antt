-- What is written for values that are told, for an id and for entities is read as a body of these.
use Rattle.std.proofs.Common.{◌≡◌, List, Some, refl, sym, ap, ◌∙◌, subst}
use Rattle.std.specs.Prelude.{encode_utf8_all, IsUtf8}
use Rattle.json.specs.Find.{as_str}
use Rattle.json.specs.Json.{Json, null, boolean, number, string, array, object}
use Rattle.cedar_language.specs.Uid.{Text, Uid}
use Rattle.cedar_language.specs.Tree.{Tree, Lit, String, Apply, MakeSet}
use Rattle.cedar_grammar.specs.Build.{trees}
use Rattle.cedar_world.specs.Bodies.{and_then, Fields, named_fields, string_of, uids_of, tell_body}
use Rattle.cedar_json.specs.Entities.{fields_in, parents_in}
use Rattle.cedar_json.specs.EntitiesWritten.{each_written, parents_written}
use Rattle.cedar_json.specs.Values.{datum, IsTextOf}
use Rattle.cedar_json.specs.Written.{AreTexts, written, quoted}
use Rattle.cedar_json.proofs.EntityTexts.{literals, each_spelled, uids_read}
use Rattle.cedar_json.proofs.Keys.{then_is}
use Rattle.cedar_json.proofs.Literals.{string_spelled}
use Rattle.cedar_json.proofs.ReadBack.{list_spelled, text_of}
use Rattle.cedar_json.proofs.Taken.{string_is}
use Rattle.cedar_json_commands.specs.Others.{string_written}
use Rattle.cedar_json_commands.proofs.Standing.{spelled_text}

pub tell_text : (j : Json) (fs : Fields) (bytes : Text) → AreTexts j → fields_in j ≡ Some fs → IsUtf8 bytes → encode_utf8_all (written j) ≡ bytes
    → (t : Tree) × IsTextOf bytes t × (tell_body t ≡ Some fs)
tell_text j fs bytes a e u is =
    let x = then_is (datum j) named_fields fs e in (x.0, text_of j x.0 bytes a x.1 u is, ap (λ o. and_then o named_fields) (sym x.1) ∙ e)

pub id_text : (j : Json) (s : Text) (bytes : Text) → AreTexts j → as_str j ≡ Some s → IsUtf8 bytes → encode_utf8_all (string_written j) ≡ bytes
    → (t : Tree) × IsTextOf bytes t × (string_of t ≡ Some s)
id_text j s bytes a e u is =
    let same = string_is j s e in (
      Lit (String s),
      spelled_text (quoted s) (Lit (String s)) bytes (λ names calls. string_spelled names s (subst AreTexts same a)) u
          (ap (λ i. encode_utf8_all (string_written i)) (sym same) ∙ is),
      refl,
    )

pub named_entities_text : (j : Json) (us : List Uid) (bytes : Text) → AreTexts j → parents_in j ≡ Some us → IsUtf8 bytes
    → encode_utf8_all (parents_written (Some j)) ≡ bytes → (t : Tree) × IsTextOf bytes t × (uids_of t ≡ Some us)
named_entities_text (array js) us bytes a e u is = (
  Apply MakeSet (trees (literals us)),
  spelled_text (parents_written (Some (array js))) (Apply MakeSet (trees (literals us))) bytes
      (λ names calls. list_spelled names (each_written js) (literals us) (each_spelled names js us a e)) u is,
  uids_read us,
)
named_entities_text null us bytes a e u is = absurd (cc e)
named_entities_text (boolean b) us bytes a e u is = absurd (cc e)
named_entities_text (number s) us bytes a e u is = absurd (cc e)
named_entities_text (string s) us bytes a e u is = absurd (cc e)
named_entities_text (object ms) us bytes a e u is = absurd (cc e)

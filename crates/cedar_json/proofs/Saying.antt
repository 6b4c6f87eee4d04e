-- What is read is said, and where nothing is read nothing is said.
use Rattle.std.proofs.Common.{◌≡◌, ℕ, true, false, Option, Some, None, is_some, Result, Ok, Err, List, [], ◌++◌, refl, sym, ap, ◌∙◌, subst}
use Rattle.std.specs.Prelude.{encode_utf8_all, IsUtf8, IsSomeAnd, IfOk, IfErr}
use Rattle.json.specs.Json.{Json, document}
use Rattle.json.specs.Strict.{HasUniqueKeys}
use Rattle.cedar_language.specs.Uid.{Text}
use Rattle.cedar_world.specs.Bodies.{and_then}
use Rattle.cedar_json.specs.declared.reading.Unread.{Unread}
use Rattle.cedar_json.specs.declared.reading.Unread.TheVariants as unread
use Rattle.cedar_json.specs.Entities.{entities_in, entities_of}
use Rattle.cedar_json.specs.EntitiesWritten.{entities_written}
use Rattle.cedar_json.specs.Questions.{question_in, question_of}
use Rattle.cedar_json.specs.QuestionsWritten.{asks_written}
use Rattle.cedar_json.specs.Said.{SaysEntities, SaysQuestion, IsUnsaid, IsUnparsed, OfEachText}
use Rattle.cedar_json.specs.Values.{datum, value_of, Says}
use Rattle.cedar_json.specs.Written.{AreTexts, written}
use Rattle.cedar_json.proofs.EntityTexts.{entities_text}
use Rattle.cedar_json.proofs.Keys.{datum_unique}
use Rattle.cedar_json.proofs.QuestionTexts.{question_text}
use Rattle.cedar_json.proofs.ReadBack.{text_of}
use Rattle.cedar_json.proofs.Unique.{entities_unique, question_unique, nothing_said}

pub some_is : {A : Type 0} → (o : Option A) → is_some o ≡ true → (a : A) × (o ≡ Some a)
some_is (Some a) e = (a, refl)
some_is None e = absurd (cc e)

pub none_is : {A : Type 0} → (o : Option A) → is_some o ≡ false → o ≡ None
none_is (Some a) e = absurd (cc e)
none_is None e = refl

-- ---- texts of one value

module _ {A E : Type 0} where
  pub ok_of_text : (Is : A → Text → Type 0) (r : Result A E) (json : Text) (j : Json) → document json ≡ Some j → IfOk r (λ a. OfEachText j (Is a))
      → IfOk r (λ a. Is a json)
  ok_of_text Is (Ok a) json j d each = each json d
  ok_of_text Is (Err e) json j d each = tt

  pub err_of_text : (Is : E → Text → Type 0) (r : Result A E) (json : Text) (j : Json) → document json ≡ Some j → IfErr r (λ e. OfEachText j (Is e))
      → IfErr r (λ e. Is e json)
  err_of_text Is (Ok a) json j d each = tt
  err_of_text Is (Err e) json j d each = each json d

-- ---- what is written

abbrev IsText : List ℕ → List ℕ → List ℕ → Type 0
IsText old new cs = (old ≡ []) × (new ≡ old ++ encode_utf8_all cs)

bytes_are : (old new cs : List ℕ) → IsText old new cs → encode_utf8_all cs ≡ new
bytes_are old new cs (e, f) = sym (f ∙ ap (λ s. s ++ encode_utf8_all cs) e)

-- ---- values

pub value_said : (json old new : Text) (j : Json) → document json ≡ Some j → is_some (datum j) ≡ true → AreTexts j → IsUtf8 new → IsText old new (written j)
    → Says json new
value_said json old new j d some texts utf8 is =
    let t = some_is (datum j) some in (t.0, ap (λ o. and_then o datum) d ∙ t.1, text_of j t.0 new texts t.1 utf8 (bytes_are old new (written j) is))

pub value_unsaid : (json : Text) (j : Json) → document json ≡ Some j → is_some (datum j) ≡ false → value_of json ≡ None
value_unsaid json j d none = ap (λ o. and_then o datum) d ∙ none_is (datum j) none

pub value_unparsed : (json : Text) (e : Unread) → IsUnparsed json e → IsUnsaid (value_of json) e
value_unparsed json unread.Memory h = tt
value_unparsed json unread.Unsaid h = nothing_said datum datum_unique json h

-- ---- entities

pub entities_said : (json old new : Text) (j : Json) → document json ≡ Some j → is_some (entities_in j) ≡ true → AreTexts j → IsUtf8 new
    → IsText old new (entities_written j) → SaysEntities json new
entities_said json old new j d some texts utf8 is =
    let es = some_is (entities_in j) some in
    let body = entities_text j es.0 new texts es.1 utf8 (bytes_are old new (entities_written j) is) in
    (es.0, ap (λ o. and_then o entities_in) d ∙ es.1, body.0, body.1, body.2)

pub entities_unsaid : (json : Text) (j : Json) → document json ≡ Some j → is_some (entities_in j) ≡ false → entities_of json ≡ None
entities_unsaid json j d none = ap (λ o. and_then o entities_in) d ∙ none_is (entities_in j) none

pub entities_unparsed : (json : Text) (e : Unread) → IsUnparsed json e → IsUnsaid (entities_of json) e
entities_unparsed json unread.Memory h = tt
entities_unparsed json unread.Unsaid h = nothing_said entities_in entities_unique json h

-- ---- questions

pub question_said : (json old new : Text) (j : Json) → document json ≡ Some j → is_some (question_in j) ≡ true → AreTexts j → IsUtf8 new
    → IsText old new (asks_written j) → SaysQuestion json new
question_said json old new j d some texts utf8 is =
    let q = some_is (question_in j) some in
    let body = question_text j q.0 new texts q.1 utf8 (bytes_are old new (asks_written j) is) in
    (q.0, ap (λ o. and_then o question_in) d ∙ q.1, body.0, body.1, body.2)

pub question_unsaid : (json : Text) (j : Json) → document json ≡ Some j → is_some (question_in j) ≡ false → question_of json ≡ None
question_unsaid json j d none = ap (λ o. and_then o question_in) d ∙ none_is (question_in j) none

pub question_unparsed : (json : Text) (e : Unread) → IsUnparsed json e → IsUnsaid (question_of json) e
question_unparsed json unread.Memory h = tt
question_unparsed json unread.Unsaid h = nothing_said question_in question_unique json h

-- ---- keys that come twice

pub not_unique : (json : Text) → IsSomeAnd (document json) (λ j. ¬ HasUniqueKeys j) → (j : Json) → document json ≡ Some j → ¬ HasUniqueKeys j
not_unique json h j e = by (document json) h e
  where
    by : (o : Option Json) → IsSomeAnd o (λ i. ¬ HasUniqueKeys i) → o ≡ Some j → ¬ HasUniqueKeys j
    by (Some i) n f = let same : i ≡ j = cc f in subst (λ k. ¬ HasUniqueKeys k) same n
    by None n f = absurd (cc f)

pub no_document : (json : Text) → document json ≡ None → (j : Json) → document json ≡ Some j → ¬ HasUniqueKeys j
no_document json none j e = absurd (cc (none, e))

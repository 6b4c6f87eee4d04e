-- What is read is said, and where nothing is read nothing is said.
use Rattle.std.proofs.Common.{◌≡◌, ℕ, true, false, Option, Some, None, is_some, List, [], ◌++◌, sym, ap, ◌∙◌}
use Rattle.std.specs.Prelude.{encode_utf8_all, IsUtf8}
use Rattle.json.specs.Json.{Json, document}
use Rattle.json.specs.Strict.{HasUniqueKeys}
use Rattle.cedar_language.specs.Uid.{Text}
use Rattle.cedar_language.specs.Tree.{Tree}
use Rattle.cedar_world.specs.Bodies.{and_then}
use Rattle.cedar_json.specs.declared.reading.Unread.{Unread}
use Rattle.cedar_json.specs.declared.reading.Unread.TheVariants as unread
use Rattle.cedar_json.specs.Said.{IsUnsaid, IsUnparsed}
use Rattle.cedar_json.specs.Values.{IsTextOf}
use Rattle.cedar_json.specs.Written.{AreTexts}
use Rattle.cedar_json.proofs.Saying.{some_is, none_is}
use Rattle.cedar_json.proofs.Unique.{nothing_said}
use Rattle.cedar_json_commands.specs.Said.{SaysBody}

module _ {B : Type 0} (in_ : Json → Option B) (read : Tree → Option B) (written : Json → List ℕ) where
  -- what is written for something of the kind is a text of it
  abbrev pub IsWritten : Type 0
  IsWritten = (j : Json) (b : B) (bytes : Text) → AreTexts j → in_ j ≡ Some b → IsUtf8 bytes → encode_utf8_all (written j) ≡ bytes
      → (t : Tree) × IsTextOf bytes t × (read t ≡ Some b)

  pub written_said : IsWritten → (json bytes : Text) (j : Json) (b : B) → document json ≡ Some j → AreTexts j → in_ j ≡ Some b → IsUtf8 bytes
      → encode_utf8_all (written j) ≡ bytes → SaysBody (λ s. and_then (document s) in_) read json bytes
  written_said is json bytes j b d texts e utf8 w =
      let body = is j b bytes texts e utf8 w in (b, ap (λ o. and_then o in_) d ∙ e, body.0, body.1, body.2)

  pub body_said : IsWritten → (json old new : Text) (j : Json) → document json ≡ Some j → is_some (in_ j) ≡ true → AreTexts j → IsUtf8 new
      → (old ≡ []) × (new ≡ old ++ encode_utf8_all (written j)) → SaysBody (λ s. and_then (document s) in_) read json new
  body_said is json old new j d some texts utf8 w =
      let b = some_is (in_ j) some in
      written_said is json new j b.0 d texts b.1 utf8 (sym (w.1 ∙ ap (λ s. s ++ encode_utf8_all (written j)) w.0))

module _ {B : Type 0} (in_ : Json → Option B) (unique : (j : Json) (b : B) → in_ j ≡ Some b → HasUniqueKeys j) where
  pub body_unparsed : (json : Text) (e : Unread) → IsUnparsed json e → IsUnsaid (and_then (document json) in_) e
  body_unparsed json unread.Memory h = tt
  body_unparsed json unread.Unsaid h = nothing_said in_ unique json h

pub body_unsaid : {B : Type 0} → (in_ : Json → Option B) (json : Text) (j : Json) → document json ≡ Some j → is_some (in_ j) ≡ false
    → and_then (document json) in_ ≡ None
body_unsaid in_ json j d none = ap (λ o. and_then o in_) d ∙ none_is (in_ j) none

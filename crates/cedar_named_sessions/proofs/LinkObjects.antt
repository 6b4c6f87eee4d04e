-- A link by the entities of its slots is the link of one object of JSON.
use Rattle.std.proofs.Common.{◌≡◌, true, Option, Some, None, is_some, List, [], ◌∷◌, ◌++◌, refl, sym, ap, ◌∙◌}
use Rattle.std.specs.Prelude.{codes, encode_utf8_all, IsUtf8}
use Rattle.json.specs.Json.{Json, document}
use Rattle.json.specs.Strict.{HasUniqueKeys}
use Rattle.cedar_language.specs.Uid.{Text}
use Rattle.cedar_world.specs.Bodies.{LinkBody, and_then}
use Rattle.cedar_json.specs.Said.{IsUnparsed, IsUnsaid}
use Rattle.cedar_json.specs.Written.{AreTexts}
use Rattle.cedar_json.specs.declared.reading.Unread.{Unread}
use Rattle.cedar_json.specs.declared.reading.Unread.TheVariants as unread
use Rattle.cedar_json.proofs.Keys.{keys_apart}
use Rattle.cedar_json.proofs.Saying.{some_is}
use Rattle.cedar_json.proofs.Unique.{nothing_said}
use Rattle.cedar_json_commands.specs.Links.{with_slots, link_in}
use Rattle.cedar_json_commands.specs.LinksWritten.{link_written}
use Rattle.cedar_json_commands.proofs.Apart.{link_unique}
use Rattle.cedar_json_commands.proofs.LinkTexts.{link_text}
use Rattle.cedar_named_sessions.specs.Links.{link_by_slots, link_json, IsLinkText}

module _ (template id : Text) where
  -- what it says is what its slots say
  pub says_slots : (json : Text) (slots : Json) → document json ≡ Some slots → link_in (link_json template id slots) ≡ link_by_slots template id json
  says_slots json slots is = sym (ap (λ o. and_then o (λ j. with_slots (Some template) (Some id) (Some j))) is)

  pub link_keys : (slots : Json) → HasUniqueKeys slots → HasUniqueKeys (link_json template id slots)
  link_keys slots u = (keys_apart (codes "templateId" ∷ codes "newId" ∷ codes "values" ∷ []) refl, (tt, (tt, (u, tt))))

  slots_unique : (slots : Json) (b : LinkBody) → with_slots (Some template) (Some id) (Some slots) ≡ Some b → HasUniqueKeys slots
  slots_unique slots b e = (link_unique (link_json template id slots) b e).1.1.1.0

  pub link_unparsed : (json : Text) (e : Unread) → IsUnparsed json e → IsUnsaid (link_by_slots template id json) e
  link_unparsed json unread.Memory h = tt
  link_unparsed json unread.Unsaid h = nothing_said (λ slots. with_slots (Some template) (Some id) (Some slots)) slots_unique json h

  pub link_said : (json old new : Text) (slots : Json) → document json ≡ Some slots → is_some (link_in (link_json template id slots)) ≡ true
      → AreTexts (link_json template id slots) → IsUtf8 new → old ≡ [] → new ≡ old ++ encode_utf8_all (link_written (link_json template id slots))
      → IsLinkText template id json new
  link_said json old new slots is some texts u empty wrote =
      let j = link_json template id slots in
      let b = some_is (link_in j) some in
      let text = link_text j b.0 new texts b.1 u (sym (wrote ∙ ap (λ bytes. bytes ++ encode_utf8_all (link_written j)) empty)) in
      (b.0, text.0, sym (says_slots json slots is) ∙ b.1, text.1, text.2)

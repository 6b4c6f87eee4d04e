-- What is written for the object is read as the link.
use Rattle.std.proofs.Common.{◌≡◌, true, is_some, Err, sym, ap, subst, ◌++◌, ◌∙◌}
use Rattle.std.specs.Prelude.{IfErr, encode_utf8_all, string_bytes}
use Rattle.std.proofs.lemmas.Result.{err_from_is_err_and}
use Rattle.std.proofs.lemmas.Str.{IsUtf8-string_bytes}
use Rattle.json.specs.Strict.{HasUniqueKeys}
use Rattle.json.specs.Value.{value_view}
use Rattle.cedar_json.specs.Said.{IsUnsaid}
use Rattle.cedar_json.specs.Written.{AreTexts}
use Rattle.cedar_json_commands.specs.Links.{link_in}
use Rattle.cedar_json_commands.specs.LinksWritten.{link_written}
use Rattle.cedar_named_sessions.specs.Links.{link_by_slots}
use Rattle.cedar_named_sessions.proofs.LinkObjects.{says_slots, link_keys, link_unparsed, link_said}
use Rattle.cedar_named_sessions.proofs.bodies.link_text.Goals as goal

pub returns-in-Err-clause-unsaid : goal.returns-in-Err-clause-unsaid
returns-in-Err-clause-unsaid c = link_unparsed c.args.template.now c.args.id.now c.args.slots.now c.in-Err.unread c.in-Err.ensures.unread

pub returns-in_err-write_link-clause-unsaid : goal.returns-in_err-write_link-clause-unsaid
returns-in_err-write_link-clause-unsaid c =
    let template = c.args.template.now in
    let id = c.args.id.now in
    let slots = value_view c.in-Ok.slots in
    let is = c.in_ok-link.ensures in
    let e = c.in_err-write_link.field-0.0 in
    let told = c.in_err-write_link.ensures.told (subst HasUniqueKeys (sym is) (link_keys template id slots c.in-Ok.ensures.read.1)) in
    let p = err_from_is_err_and c.from_residual-in_err-write_link.result c.from_residual-in_err-write_link.ensures.1 in
    subst (λ r. IfErr r (IsUnsaid (link_by_slots template id c.args.slots.now))) (sym (p.1 ∙ ap (λ y. Err y) p.2))
    (subst (λ o. IsUnsaid o e) (ap link_in is ∙ says_slots template id c.args.slots.now slots c.in-Ok.ensures.read.0) told)

pub returns-clause-said : goal.returns-clause-said
returns-clause-said c =
    let template = c.args.template.now in
    let id = c.args.id.now in
    let slots = value_view c.in-Ok.slots in
    let is = c.in_ok-link.ensures in
    let told = c.in_ok-write_link.ensures.told (subst HasUniqueKeys (sym is) (link_keys template id slots c.in-Ok.ensures.read.1)) in
    link_said template id c.args.slots.now (string_bytes c.new-text.result) (string_bytes c.write_link.new.out) slots c.in-Ok.ensures.read.0
    (subst (λ j. is_some (link_in j) ≡ true) is told) (subst AreTexts is c.holds_texts.ensures) (IsUtf8-string_bytes c.write_link.new.out) c.new-text.ensures.bytes
    (c.in_ok-write_link.ensures.written ∙ ap (λ j. string_bytes c.new-text.result ++ encode_utf8_all (link_written j)) is)

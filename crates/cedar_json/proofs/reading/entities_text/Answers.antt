use Rattle.std.proofs.Common.{◌≡◌, true, false, sym, ◌∙◌, arith}
use Rattle.std.specs.Prelude.{string_bytes}
use Rattle.std.proofs.lemmas.Str.{IsUtf8-string_bytes}
use Rattle.json.specs.Value.{value_view}
use Rattle.cedar_json.proofs.Saying.{entities_said, entities_unsaid}
use Rattle.cedar_json.proofs.reading.entities_text.Goals as goal

pub returns-then-not-is_entities-clause-unsaid : goal.returns-then-not-is_entities-clause-unsaid
returns-then-not-is_entities-clause-unsaid c =
    let no : c.is_entities.result ≡ false = grind arith in
    λ json d. entities_unsaid json (value_view c.args.value.now) d (sym (c.is_entities.ensures c.requires.keys) ∙ no)

pub returns-clause-said : goal.returns-clause-said
returns-clause-said c =
    let yes : c.is_entities.result ≡ true = grind arith in
    λ json d.
    entities_said json (string_bytes c.new-text.result) (string_bytes c.write_entities.new.out) (value_view c.args.value.now) d
    (sym (c.is_entities.ensures c.requires.keys) ∙ yes)
    c.holds_texts.ensures (IsUtf8-string_bytes c.write_entities.new.out) (c.new-text.ensures.bytes, c.in_ok-write_entities.ensures)

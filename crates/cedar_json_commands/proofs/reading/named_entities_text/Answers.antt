use Rattle.std.proofs.Common.{◌≡◌, true, Some, sym, ◌∙◌, arith}
use Rattle.std.specs.Prelude.{string_bytes}
use Rattle.std.proofs.lemmas.Str.{IsUtf8-string_bytes}
use Rattle.json.specs.Value.{value_view}
use Rattle.cedar_world.specs.Bodies.{uids_of}
use Rattle.cedar_json.specs.Entities.{parents_in}
use Rattle.cedar_json.specs.EntitiesWritten.{parents_written}
use Rattle.cedar_json_commands.proofs.OtherTexts.{named_entities_text}
use Rattle.cedar_json_commands.proofs.Saying.{body_said}
use Rattle.cedar_json_commands.proofs.reading.named_entities_text.Goals as goal

pub returns-clause-said : goal.returns-clause-said
returns-clause-said c =
    let yes : c.are_parents.result ≡ true = grind arith in
    λ json d.
    body_said parents_in uids_of (λ j. parents_written (Some j)) named_entities_text json (string_bytes c.new-text.result) (string_bytes c.write_parents_of.new.out) (value_view c.args.value.now) d
    (sym c.are_parents.ensures ∙ yes) c.holds_texts.ensures (IsUtf8-string_bytes c.write_parents_of.new.out) (c.new-text.ensures.bytes, c.in_ok-write_parents_of.ensures)

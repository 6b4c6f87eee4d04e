use Rattle.std.specs.Prelude.{string_bytes}
use Rattle.std.proofs.lemmas.Str.{IsUtf8-string_bytes}
use Rattle.json.specs.Value.{value_view}
use Rattle.cedar_world.specs.Bodies.{link_body}
use Rattle.cedar_json_commands.specs.Links.{link_in}
use Rattle.cedar_json_commands.specs.LinksWritten.{link_written}
use Rattle.cedar_json_commands.proofs.LinkTexts.{link_text}
use Rattle.cedar_json_commands.proofs.Saying.{body_said}
use Rattle.cedar_json_commands.proofs.reading.link_text.Goals as goal

pub returns-clause-said : goal.returns-clause-said
returns-clause-said c =
    λ json d.
    body_said link_in link_body link_written link_text json (string_bytes c.new-text.result) (string_bytes c.write_link.new.out) (value_view c.args.value.now) d
    (c.in_ok-write_link.ensures.told c.requires.keys) c.holds_texts.ensures (IsUtf8-string_bytes c.write_link.new.out) (c.new-text.ensures.bytes, c.in_ok-write_link.ensures.written)

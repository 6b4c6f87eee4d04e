use Rattle.std.proofs.Common.{◌≡◌, ◌++◌, sym, ap, ◌∙◌}
use Rattle.std.specs.Prelude.{string_bytes, encode_utf8_all}
use Rattle.json.specs.Value.{value_view}
use Rattle.cedar_json.specs.Written.{quoted}
use Rattle.cedar_json.proofs.Taken.{string_is}
use Rattle.cedar_json_commands.specs.Others.{string_written}
use Rattle.cedar_json_commands.proofs.parts.write_id.Goals as goal

pub returns-clause-written : goal.returns-clause-written
returns-clause-written c =
    let j = value_view c.args.value.now in
    let s = c.in-Some.id.now in
    let same : quoted s ≡ string_written j = sym (ap string_written (string_is j s (sym c.in-Some.ensures))) in
    c.in_ok-write_quoted.ensures ∙ ap (λ cs. string_bytes c.args.out.now ++ encode_utf8_all cs) same

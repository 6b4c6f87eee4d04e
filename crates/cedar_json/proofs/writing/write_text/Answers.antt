use Rattle.std.specs.Prelude.{string_bytes}
use Rattle.cedar_json.proofs.Appending.{on_text}
use Rattle.cedar_json.proofs.writing.write_text.Goals as goal

pub returns : goal.returns
returns c = on_text c.push_str.result (string_bytes c.args.out.now) (string_bytes c.push_str.new.self) c.args.text.now c.utf8.text c.push_str.ensures.bytes

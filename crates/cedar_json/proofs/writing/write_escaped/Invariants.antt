use Rattle.std.proofs.Common.{◌≡◌, ◌++◌, ◌∷◌}
use Rattle.std.specs.Prelude.{string_bytes, encode_utf8_all}
use Rattle.cedar_json.specs.Written.{escaped}
use Rattle.cedar_json.proofs.writing.write_escaped.Given as goal

abbrev pub invariant-characters : goal.invariant-characters
invariant-characters l = string_bytes l.out ≡ string_bytes l.fn.out ++ encode_utf8_all (escaped l.yielded)

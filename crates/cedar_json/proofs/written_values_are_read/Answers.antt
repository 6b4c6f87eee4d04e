-- By what each of its parts is read as.
use Rattle.std.proofs.Common.{Option, ap, ◌∙◌}
use Rattle.json.specs.Json.{Json}
use Rattle.cedar_world.specs.Bodies.{and_then}
use Rattle.cedar_json.specs.Values.{datum}
use Rattle.cedar_json.proofs.ReadBack.{text_of}
use Rattle.cedar_json.proofs.written_values_are_read.Goals as goal

pub returns : goal.returns
returns c = λ json text j t d a e u is. (t, ap (λ (o : Option Json). and_then o datum) d ∙ e, text_of j t text a e u is)

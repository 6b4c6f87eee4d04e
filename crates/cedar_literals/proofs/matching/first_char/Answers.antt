-- What stands behind the code of the first character is the text of those that follow.
use Rattle.std.proofs.Common.{sym, ◌∙◌, ap, ◌++◌}
use Rattle.std.proofs.lemmas.Str.{chars_past_char}
use Rattle.std.specs.Prelude.{encode_utf8}
use Rattle.cedar_literals.proofs.matching.first_char.Goals as goal

pub returns : goal.returns
returns c =
    chars_past_char c.args.text.now c.as_str.result.now c.in_ok-first.first c.utf8.text
    (sym c.chars-characters.ensures.rest ∙ c.in_ok-first.ensures.steps.0 ∙ ap (λ r. encode_utf8 c.in_ok-first.first ++ r) (sym c.as_str.ensures))

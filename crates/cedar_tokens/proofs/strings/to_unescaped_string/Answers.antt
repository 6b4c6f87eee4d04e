-- The text so far and what the rest stands for are what the whole stands for; a star stands for no text.
use Rattle.std.proofs.Common.{◌≡◌, length, sym, ap, ◌∙◌, Some}
use Rattle.std.specs.Prelude.{string_bytes}
use Rattle.std.proofs.lemmas.Bool.{eqb-true}
use Rattle.cedar_tokens.proofs.Rests.{rest_all, no_chars}
use Rattle.cedar_tokens.proofs.Unescaping.{written_none, written_all}
use Rattle.cedar_tokens.proofs.strings.to_unescaped_string.Goals as goal

pub parts-init : goal.parts-init
parts-init c = record { utf8 = c.utf8.raw; rest = rest_all c.args.raw.now c.utf8.raw; same = written_none c.args.raw.now (string_bytes c.new-text.result) c.new-text.ensures.bytes }

pub returns-clause-text : goal.returns-clause-text
returns-clause-text c =
    let none : length c.parts.rest.now ≡ 0 = eqb-true (length c.parts.rest.now) 0 (sym c.is_empty.ensures ∙ c.parts-test.false) in
    written_all c.args.raw.now c.parts.rest.now (string_bytes c.parts.text) c.parts.invariant.same (no_chars c.parts.rest.now none) ∙ ap Some (sym c.in_ok-from_string.ensures.ok)

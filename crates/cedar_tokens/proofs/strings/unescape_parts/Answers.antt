-- The parts so far and those of the rest are the parts of the whole, and an empty rest has none.
use Rattle.std.proofs.Common.{◌≡◌, length, sym, ◌∙◌, ap}
use Rattle.std.specs.Prelude.{map}
use Rattle.std.proofs.lemmas.Bool.{eqb-true}
use Rattle.cedar_tokens.specs.Parts.{part_view}
use Rattle.cedar_tokens.proofs.Rests.{rest_all, no_chars}
use Rattle.cedar_tokens.proofs.Unescaping.{parts_none, parts_all}
use Rattle.cedar_tokens.proofs.strings.unescape_parts.Goals as goal

pub parts-init : goal.parts-init
parts-init c = record { utf8 = c.utf8.raw; rest = rest_all c.args.raw.now c.utf8.raw; same = parts_none c.args.raw.now (map part_view c.new-parts.result.items) (ap (map part_view) c.new-parts.ensures.items) }

pub returns-clause-parts : goal.returns-clause-parts
returns-clause-parts c =
    let none : length c.parts.rest.now ≡ 0 = eqb-true (length c.parts.rest.now) 0 (sym c.is_empty.ensures ∙ c.parts-test.false) in
    parts_all c.args.raw.now c.parts.rest.now (map part_view c.parts.parts.items) c.parts.invariant.same (no_chars c.parts.rest.now none)

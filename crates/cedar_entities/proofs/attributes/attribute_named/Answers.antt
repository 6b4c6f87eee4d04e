-- What is found lies in the entries to come (Entries).
use Rattle.std.proofs.Common.{sym, ap, ◌∙◌}
use Rattle.std.specs.FinMap as finite
use Rattle.cedar_language.specs.Order.{text_cmp}
use Rattle.cedar_entities.specs.Attributes.{Entries, seen_entries}
use Rattle.cedar_entities.proofs.Entries.{found_here, found_past}
use Rattle.cedar_entities.proofs.attributes.attribute_named.Goals as goal

pub returns-then-is_same : goal.returns-then-is_same
returns-then-is_same c =
    let q = c.args.name.now in
    let here = found_here q c.as_str.result.now (c.in-Some.key.now, c.in-Some.attribute.now) c.next.new.self c.as_str.ensures.value (sym c.is_same.ensures ∙ c.if-is_same.true) in
    sym (c.loop-key.invariant.2 ∙ ap (λ (es : Entries). finite.find text_cmp q (seen_entries es)) c.in-Some.ensures.steps ∙ here)

pub loop-key-preserved : goal.loop-key-preserved
loop-key-preserved c =
    let q = c.args.name.now in
    let past = found_past q c.as_str.result.now (c.in-Some.key.now, c.in-Some.attribute.now) c.next.new.self c.as_str.ensures.value (sym c.is_same.ensures ∙ c.if-is_same.false) in
    (tt, tt, c.loop-key.invariant.2 ∙ ap (λ (es : Entries). finite.find text_cmp q (seen_entries es)) c.in-Some.ensures.steps ∙ past)

-- Attributes are read one after another, and the record that they are nests by one more.
use Rattle.std.proofs.Common.{◌≡◌, [], suc, ◌-◌, length, sym, ap, subst, arith}
use Rattle.std.specs.Rc.{rc_str_bytes}
use Rattle.cedar_grammar.specs.Token as token
use Rattle.cedar_grammar.specs.Token.{mark}
use Rattle.cedar_literals.specs.Literals.{literal_of}
use Rattle.cedar_data.specs.Questions.{AddsAttribute, ReadsAttributes}
use Rattle.cedar_data.specs.Simple.{written_entries}
use Rattle.cedar_data.specs.Takes.{Takes}
use Rattle.cedar_data.proofs.ReadAttributes.{nothing_read, entries_closed, entry_more, entry_last}
use Rattle.cedar_data.proofs.ReadAttributes.{record_of_attributes, attributes_read, scalar_read, attribute_read}
use Rattle.cedar_data.proofs.reader.Reader.+simple_value.Goals as goal

pub simple_value-returns-in_ok-attributes : goal.simple_value-returns-in_ok-attributes
simple_value-returns-in_ok-attributes t c =
    let is : c.args.levels ≡ suc (c.args.levels - 1) = omega arith in
    attributes_read c.args.levels (c.args.levels - 1) c.args.self.now c.simple_record.new.self c.record_arc.result is c.in_ok-attributes.attributes.value.entries c.record_arc.ensures c.in_ok-attributes.ensures

pub simple_value-returns-in_ok-literal : goal.simple_value-returns-in_ok-literal
simple_value-returns-in_ok-literal t c =
    let is : c.args.levels ≡ suc (c.args.levels - 1) = omega arith in
    scalar_read c.args.levels (c.args.levels - 1) c.args.self.now c.scalar.new.self c.new.result is (literal_of c.in_ok-literal.literal) c.new.ensures c.in_ok-literal.ensures

pub simple_record-returns : goal.simple_record-returns
simple_record-returns t c =
    record_of_attributes c.args.levels c.args.self.now c.expect.new.self c.attributes.new.self _ c.in_ok-expect.ensures
    (subst (λ m. ReadsAttributes c.args.levels c.expect.new.self m.entries c.attributes.new.self) (sym c.in_ok-new.ensures.ok) c.in_ok-attributes.ensures)

pub attributes-entries-init : goal.attributes-entries-init
attributes-entries-init t c =
    nothing_read c.args.levels c.args.self.now (written_entries c.new-attributes.result.entries) (ap written_entries c.new-attributes.ensures.empty)

pub attributes-entries-preserved : goal.attributes-entries-preserved
attributes-entries-preserved t c =
    let adds = subst (λ x. AddsAttribute c.args.levels x c.entries.attributes.entries c.attribute.new.attributes.entries c.attribute.new.self) c.entries-test.ensures c.in_ok-attribute.ensures in
    let takes : Takes (mark token.Comma) c.attribute.new.self c.expect.new.self = subst (λ x. Takes (mark token.Comma) x c.expect.new.self) c.if-eat.ensures c.in_ok-expect.ensures in
    let old = written_entries c.entries.attributes.entries in
    let new = written_entries c.attribute.new.attributes.entries in
    entry_more c.args.levels c.args.self.now old c.entries.self c.expect.new.self c.entries.invariant new c.attribute.new.self adds takes

pub attributes-entries-smaller : goal.attributes-entries-smaller
attributes-entries-smaller t c =
    let one = c.in_ok-expect.ensures.shorter in
    let two = ap length c.if-eat.ensures in
    let three = (c.in_ok-attribute.ensures.reads (record { functions = []; methods = [] })).shorter in
    let four = ap length c.entries-test.ensures in
    omega arith

pub attributes-returns-then-eat : goal.attributes-returns-then-eat
attributes-returns-then-eat t c =
    let adds = subst (λ x. AddsAttribute c.args.levels x c.entries.attributes.entries c.attribute.new.attributes.entries c.attribute.new.self) c.entries-test.ensures c.in_ok-attribute.ensures in
    let old = written_entries c.entries.attributes.entries in
    let new = written_entries c.attribute.new.attributes.entries in
    entry_last c.args.levels c.args.self.now old c.entries.self c.eat-in-entries.new.self c.entries.invariant new c.attribute.new.self adds c.if-eat.ensures

pub attributes-returns : goal.attributes-returns
attributes-returns t c =
    let read = written_entries c.entries.attributes.entries in
    entries_closed c.args.levels c.args.self.now read c.entries.self c.eat.new.self c.entries.invariant c.entries-test.ensures

pub attribute-returns : goal.attribute-returns
attribute-returns t c =
    attribute_read c.args.levels c.args.self.now c.key.new.self c.expect_colon.new.self c.simple_value.new.self (rc_str_bytes c.in_ok-key.key) c.in_ok-value.value c.args.attributes.now.entries c.put_new.new.attributes.entries
    c.in_ok-key.ensures c.in_ok-expect_colon.ensures c.in_ok-value.ensures c.in_ok-put_new.ensures

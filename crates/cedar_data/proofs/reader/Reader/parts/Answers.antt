-- One entry is put among the parts after another.
use Rattle.std.proofs.Common.{[], suc, length, ap, subst, arith}
use Rattle.cedar_grammar.specs.Token as token
use Rattle.cedar_grammar.specs.Token.{mark}
use Rattle.cedar_data.specs.Parts.{AddsPart, part_entries}
use Rattle.cedar_data.specs.Takes.{Takes}
use Rattle.cedar_data.proofs.ReadAttributes.{nothing_read, entries_closed, entry_more, entry_last}
use Rattle.cedar_data.proofs.reader.Reader.parts.Goals as goal

pub parts-init : goal.parts-init
parts-init c = nothing_read (suc c.args.levels) c.args.self.now (part_entries c.none-parts.result) c.none-parts.ensures

pub parts-preserved : goal.parts-preserved
parts-preserved c =
    let adds = subst (λ x. AddsPart (suc c.args.levels) x c.parts.parts c.part.new.parts c.part.new.self) c.parts-test.ensures c.in_ok-part.ensures in
    let takes = subst (λ x. Takes (mark token.Comma) x c.expect.new.self) c.if-eat.ensures c.in_ok-expect.ensures in
    let new = part_entries c.part.new.parts in
    entry_more (suc c.args.levels) c.args.self.now (part_entries c.parts.parts) c.parts.self c.expect.new.self c.parts.invariant new c.part.new.self adds takes

pub parts-smaller : goal.parts-smaller
parts-smaller c =
    let one = c.in_ok-expect.ensures.shorter in
    let two = ap length c.if-eat.ensures in
    let three = (c.in_ok-part.ensures.reads (record { functions = []; methods = [] })).shorter in
    let four = ap length c.parts-test.ensures in
    omega arith

pub returns-then-eat : goal.returns-then-eat
returns-then-eat c =
    let adds = subst (λ x. AddsPart (suc c.args.levels) x c.parts.parts c.part.new.parts c.part.new.self) c.parts-test.ensures c.in_ok-part.ensures in
    let old = part_entries c.parts.parts in
    let new = part_entries c.part.new.parts in
    entry_last (suc c.args.levels) c.args.self.now old c.parts.self c.eat-in-parts.new.self c.parts.invariant new c.part.new.self adds c.if-eat.ensures

pub returns : goal.returns
returns c = entries_closed (suc c.args.levels) c.args.self.now (part_entries c.parts.parts) c.parts.self c.eat.new.self c.parts.invariant c.parts-test.ensures

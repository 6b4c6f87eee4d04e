-- Each turn takes one sign and counts it, up to 255; where none is next, the count is whole.
use Rattle.std.proofs.Common.{sym, ◌∙◌, arith}
use Rattle.cedar_tokens.specs.View.{mark_view}
use Rattle.cedar_loose.proofs.Signs.{sign_more, sign_none}
use Rattle.cedar_loose.proofs.cursor.Cursor.count.Goals as goal

pub marks-preserved : goal.marks-preserved
marks-preserved c =
    let one = sign_more (mark_view c.args.mark) c.marks.self c.eat.new.self c.marks-test.ensures in
    record {
      few = omega (arith, c.saturating_add-found.ensures);
      count = omega (arith, one.count, c.saturating_add-found.ensures, c.marks.invariant.count);
      after = sym one.after ∙ c.marks.invariant.after;
    }

pub marks-smaller : goal.marks-smaller
marks-smaller c = (sign_more (mark_view c.args.mark) c.marks.self c.eat.new.self c.marks-test.ensures).fewer

pub returns-clause-count : goal.returns-clause-count
returns-clause-count c =
    let none = sign_none (mark_view c.args.mark) c.marks.self c.marks-test.ensures.0 in
    omega (arith, none.0, c.marks.invariant.count, c.marks.invariant.few)

pub returns-clause-after : goal.returns-clause-after
returns-clause-after c =
    let none = sign_none (mark_view c.args.mark) c.marks.self c.marks-test.ensures.0 in
    c.marks-test.ensures.1 ∙ (sym none.1 ∙ c.marks.invariant.after)

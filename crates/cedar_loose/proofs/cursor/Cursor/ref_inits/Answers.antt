-- The entries so far and those up to the closing bracket are all; each entry leaves fewer tokens.
use Rattle.std.proofs.Common.{map}
use Rattle.std.proofs.lemmas.Result.{err_from_is_err_and}
use Rattle.std.proofs.lemmas.List.{map_push}
use Rattle.cedar_grammar.specs.Token as token
use Rattle.cedar_cst.specs.LeafView.{shown_ref_init}
use Rattle.cedar_grammar.specs.LooseReading.{items_of, ref_init_of}
use Rattle.cedar_grammar.proofs.Rests.{ref_init-leaves}
use Rattle.cedar_loose.proofs.Loops.{items_start, items_closed, items_fail, items_last, items_comma_fails, items_fewer, items_more}
use Rattle.cedar_loose.proofs.cursor.Cursor.ref_inits.Goals as goal

pub items-init : goal.items-init
items-init c = rw c.new-items.ensures.items (items_start token.RightBrace ref_init_of c.args.self.now)

pub returns-in_err-item : goal.returns-in_err-item
returns-in_err-item c =
    let p = err_from_is_err_and c.from_residual.result c.from_residual.ensures.1 in
    rw (p.1, p.2) (items_fail token.RightBrace ref_init_of (map shown_ref_init c.items.items.items) c.items.self _ c.eat.new.self c.items-test.ensures c.in_err-item.field-0.0 c.items.invariant c.in_err-item.ensures)

pub returns-then-eat : goal.returns-then-eat
returns-then-eat c = rw (c.in_ok-push.ensures.items, map_push) (items_last token.RightBrace ref_init_of (map shown_ref_init c.items.items.items) c.items.self _ c.eat.new.self c.items-test.ensures (shown_ref_init c.in_ok-item.item) c.ref_init.new.self c.in_ok-item.ensures c.items.invariant c.eat-in-items.new.self c.if-eat.ensures)

pub returns-in_err-expect : goal.returns-in_err-expect
returns-in_err-expect c =
    let p = err_from_is_err_and c.from_residual-in_err-expect.result c.from_residual-in_err-expect.ensures.1 in
    rw (p.1, p.2) (items_comma_fails token.RightBrace ref_init_of (map shown_ref_init c.items.items.items) c.items.self _ c.eat.new.self c.items-test.ensures (shown_ref_init c.in_ok-item.item) c.ref_init.new.self c.in_ok-item.ensures c.eat-in-items.new.self c.if-eat.ensures c.in_err-expect.field-0.0 c.items.invariant c.in_err-expect.ensures)

pub items-preserved : goal.items-preserved
items-preserved c = rw (c.in_ok-push.ensures.items, map_push) (items_more token.RightBrace ref_init_of (map shown_ref_init c.items.items.items) c.items.self _ c.eat.new.self c.items-test.ensures (shown_ref_init c.in_ok-item.item) c.ref_init.new.self c.in_ok-item.ensures c.eat-in-items.new.self c.if-eat.ensures c.expect.new.self c.in_ok-expect.ensures ref_init-leaves c.items.invariant)

pub items-smaller : goal.items-smaller
items-smaller c = items_fewer token.RightBrace ref_init_of (map shown_ref_init c.items.items.items) c.items.self (items_of token.RightBrace ref_init_of c.args.self.now) c.eat.new.self c.items-test.ensures (shown_ref_init c.in_ok-item.item) c.ref_init.new.self c.in_ok-item.ensures c.eat-in-items.new.self c.if-eat.ensures c.expect.new.self c.in_ok-expect.ensures ref_init-leaves

pub returns : goal.returns
returns c = items_closed token.RightBrace ref_init_of (map shown_ref_init c.items.items.items) c.items.self _ c.items.invariant c.eat.new.self c.items-test.ensures

-- The definitions so far and those up to the closing parenthesis are all, a comma between each two.
use Rattle.std.proofs.Common.{map}
use Rattle.std.proofs.lemmas.Result.{err_from_is_err_and}
use Rattle.std.proofs.lemmas.List.{map_push}
use Rattle.cedar_grammar.specs.Token as token
use Rattle.cedar_grammar.specs.LooseReading.{items_of, variable_def_of}
use Rattle.cedar_cst.specs.View.{shown_variable_def}
use Rattle.cedar_grammar.proofs.PolicyRests.{variable_def-leaves}
use Rattle.cedar_loose.proofs.Loops.{items_start, items_closed, items_fail, items_last, items_comma_fails, items_fewer, items_more}
use Rattle.cedar_loose.proofs.policies.variable_defs.Goals as goal

pub items-init : goal.items-init
items-init c = rw c.new-items.ensures.items (items_start token.RightParen (variable_def_of c.args.depth) c.args.cursor.now)

pub returns-in_err-item : goal.returns-in_err-item
returns-in_err-item c =
    let p = err_from_is_err_and c.from_residual.result c.from_residual.ensures.1 in
    rw (p.1, p.2) (items_fail token.RightParen (variable_def_of c.args.depth) (map shown_variable_def c.items.items.items) c.items.cursor (items_of token.RightParen (variable_def_of c.args.depth) c.args.cursor.now) c.eat.new.self c.items-test.ensures c.in_err-item.field-0.0 c.items.invariant c.in_err-item.ensures)

pub returns-then-eat : goal.returns-then-eat
returns-then-eat c = rw (c.in_ok-push.ensures.items, map_push) (items_last token.RightParen (variable_def_of c.args.depth) (map shown_variable_def c.items.items.items) c.items.cursor (items_of token.RightParen (variable_def_of c.args.depth) c.args.cursor.now) c.eat.new.self c.items-test.ensures (shown_variable_def c.in_ok-item.item) c.variable_def.new.cursor c.in_ok-item.ensures c.items.invariant c.eat-in-items.new.self c.if-eat.ensures)

pub returns-in_err-expect : goal.returns-in_err-expect
returns-in_err-expect c =
    let p = err_from_is_err_and c.from_residual-in_err-expect.result c.from_residual-in_err-expect.ensures.1 in
    rw (p.1, p.2) (items_comma_fails token.RightParen (variable_def_of c.args.depth) (map shown_variable_def c.items.items.items) c.items.cursor (items_of token.RightParen (variable_def_of c.args.depth) c.args.cursor.now) c.eat.new.self c.items-test.ensures (shown_variable_def c.in_ok-item.item) c.variable_def.new.cursor c.in_ok-item.ensures c.eat-in-items.new.self c.if-eat.ensures c.in_err-expect.field-0.0 c.items.invariant c.in_err-expect.ensures)

pub items-preserved : goal.items-preserved
items-preserved c = rw (c.in_ok-push.ensures.items, map_push) (items_more token.RightParen (variable_def_of c.args.depth) (map shown_variable_def c.items.items.items) c.items.cursor (items_of token.RightParen (variable_def_of c.args.depth) c.args.cursor.now) c.eat.new.self c.items-test.ensures (shown_variable_def c.in_ok-item.item) c.variable_def.new.cursor c.in_ok-item.ensures c.eat-in-items.new.self c.if-eat.ensures c.expect.new.self c.in_ok-expect.ensures (variable_def-leaves c.args.depth) c.items.invariant)

pub items-smaller : goal.items-smaller
items-smaller c = items_fewer token.RightParen (variable_def_of c.args.depth) (map shown_variable_def c.items.items.items) c.items.cursor (items_of token.RightParen (variable_def_of c.args.depth) c.args.cursor.now) c.eat.new.self c.items-test.ensures (shown_variable_def c.in_ok-item.item) c.variable_def.new.cursor c.in_ok-item.ensures c.eat-in-items.new.self c.if-eat.ensures c.expect.new.self c.in_ok-expect.ensures (variable_def-leaves c.args.depth)

pub returns : goal.returns
returns c = items_closed token.RightParen (variable_def_of c.args.depth) (map shown_variable_def c.items.items.items) c.items.cursor (items_of token.RightParen (variable_def_of c.args.depth) c.args.cursor.now) c.items.invariant c.eat.new.self c.items-test.ensures

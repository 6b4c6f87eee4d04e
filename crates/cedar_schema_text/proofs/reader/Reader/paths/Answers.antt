-- The paths so far and those up to the closing bracket are all, a comma between each two.
use Rattle.std.proofs.Common.{map, arith}
use Rattle.std.proofs.lemmas.Result.{err_from_is_err_and}
use Rattle.std.proofs.lemmas.List.{map_push}
use Rattle.cedar_schema_grammar.specs.Tokens.{RightBracket}
use Rattle.cedar_schema_grammar.specs.Reading.{path_at, items_at}
use Rattle.cedar_schema_syntax.specs.View.{path_view}
use Rattle.cedar_schema_text.specs.Gives.{left, bound}
use Rattle.cedar_schema_text.proofs.Positions.{left_bound, left_after, fewer_after}
use Rattle.cedar_schema_text.proofs.Loops.{items_start, items_closed, items_fail, items_last, items_comma_fails, items_more}
use Rattle.cedar_schema_text.proofs.reader.Reader.paths.Goals as goal

pub items-init : goal.items-init
items-init c = record {
  items = rw c.new-paths.ensures.items (items_start RightBracket (path_at (bound c.args.self.now)) (bound c.args.self.now) (left c.args.self.now c.args.at.now) (left_bound c.args.self.now c.args.at.now));
  onward = omega arith;
}

pub returns-in_err-path-clause-gives : goal.returns-in_err-path-clause-gives
returns-in_err-path-clause-gives c =
    let p = err_from_is_err_and c.from_residual.result c.from_residual.ensures.1 in
    rw (p.1, p.2)
    (items_fail RightBracket (path_at (bound c.args.self.now)) (map path_view c.items.paths.items) (left c.args.self.now c.items.at) (items_at RightBracket (path_at (bound c.args.self.now)) (bound c.args.self.now) (left c.args.self.now c.args.at.now))
    (left c.args.self.now c.eat.new.at) c.items-test.ensures.eats c.in_err-path.field-0.0 c.items.invariant.items c.in_err-path.ensures.gives)

pub returns-then-eat-clause-gives : goal.returns-then-eat-clause-gives
returns-then-eat-clause-gives c =
    rw (c.in_ok-push.ensures.items, map_push)
    (items_last RightBracket (path_at (bound c.args.self.now)) (map path_view c.items.paths.items) (left c.args.self.now c.items.at) (items_at RightBracket (path_at (bound c.args.self.now)) (bound c.args.self.now) (left c.args.self.now c.args.at.now))
    (left c.args.self.now c.eat.new.at) c.items-test.ensures.eats (path_view c.in_ok-path.path) (left c.args.self.now c.path.new.at) c.in_ok-path.ensures.gives
    c.items.invariant.items (left c.args.self.now c.eat-in-items.new.at) c.if-eat.ensures.eats)

pub returns-in_err-expect-clause-gives : goal.returns-in_err-expect-clause-gives
returns-in_err-expect-clause-gives c =
    let p = err_from_is_err_and c.from_residual-in_err-expect.result c.from_residual-in_err-expect.ensures.1 in
    rw (p.1, p.2)
    (items_comma_fails RightBracket (path_at (bound c.args.self.now)) (map path_view c.items.paths.items) (left c.args.self.now c.items.at) (items_at RightBracket (path_at (bound c.args.self.now)) (bound c.args.self.now) (left c.args.self.now c.args.at.now))
    (left c.args.self.now c.eat.new.at) c.items-test.ensures.eats (path_view c.in_ok-path.path) (left c.args.self.now c.path.new.at) c.in_ok-path.ensures.gives
    (left c.args.self.now c.eat-in-items.new.at) c.if-eat.ensures.eats c.in_err-expect.field-0.0 c.items.invariant.items c.in_err-expect.ensures.leaves)

pub items-preserved : goal.items-preserved
items-preserved c = record {
  items =
      rw (c.in_ok-push.ensures.items, map_push)
      (items_more RightBracket (path_at (bound c.args.self.now)) (map path_view c.items.paths.items) (left c.args.self.now c.items.at) (items_at RightBracket (path_at (bound c.args.self.now)) (bound c.args.self.now) (left c.args.self.now c.args.at.now))
      (left c.args.self.now c.eat.new.at) c.items-test.ensures.eats (path_view c.in_ok-path.path) (left c.args.self.now c.path.new.at) c.in_ok-path.ensures.gives
      (left c.args.self.now c.eat-in-items.new.at) c.if-eat.ensures.eats (left c.args.self.now c.expect.new.at) c.in_ok-expect.ensures.leaves
      (left_after c.args.self.now c.items.at c.eat-in-items.new.at c.expect.new.at (omega (arith, c.items-test.ensures.onward, c.in_ok-path.ensures.onward, c.if-eat.ensures.onward)) c.in_ok-expect.ensures.advances)
      c.items.invariant.items);
  onward = omega (arith, c.items.invariant.onward, c.items-test.ensures.onward, c.in_ok-path.ensures.onward, c.if-eat.ensures.onward, c.in_ok-expect.ensures.onward);
}

pub items-smaller : goal.items-smaller
items-smaller c = fewer_after c.args.self.now c.items.at c.eat-in-items.new.at c.expect.new.at (omega (arith, c.items-test.ensures.onward, c.in_ok-path.ensures.onward, c.if-eat.ensures.onward)) c.in_ok-expect.ensures.advances

pub returns-clause-gives : goal.returns-clause-gives
returns-clause-gives c = items_closed RightBracket (path_at (bound c.args.self.now)) (map path_view c.items.paths.items) (left c.args.self.now c.items.at) (items_at RightBracket (path_at (bound c.args.self.now)) (bound c.args.self.now) (left c.args.self.now c.args.at.now)) c.items.invariant.items (left c.args.self.now c.eat.new.at) c.items-test.ensures.eats

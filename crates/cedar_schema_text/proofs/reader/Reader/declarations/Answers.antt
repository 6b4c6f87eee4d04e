-- The declarations so far and those up to the closing brace are all.
use Rattle.std.proofs.Common.{map, arith}
use Rattle.std.proofs.lemmas.Result.{err_from_is_err_and}
use Rattle.std.proofs.lemmas.List.{map_push}
use Rattle.cedar_schema_grammar.specs.Reading.{declarations_at}
use Rattle.cedar_schema_syntax.specs.View.{declaration_view}
use Rattle.cedar_schema_text.specs.Gives.{left, bound}
use Rattle.cedar_schema_text.proofs.Positions.{left_bound, left_after, fewer_after}
use Rattle.cedar_schema_text.proofs.BlockLoops.{declared_start, declared_closed, declared_fail, declared_more}
use Rattle.cedar_schema_text.proofs.reader.Reader.declarations.Goals as goal

pub declarations-init : goal.declarations-init
declarations-init c = record {
  declarations = rw c.new-declarations.ensures.items (declared_start (bound c.args.self.now) (bound c.args.self.now) (left c.args.self.now c.args.at.now) (left_bound c.args.self.now c.args.at.now));
  onward = omega arith;
}

pub returns-in_err-declaration-clause-gives : goal.returns-in_err-declaration-clause-gives
returns-in_err-declaration-clause-gives c =
    let p = err_from_is_err_and c.from_residual.result c.from_residual.ensures.1 in
    rw (p.1, p.2)
    (declared_fail (bound c.args.self.now) (map declaration_view c.declarations.declarations.items) (left c.args.self.now c.declarations.at)
    (declarations_at (bound c.args.self.now) (bound c.args.self.now) (left c.args.self.now c.args.at.now)) (left c.args.self.now c.eat.new.at) c.declarations-test.ensures.eats
    c.in_err-declaration.field-0.0 c.declarations.invariant.declarations c.in_err-declaration.ensures.gives)

pub declarations-preserved : goal.declarations-preserved
declarations-preserved c = record {
  declarations =
      rw (c.in_ok-push.ensures.items, map_push)
      (declared_more (bound c.args.self.now) (map declaration_view c.declarations.declarations.items) (left c.args.self.now c.declarations.at)
      (declarations_at (bound c.args.self.now) (bound c.args.self.now) (left c.args.self.now c.args.at.now)) (left c.args.self.now c.eat.new.at) c.declarations-test.ensures.eats
      (declaration_view c.in_ok-declaration.declaration) (left c.args.self.now c.annotated.new.at) c.in_ok-declaration.ensures.gives
      (left_after c.args.self.now c.declarations.at c.eat.new.at c.annotated.new.at c.declarations-test.ensures.onward c.in_ok-declaration.ensures.advances)
      c.declarations.invariant.declarations);
  onward = omega (arith, c.declarations.invariant.onward, c.declarations-test.ensures.onward, c.in_ok-declaration.ensures.onward);
}

pub declarations-smaller : goal.declarations-smaller
declarations-smaller c = fewer_after c.args.self.now c.declarations.at c.eat.new.at c.annotated.new.at c.declarations-test.ensures.onward c.in_ok-declaration.ensures.advances

pub returns-clause-gives : goal.returns-clause-gives
returns-clause-gives c =
    declared_closed (bound c.args.self.now) (map declaration_view c.declarations.declarations.items) (left c.args.self.now c.declarations.at)
    (declarations_at (bound c.args.self.now) (bound c.args.self.now) (left c.args.self.now c.args.at.now)) c.declarations.invariant.declarations (left c.args.self.now c.eat.new.at)
    c.declarations-test.ensures.eats

-- The identifiers so far and those behind the next commas are all.
use Rattle.std.proofs.Common.{map, length, arith}
use Rattle.std.proofs.lemmas.Result.{err_from_is_err_and}
use Rattle.std.proofs.lemmas.List.{map_push}
use Rattle.cedar_schema_grammar.specs.Tokens.{Comma, mark, eat}
use Rattle.cedar_schema_grammar.specs.Reading.{id_read, several_at}
use Rattle.cedar_schema_syntax.specs.View.{name_view}
use Rattle.cedar_schema_text.specs.Gives.{left, bound}
use Rattle.cedar_schema_text.proofs.Positions.{left_most, left_before, fewer_before}
use Rattle.cedar_schema_text.proofs.Loops.{chain_done, chain_fails, chain_more, several_first, several_first_fails}
use Rattle.cedar_schema_text.proofs.reader.Reader.ids.Goals as goal

pub returns-in_err-first-clause-gives : goal.returns-in_err-first-clause-gives
returns-in_err-first-clause-gives c =
    let p = err_from_is_err_and c.from_residual.result c.from_residual.ensures.1 in
    rw (p.1, p.2)
    (several_first_fails id_read (length c.args.self.now.tokens.items) (left c.args.self.now c.args.at.now) c.in_err-first.field-0.0 c.in_err-first.ensures.gives)

pub names-init : goal.names-init
names-init c = record {
  names =
      rw (c.in_ok-push.ensures.items, c.new-names.ensures.items)
      (several_first id_read (length c.args.self.now.tokens.items) (left c.args.self.now c.args.at.now) (name_view c.in_ok-first.first) (left c.args.self.now c.id_name.new.at) c.in_ok-first.ensures.gives (left_most c.args.self.now c.id_name.new.at));
  onward = c.in_ok-first.ensures.onward;
}

pub returns-in_err-name-clause-gives : goal.returns-in_err-name-clause-gives
returns-in_err-name-clause-gives c =
    let p = err_from_is_err_and c.from_residual-in_err-name.result c.from_residual-in_err-name.ensures.1 in
    rw (p.1, p.2)
    (chain_fails (eat (mark Comma)) id_read (map name_view c.names.names.items) (left c.args.self.now c.names.at) (several_at id_read (bound c.args.self.now) (left c.args.self.now c.args.at.now))
    (left c.args.self.now c.eat.new.at) c.names-test.ensures.eats c.in_err-name.field-0.0 c.names.invariant.names c.in_err-name.ensures.gives)

pub names-preserved : goal.names-preserved
names-preserved c = record {
  names =
      rw (c.in_ok-push-2.ensures.items, map_push)
      (chain_more (eat (mark Comma)) id_read (map name_view c.names.names.items) (left c.args.self.now c.names.at) (several_at id_read (bound c.args.self.now) (left c.args.self.now c.args.at.now))
      (left c.args.self.now c.eat.new.at) c.names-test.ensures.eats (name_view c.in_ok-name.name) (left c.args.self.now c.id_name-in-names.new.at) c.in_ok-name.ensures.gives
      (left_before c.args.self.now c.names.at c.eat.new.at c.id_name-in-names.new.at c.names-test.ensures.advances c.in_ok-name.ensures.onward)
      c.names.invariant.names);
  onward = omega (arith, c.names.invariant.onward, c.names-test.ensures.onward, c.in_ok-name.ensures.onward);
}

pub names-smaller : goal.names-smaller
names-smaller c = fewer_before c.args.self.now c.names.at c.eat.new.at c.id_name-in-names.new.at c.names-test.ensures.advances c.in_ok-name.ensures.onward

pub returns-clause-gives : goal.returns-clause-gives
returns-clause-gives c =
    chain_done (eat (mark Comma)) id_read (map name_view c.names.names.items) (left c.args.self.now c.names.at) (several_at id_read (bound c.args.self.now) (left c.args.self.now c.args.at.now))
    c.names.invariant.names (left c.args.self.now c.eat.new.at) c.names-test.ensures.eats

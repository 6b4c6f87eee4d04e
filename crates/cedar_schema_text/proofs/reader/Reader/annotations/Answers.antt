-- The keys so far are those that the set holds, none of them twice; and those that follow are the others.
use Rattle.std.proofs.Common.{arith}
use Rattle.std.proofs.lemmas.Result.{err_from_is_err_and}
use Rattle.cedar_schema_grammar.specs.Reading.{annotations_at}
use Rattle.cedar_schema_text.specs.Gives.{left, bound}
use Rattle.cedar_schema_text.proofs.Positions.{left_bound, left_before, fewer_before}
use Rattle.cedar_schema_text.proofs.Keys.{keys_none, keys_done, keys_fail, keys_repeated, keys_more}
use Rattle.cedar_schema_text.proofs.reader.Reader.annotations.Goals as goal

pub keys-init : goal.keys-init
keys-init c = record {
  keys = keys_none c.new-keys.result c.new-keys.ensures.empty (bound c.args.self.now) (left c.args.self.now c.args.at.now) (left_bound c.args.self.now c.args.at.now);
  onward = omega arith;
}

pub returns-in_err-key-clause-leaves : goal.returns-in_err-key-clause-leaves
returns-in_err-key-clause-leaves c =
    let p = err_from_is_err_and c.from_residual.result c.from_residual.ensures.1 in
    rw (p.1, p.2) (keys_fail c.keys.keys (left c.args.self.now c.keys.at) (annotations_at (bound c.args.self.now) (left c.args.self.now c.args.at.now)) c.keys.invariant.keys (left c.args.self.now c.eat.new.at) c.keys-test.ensures.eats c.in_err-key.field-0.0 c.in_err-key.ensures.gives)

pub returns-then-not-branch-clause-leaves : goal.returns-then-not-branch-clause-leaves
returns-then-not-branch-clause-leaves c =
    keys_repeated c.keys.keys (left c.args.self.now c.keys.at) (annotations_at (bound c.args.self.now) (left c.args.self.now c.args.at.now)) c.keys.invariant.keys (left c.args.self.now c.eat.new.at) c.keys-test.ensures.eats c.in_ok-key.key (left c.args.self.now c.annotation.new.at) c.in_ok-key.ensures.gives
    c.in_ok-insert.field-0 c.in_ok-insert.ensures.added c.if-not-branch.true

pub keys-preserved : goal.keys-preserved
keys-preserved c = record {
  keys =
      keys_more c.keys.keys (left c.args.self.now c.keys.at) (annotations_at (bound c.args.self.now) (left c.args.self.now c.args.at.now)) c.keys.invariant.keys (left c.args.self.now c.eat.new.at) c.keys-test.ensures.eats c.in_ok-key.key (left c.args.self.now c.annotation.new.at) c.in_ok-key.ensures.gives
      c.in_ok-insert.field-0 c.in_ok-insert.ensures.added c.if-not-branch.false c.insert.new.self (λ q. c.in_ok-insert.ensures.updates.0 q)
      (left_before c.args.self.now c.keys.at c.eat.new.at c.annotation.new.at c.keys-test.ensures.advances c.in_ok-key.ensures.onward);
  onward = omega (arith, c.keys.invariant.onward, c.keys-test.ensures.onward, c.in_ok-key.ensures.onward);
}

pub keys-smaller : goal.keys-smaller
keys-smaller c = fewer_before c.args.self.now c.keys.at c.eat.new.at c.annotation.new.at c.keys-test.ensures.advances c.in_ok-key.ensures.onward

pub returns-clause-leaves : goal.returns-clause-leaves
returns-clause-leaves c = keys_done c.keys.keys (left c.args.self.now c.keys.at) (annotations_at (bound c.args.self.now) (left c.args.self.now c.args.at.now)) c.keys.invariant.keys (left c.args.self.now c.eat.new.at) c.keys-test.ensures.eats

pub returns-in_err-key-clause-onward : goal.returns-in_err-key-clause-onward
returns-in_err-key-clause-onward c = omega (arith, c.keys.invariant.onward, c.keys-test.ensures.onward, c.in_err-key.ensures.onward)

pub returns-in_err-insert-clause-onward : goal.returns-in_err-insert-clause-onward
returns-in_err-insert-clause-onward c = omega (arith, c.keys.invariant.onward, c.keys-test.ensures.onward, c.in_ok-key.ensures.onward)

pub returns-then-not-branch-clause-onward : goal.returns-then-not-branch-clause-onward
returns-then-not-branch-clause-onward c = omega (arith, c.keys.invariant.onward, c.keys-test.ensures.onward, c.in_ok-key.ensures.onward)

pub returns-clause-onward : goal.returns-clause-onward
returns-clause-onward c = omega (arith, c.keys.invariant.onward, c.keys-test.ensures.onward)

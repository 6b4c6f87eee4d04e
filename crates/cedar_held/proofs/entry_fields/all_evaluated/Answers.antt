-- One tree that errs makes all err, one with an unknown leaves all open, and else each value has its key.
use Rattle.std.proofs.Common.{◌||◌, ap}
use Rattle.std.proofs.lemmas.Result.{err_from_is_err_and}
use Rattle.cedar_extensions.specs.Table.{as_table}
use Rattle.cedar_held.proofs.Entries.{stops, goes_on, ended, found, waits}
use Rattle.cedar_held.proofs.entry_fields.all_evaluated.Goals as goal

pub returns-in_err-value : goal.returns-in_err-value
returns-in_err-value g c =
    let p = err_from_is_err_and c.from_residual.result c.from_residual.ensures.1 in
    rw (p.1, p.2) (stops (as_table g.F.ExtensionFunctionObject.answers c.args.extensions.now) c.args.entries.now.entries c.loop-name.name-iterator c.next.new.self c.loop-name.values.entries c.loop-name.holds_unknown c.in-Some.name.now c.in-Some.expr.now c.loop-name.invariant.2 c.in-Some.ensures.steps c.args.depth c.in_err-value.field-0.0 c.in_err-value.ensures.evaluated)

pub loop-name-preserved-in_ok-insert : goal.loop-name-preserved-in_ok-insert
loop-name-preserved-in_ok-insert g c = (
  tt,
  tt,
  goes_on (as_table g.F.ExtensionFunctionObject.answers c.args.extensions.now) c.args.entries.now.entries c.loop-name.name-iterator c.next.new.self c.loop-name.values.entries c.loop-name.holds_unknown c.in-Some.name.now c.in-Some.expr.now c.loop-name.invariant.2 c.in-Some.ensures.steps
      c.insert.new.self.entries c.in_ok-clone.field-0 c.in_ok-value.value (c.loop-name.holds_unknown || c.is_residual.result) c.args.depth c.in_ok-clone.ensures.cases c.in_ok-value.ensures.evaluated c.in_ok-value.ensures.built
      (ap (λ b. c.loop-name.holds_unknown || b) c.is_residual.ensures) c.into_iter-name-iterator.ensures.into_iter_gives.5 c.in_ok-insert.ensures.entries,
)

pub loop-name-preserved-in_ok-insert-2 : goal.loop-name-preserved-in_ok-insert-2
loop-name-preserved-in_ok-insert-2 g c = (
  tt,
  tt,
  goes_on (as_table g.F.ExtensionFunctionObject.answers c.args.extensions.now) c.args.entries.now.entries c.loop-name.name-iterator c.next.new.self c.loop-name.values.entries c.loop-name.holds_unknown c.in-Some.name.now c.in-Some.expr.now c.loop-name.invariant.2 c.in-Some.ensures.steps
      c.insert.new.self.entries c.in_ok-clone.field-0 c.in_ok-value.value (c.loop-name.holds_unknown || c.is_residual.result) c.args.depth c.in_ok-clone.ensures.cases c.in_ok-value.ensures.evaluated c.in_ok-value.ensures.built
      (ap (λ b. c.loop-name.holds_unknown || b) c.is_residual.ensures) c.into_iter-name-iterator.ensures.into_iter_gives.5 c.in_ok-insert.ensures.entries,
)

pub loop-name-preserved : goal.loop-name-preserved
loop-name-preserved g c = (
  tt,
  tt,
  goes_on (as_table g.F.ExtensionFunctionObject.answers c.args.extensions.now) c.args.entries.now.entries c.loop-name.name-iterator c.next.new.self c.loop-name.values.entries c.loop-name.holds_unknown c.in-Some.name.now c.in-Some.expr.now c.loop-name.invariant.2 c.in-Some.ensures.steps
      c.insert.new.self.entries c.in_ok-clone.field-0 c.in_ok-value.value (c.loop-name.holds_unknown || c.is_residual.result) c.args.depth c.in_ok-clone.ensures.cases c.in_ok-value.ensures.evaluated c.in_ok-value.ensures.built
      (ap (λ b. c.loop-name.holds_unknown || b) c.is_residual.ensures) c.into_iter-name-iterator.ensures.into_iter_gives.5 c.in_ok-insert.ensures.entries,
)

pub returns-then-holds_unknown : goal.returns-then-holds_unknown
returns-then-holds_unknown g c = λ by serves. waits (as_table g.F.ExtensionFunctionObject.answers c.args.extensions.now) c.args.entries.now.entries c.loop-name.values.entries by (ended (as_table g.F.ExtensionFunctionObject.answers c.args.extensions.now) c.args.entries.now.entries c.loop-name.name-iterator c.loop-name.values.entries c.loop-name.holds_unknown _ c.in-None.ensures.steps.0 c.if-holds_unknown.true c.loop-name.invariant.2) serves

pub returns-else-holds_unknown : goal.returns-else-holds_unknown
returns-else-holds_unknown g c = found (as_table g.F.ExtensionFunctionObject.answers c.args.extensions.now) c.args.entries.now.entries c.loop-name.values.entries (ended (as_table g.F.ExtensionFunctionObject.answers c.args.extensions.now) c.args.entries.now.entries c.loop-name.name-iterator c.loop-name.values.entries c.loop-name.holds_unknown _ c.in-None.ensures.steps.0 c.if-holds_unknown.false c.loop-name.invariant.2)

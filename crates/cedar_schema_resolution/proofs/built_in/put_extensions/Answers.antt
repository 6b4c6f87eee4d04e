-- One more is built in before the others.
use Rattle.std.proofs.Common.{◌≡◌, ◌<◌, ◌≤◌, length, drop, arith, refl, subst, ◌∙◌}
use Rattle.cedar_schema_resolution.specs.BuiltIn.{AreBuiltIn}
use Rattle.cedar_schema_resolution.proofs.BuildingIn.{built_lower, built_at_first}
use Rattle.cedar_schema_resolution.proofs.built_in.put_extensions.Goals as goal

pub loop-number-init : goal.loop-number-init
loop-number-init c = record { built_in = built_at_first c.args.extensions.now _ c.args.table.now (omega arith); declared = λ n. refl }

pub loop-number-preserved : goal.loop-number-preserved
loop-number-preserved c =
    let high : c.loop-number.number ≤ length c.args.extensions.now = omega arith in
    let low : 0 < c.loop-number.number = omega arith in
    record {
      built_in = built_lower c.args.extensions.now c.loop-number.number c.index-extensions-number.result c.args.table.now c.loop-number.table
          c.put_extension.new.table low high
          c.index-extensions-number.is c.loop-number.invariant.built_in c.in_ok-put_extension.ensures.built_in;
      declared = λ n. c.in_ok-put_extension.ensures.declared n ∙ c.loop-number.invariant.declared n;
    }

pub returns-clause-built_in : goal.returns-clause-built_in
returns-clause-built_in c =
    let done : c.loop-number.number ≡ 0 = omega arith in
    subst (λ k. AreBuiltIn (drop k c.args.extensions.now) c.args.table.now c.loop-number.table) done c.loop-number.invariant.built_in

-- One more stands before those that are put.
use Rattle.std.proofs.Common.{◌≡◌, ◌<◌, ◌≤◌, length, drop, sym, subst, arith}
use Rattle.std.specs.Prelude.{map}
use Rattle.std.proofs.lemmas.List.{drop_all}
use Rattle.cedar_schema_resolution.specs.Declarations.{entity_view}
use Rattle.cedar_validator_schema.specs.EntityTypes.{AreTypes}
use Rattle.cedar_validator_schema.proofs.Cases.{lower}
use Rattle.cedar_validator_schema.proofs.entity_types.EntityTypes.of.Goals as goal

pub loop-number-init : goal.loop-number-init
loop-number-init c =
    let types = c.new-types.result in
    record {
      put = subst (λ es. AreTypes c.args.table.now c.args.names.now (map entity_view es) types) (sym (drop_all _ c.args.entities.now (omega arith)))
          (λ d l t n. c.new-types.ensures d l);
    }

pub loop-number-preserved : goal.loop-number-preserved
loop-number-preserved c =
    let k = c.loop-number.number in
    let high : c.loop-number.number ≤ length c.args.entities.now = omega arith in
    let low : 0 < c.loop-number.number = omega arith in
    let cut = lower entity_view c.args.entities.now k c.index-entities-number.result low high c.index-entities-number.is in
    record {
      put = subst (λ es. AreTypes c.args.table.now c.args.names.now es c.put.new.self) (sym cut)
          (λ d l t n. c.in_ok-put.ensures d l (map entity_view (drop k c.args.entities.now)) t n (c.loop-number.invariant.put d l t n));
    }

pub returns : goal.returns
returns c =
    let done : c.loop-number.number ≡ 0 = omega arith in
    subst (λ k. AreTypes c.args.table.now c.args.names.now (map entity_view (drop k c.args.entities.now)) c.loop-number.types) done c.loop-number.invariant.put

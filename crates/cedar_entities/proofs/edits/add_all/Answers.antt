-- The lemmas of Adding: the versions that were taken fit, and a refusal of one is a refusal of all.
use Rattle.std.proofs.Common.{◌≡◌, ◌∷◌, rules, sym, subst}
use Rattle.std.specs.Prelude.{IfErr}
use Rattle.cedar_entities.specs.Kept.{in_map}
use Rattle.cedar_entities.specs.Refusals.{IsAddRefusal}
use Rattle.cedar_entities.proofs.Adding.{IsUnderway, goes_on, all_refused}
use Rattle.cedar_entities.proofs.Beside.{passing_goes_on}
use Rattle.cedar_entities.proofs.Passing.{at_err}
use Rattle.cedar_entities.proofs.edits.add_all.Goals as goal

pub loop-entity-preserved : goal.loop-entity-preserved
loop-entity-preserved c =
    let step : c.loop-entity.entity-iterator.rest.items ≡ c.in-Some.entity ∷ c.next.new.self.rest.items = search (rules, c.in-Some.ensures.steps) in
    let underway = subst (IsUnderway (in_map c.args.map.now) (in_map c.loop-entity.map) c.args.entities.items) step c.loop-entity.invariant.0 in
    let before = in_map c.args.map.now in
    let now = in_map c.loop-entity.map in
    let next = in_map c.add_one.new.map in
    let es = c.args.entities.items in
    let more = c.next.new.self.rest.items in (
      goes_on before now next es more c.in-Some.entity underway c.in_ok-add_one.ensures.added c.in_ok-add_one.ensures.same,
      passing_goes_on (λ e. e.uid) before now next es c.loop-entity.entity-iterator.rest.items more c.in-Some.entity step c.in_ok-add_one.ensures.beside c.loop-entity.invariant.1,
    )

pub returns-in_err-add_one-clause-beside : goal.returns-in_err-add_one-clause-beside
returns-in_err-add_one-clause-beside c =
    let step : c.loop-entity.entity-iterator.rest.items ≡ c.in-Some.entity ∷ c.next.new.self.rest.items = search (rules, c.in-Some.ensures.steps) in
    (passing_goes_on (λ e. e.uid) (in_map c.args.map.now) (in_map c.loop-entity.map) (in_map c.add_one.new.map) c.args.entities.items c.loop-entity.entity-iterator.rest.items c.next.new.self.rest.items c.in-Some.entity step c.in_err-add_one.ensures.beside c.loop-entity.invariant.1).beside

pub returns-in_err-add_one-clause-refused : goal.returns-in_err-add_one-clause-refused
returns-in_err-add_one-clause-refused c =
    let step : c.loop-entity.entity-iterator.rest.items ≡ c.in-Some.entity ∷ c.next.new.self.rest.items = search (rules, c.in-Some.ensures.steps) in
    let underway = subst (IsUnderway (in_map c.args.map.now) (in_map c.loop-entity.map) c.args.entities.items) step c.loop-entity.invariant.0 in
    let Refused = IsAddRefusal (in_map c.args.map.now) c.args.entities.items in
    at_err (λ r. IfErr r Refused) _ c.from_residual.result c.from_residual.ensures.1 (λ e is. subst Refused (sym is)
    (all_refused (in_map c.args.map.now) (in_map c.loop-entity.map) c.args.entities.items c.next.new.self.rest.items c.in-Some.entity underway c.in_err-add_one.field-0.0 c.in_err-add_one.ensures.refused))

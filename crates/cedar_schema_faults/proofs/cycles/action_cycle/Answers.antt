-- An order of all numbers, or a cycle of them.
use Rattle.std.proofs.Common.{◌≡◌, ◌<◌, refl, Option, length, sym, ap, ◌∙◌, subst, arith}
use Rattle.std.specs.Prelude.{map, option_map}
use Rattle.std.proofs.lemmas.Result.{IfOk-weaker}
use Rattle.cedar_schema_grammar.specs.Declared.{Declared, action_uid}
use Rattle.cedar_schema_grammar.specs.Faults.{CycleInActionHierarchy}
use Rattle.cedar_language.specs.Facts.{Reaches}
use Rattle.cedar_schema.specs.Orders.{HasTarget, AreWithin, IsOrder, IsCycleOf}
use Rattle.cedar_schema_resolution.specs.Declarations.{action_view}
use Rattle.cedar_schema_faults.specs.Cycles.{AreApartOr}
use Rattle.cedar_schema_faults.specs.Views.{fault_view}
use Rattle.cedar_schema_faults.specs.declared.kinds.SchemaError.{SchemaError}
use Rattle.std.specs.Prelude.{Some}
use Rattle.cedar_schema_faults.proofs.Cycling.{edges_within, cycle_below, none_within, one_within}
use Rattle.cedar_schema_faults.proofs.cycles.action_cycle.Goals as goal

pub order_by_targets-requires : goal.order_by_targets-requires
order_by_targets-requires c = subst AreWithin (sym c.deref.ensures.value) (edges_within c.args.actions.now c.args.numbers.now c.requires
    c.in_ok-edges.edges.items c.in_ok-edges.ensures)

pub bounds-actions-number : goal.bounds-actions-number
bounds-actions-number c = cycle_below c.args.actions.now c.args.numbers.now c.requires c.in_ok-edges.edges.items c.in_ok-edges.ensures c.in-Err-Cycle.number
    (subst (λ es. Reaches (HasTarget es) c.in-Err-Cycle.number c.in-Err-Cycle.number) c.deref.ensures.value (subst (IsCycleOf c.deref.result.now)
    c.in-Err-Cycle.field-0-is c.in-Err-Cycle.ensures.cycle))

pub returns-in-Ok : goal.returns-in-Ok
returns-in-Ok c = λ d same. none_within c.args.actions.now c.args.numbers.now c.requires c.in_ok-edges.edges.items c.in_ok-edges.ensures
    c.hierarchies_are_transitive.ensures.groups d same c.in-Ok.field-0.items
    (subst (λ es. IsOrder es c.in-Ok.field-0.items) c.deref.ensures.value c.in-Ok.ensures.order)

pub returns-in-Err-Cycle : goal.returns-in-Err-Cycle
returns-in-Err-Cycle c = IfOk-weaker c.told_cycle.result
    (λ (o : Option SchemaError). option_map fault_view o ≡ Some (CycleInActionHierarchy (action_uid (action_view c.index-actions-number.result))))
    (λ (o : Option SchemaError). (d : Declared) → map action_view c.args.actions.now ≡ d.actions → AreApartOr d (option_map fault_view o))
    (λ o e d same. subst (AreApartOr d) (sym e)
    (one_within c.args.actions.now c.args.numbers.now c.requires c.in_ok-edges.edges.items c.in_ok-edges.ensures
    c.hierarchies_are_transitive.ensures.groups d same c.in-Err-Cycle.number c.index-actions-number.result _ c.index-actions-number.is
    (subst (λ es. Reaches (HasTarget es) c.in-Err-Cycle.number c.in-Err-Cycle.number) c.deref.ensures.value (subst (IsCycleOf c.deref.result.now)
    c.in-Err-Cycle.field-0-is c.in-Err-Cycle.ensures.cycle)) refl))
    c.told_cycle.ensures

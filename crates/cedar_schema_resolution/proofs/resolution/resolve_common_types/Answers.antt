-- An order of all common types fills the table, and a cycle of numbers is one of names.
use Rattle.std.proofs.Common.{◌≡◌, ◌<◌, ℕ, List, length, sym, subst, arith}
use Rattle.std.specs.Prelude.{map}
use Rattle.std.specs.Global.{Vec}
use Rattle.cedar_schema.specs.Orders.{IsOrder, IsCycleOf}
use Rattle.cedar_schema_resolution.specs.Declarations.{type_view}
use Rattle.cedar_schema_resolution.specs.Mentions.{AreMentioned}
use Rattle.cedar_schema_resolution.specs.declared.declarations.DeclaredType.{DeclaredType}
use Rattle.cedar_schema_resolution.specs.declared.numbers.CommonNumbers.{CommonNumbers}
use Rattle.cedar_schema_resolution.proofs.Filling.{edges_within, cycle_below, cycle_told, order_below, no_cycle, filled}
use Rattle.cedar_schema_resolution.proofs.resolution.resolve_common_types.Goals as goal

-- the edges, as they are read
as_read : (c : CommonNumbers) (ts items : List DeclaredType) (es edges : List (Vec ℕ)) → ts ≡ items → edges ≡ es → AreMentioned c (map type_view ts) es
    → AreMentioned c (map type_view items) edges
as_read c ts items es edges e f m = subst (λ xs. AreMentioned c (map type_view xs) edges) e (subst (AreMentioned c (map type_view ts)) (sym f) m)

pub order_by_targets-requires : goal.order_by_targets-requires
order_by_targets-requires c =
    edges_within c.args.declared.now c.in_ok-numbers.numbers c.in_ok-numbers.ensures c.deref-2.result.now
    (as_read c.in_ok-numbers.numbers c.deref.result.now c.args.declared.now.types.items c.in_ok-edges.edges.items c.deref-2.result.now
    c.deref.ensures.value c.deref-2.ensures.value c.in_ok-edges.ensures)

pub resolve_each-requires : goal.resolve_each-requires
resolve_each-requires c =
    order_below c.args.declared.now c.in_ok-numbers.numbers c.in_ok-numbers.ensures c.deref-2.result.now
    (as_read c.in_ok-numbers.numbers c.deref.result.now c.args.declared.now.types.items c.in_ok-edges.edges.items c.deref-2.result.now
    c.deref.ensures.value c.deref-2.ensures.value c.in_ok-edges.ensures)
    c.deref-in-Ok.result.now (subst (IsOrder c.deref-2.result.now) (sym c.deref-in-Ok.ensures.value) c.in-Ok.ensures.order)

pub returns-in-Ok-clause-filled : goal.returns-in-Ok-clause-filled
returns-in-Ok-clause-filled c =
    filled c.args.declared.now c.in_ok-numbers.numbers c.in_ok-numbers.ensures c.deref-2.result.now
    (as_read c.in_ok-numbers.numbers c.deref.result.now c.args.declared.now.types.items c.in_ok-edges.edges.items c.deref-2.result.now
    c.deref.ensures.value c.deref-2.ensures.value c.in_ok-edges.ensures)
    c.deref-in-Ok.result.now (subst (IsOrder c.deref-2.result.now) (sym c.deref-in-Ok.ensures.value) c.in-Ok.ensures.order)
    c.hierarchies_are_transitive.ensures.cycles c.common_types_settle.ensures c.args.table.now c.resolve_each.new.table c.in_ok-resolve_each-in-Ok.ensures

pub returns-in-Ok-clause-acyclic : goal.returns-in-Ok-clause-acyclic
returns-in-Ok-clause-acyclic c =
    no_cycle c.args.declared.now c.in_ok-numbers.numbers c.in_ok-numbers.ensures c.deref-2.result.now
    (as_read c.in_ok-numbers.numbers c.deref.result.now c.args.declared.now.types.items c.in_ok-edges.edges.items c.deref-2.result.now
    c.deref.ensures.value c.deref-2.ensures.value c.in_ok-edges.ensures)
    c.deref-in-Ok.result.now (subst (IsOrder c.deref-2.result.now) (sym c.deref-in-Ok.ensures.value) c.in-Ok.ensures.order)
    c.hierarchies_are_transitive.ensures.cycles

pub index-requires : goal.index-requires
index-requires c =
    let low : c.in-Err-Cycle.number < length c.args.declared.now.types.items
    = cycle_below c.args.declared.now c.in_ok-numbers.numbers c.in_ok-numbers.ensures c.deref-2.result.now
    (as_read c.in_ok-numbers.numbers c.deref.result.now c.args.declared.now.types.items c.in_ok-edges.edges.items c.deref-2.result.now
    c.deref.ensures.value c.deref-2.ensures.value c.in_ok-edges.ensures)
    c.in-Err-Cycle.number (subst (IsCycleOf c.deref-2.result.now) c.in-Err-Cycle.field-0-is c.in-Err-Cycle.ensures.cycle) in
    let full : c.args.declared.now.types.len ≡ length c.args.declared.now.types.items = c.args.declared.now.types.ok.0 in
    omega arith

pub returns-in-Err-Cycle-clause-cycle : goal.returns-in-Err-Cycle-clause-cycle
returns-in-Err-Cycle-clause-cycle c =
    cycle_told c.args.declared.now c.in_ok-numbers.numbers c.in_ok-numbers.ensures c.deref-2.result.now
    (as_read c.in_ok-numbers.numbers c.deref.result.now c.args.declared.now.types.items c.in_ok-edges.edges.items c.deref-2.result.now
    c.deref.ensures.value c.deref-2.ensures.value c.in_ok-edges.ensures)
    c.hierarchies_are_transitive.ensures.cycles c.in-Err-Cycle.number c.index.result.now c.told_cycle.result c.index.ensures
    (subst (IsCycleOf c.deref-2.result.now) c.in-Err-Cycle.field-0-is c.in-Err-Cycle.ensures.cycle) c.told_cycle.ensures

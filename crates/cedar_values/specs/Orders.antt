-- Equality and order of values, of kinds and of sets: those of the language's values.
use Rattle.std.specs.Prelude.{ℕ, List, Bool}
use Rattle.std.specs.declared.cmp.Ordering.{Ordering}
use Rattle.std.specs.Cmp.{IsTotalOrder, IsPartialOrder, IsPartialEquivalence, IsEquivalence, eq_by_cmp_equiv, partial_equiv_from_equiv, partial_order_from_total}
use Rattle.std.specs.Ordering.{as_partial_cmp, eq_by_cmp}
use Rattle.std.proofs.lemmas.Cmp.{on_total}
use Rattle.cedar_language.specs.Value.{Value, SetOf}
use Rattle.cedar_language.specs.Order.{Node, node, code, value_cmp, same, all_of}
use Rattle.cedar_language.specs.OrderLaws.{value_cmp_total}
use Rattle.cedar_values.specs.Kinds.{value_of}
use Rattle.cedar_values.specs.declared.values.ValueKind.{ValueKind}

abbrev head_number : Node → ℕ
head_number (node h ns) = h.kind

-- the number of a value's kind, by which values of different kinds are ordered
abbrev pub kind_number : Value → ℕ
kind_number v = head_number (code v)

abbrev pub kind_cmp : ValueKind → ValueKind → Ordering
kind_cmp k l = value_cmp (value_of k) (value_of l)

abbrev pub same_kind : ValueKind → ValueKind → Bool
same_kind = eq_by_cmp kind_cmp

-- the order of sets, by their members
abbrev pub set_cmp : List Value → List Value → Ordering
set_cmp vs ws = value_cmp (SetOf (all_of vs)) (SetOf (all_of ws))

abbrev pub same_set : List Value → List Value → Bool
same_set = eq_by_cmp set_cmp

pub same_equiv : IsEquivalence same
same_equiv = eq_by_cmp_equiv value_cmp_total

pub same_partial : IsPartialEquivalence same
same_partial = partial_equiv_from_equiv same_equiv

pub value_cmp_partial : IsPartialOrder same (as_partial_cmp value_cmp)
value_cmp_partial = partial_order_from_total value_cmp_total

kind_cmp_total : IsTotalOrder kind_cmp
kind_cmp_total = on_total value_of value_cmp_total

pub same_kind_equiv : IsEquivalence same_kind
same_kind_equiv = eq_by_cmp_equiv kind_cmp_total

pub same_kind_partial : IsPartialEquivalence same_kind
same_kind_partial = partial_equiv_from_equiv same_kind_equiv

pub set_cmp_total : IsTotalOrder set_cmp
set_cmp_total = on_total (λ vs. SetOf (all_of vs)) value_cmp_total

pub same_set_equiv : IsEquivalence same_set
same_set_equiv = eq_by_cmp_equiv set_cmp_total

pub same_set_partial : IsPartialEquivalence same_set
same_set_partial = partial_equiv_from_equiv same_set_equiv

pub set_cmp_partial : IsPartialOrder same_set (as_partial_cmp set_cmp)
set_cmp_partial = partial_order_from_total set_cmp_total

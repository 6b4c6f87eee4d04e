-- Equality of partial values and of what is refused: by what contracts see, so that places don't count.
use Rattle.std.proofs.Common.{◌≡◌, refl}
use Rattle.std.specs.Prelude.{Bool, true, false, Option, Some, None}
use Rattle.std.specs.Ordering.{on, eq_by_cmp}
use Rattle.std.specs.Cmp.{IsPartialEquivalence, IsEquivalence, eq_by_cmp_equiv, partial_equiv_from_equiv}
use Rattle.std.specs.Cmp.Lexicographic.{options_equiv}
use Rattle.std.specs.Option.{option_eq}
use Rattle.std.proofs.lemmas.Cmp.{on_equiv}
use Rattle.either.specs.declared.Either.{Either}
use Rattle.either.specs.declared.Either.TheVariants.{Left, Right}
use Rattle.cedar_language.specs.Tree.{Tree}
use Rattle.cedar_language.specs.Value.{Value}
use Rattle.cedar_language.specs.Order.{same}
use Rattle.cedar_trees.specs.Bare.{bare}
use Rattle.cedar_shapes.specs.ShapeOrder.{tree_cmp}
use Rattle.cedar_shapes.specs.ShapeLaws.{tree_cmp_total}
use Rattle.cedar_values.specs.Orders.{same_equiv}
use Rattle.cedar_restricted.specs.PartialValues.{partial_of}
use Rattle.cedar_restricted.specs.declared.conversions.PartialValueToRestrictedExprError.{PartialValueToRestrictedExprError}
use Rattle.cedar_restricted.specs.declared.conversions.PartialValueToRestrictedExprError.TheVariants as refusal
use Rattle.cedar_restricted.specs.declared.partial_values.ContainsUnknown.{ContainsUnknown}
use Rattle.cedar_restricted.specs.declared.partial_values.PartialValue.{PartialValue}
use Rattle.cedar_restricted.specs.declared.partial_values.PartialValueToValueError.{PartialValueToValueError}
use Rattle.cedar_restricted.specs.declared.partial_values.PartialValueToValueError.TheVariants as no_value

abbrev pub same_tree : Tree → Tree → Bool
same_tree = eq_by_cmp tree_cmp

pub same_tree_equiv : IsEquivalence same_tree
same_tree_equiv = eq_by_cmp_equiv tree_cmp_total

-- the same value, or residuals of the same tree
abbrev pub same_part : Either Value Tree → Either Value Tree → Bool
same_part (Left v) (Left w) = same v w
same_part (Left v) (Right t) = false
same_part (Right s) (Left w) = false
same_part (Right s) (Right t) = same_tree s t

part_refl : (p : Either Value Tree) → same_part p p ≡ true
part_refl (Left v) = same_equiv.refl v
part_refl (Right t) = same_tree_equiv.refl t

part_symm : (p q : Either Value Tree) → same_part p q ≡ same_part q p
part_symm (Left v) (Left w) = same_equiv.symm v w
part_symm (Left v) (Right t) = refl
part_symm (Right s) (Left w) = refl
part_symm (Right s) (Right t) = same_tree_equiv.symm s t

part_congr : (p q r : Either Value Tree) → same_part p q ≡ true → same_part p r ≡ same_part q r
part_congr (Left v) (Left w) (Left u) h = same_equiv.congr v w u h
part_congr (Left v) (Left w) (Right t) h = refl
part_congr (Left v) (Right t) r h = cc
part_congr (Right s) (Left w) r h = cc
part_congr (Right s) (Right t) (Left u) h = refl
part_congr (Right s) (Right t) (Right r) h = same_tree_equiv.congr s t r h

same_part_equiv : IsEquivalence same_part
same_part_equiv = record { refl = part_refl; symm = part_symm; congr = part_congr }

abbrev pub same_partial_value : PartialValue → PartialValue → Bool
same_partial_value = on partial_of same_part

pub same_partial_value_equiv : IsEquivalence same_partial_value
same_partial_value_equiv = on_equiv partial_of same_part_equiv

pub same_partial_value_partial : IsPartialEquivalence same_partial_value
same_partial_value_partial = partial_equiv_from_equiv same_partial_value_equiv

-- the same residual
abbrev pub same_unknown_part : ContainsUnknown → ContainsUnknown → Bool
same_unknown_part = on (λ e. bare e.residual) same_tree

pub same_unknown_part_equiv : IsEquivalence same_unknown_part
same_unknown_part_equiv = on_equiv (λ e. bare e.residual) same_tree_equiv

pub same_unknown_part_partial : IsPartialEquivalence same_unknown_part
same_unknown_part_partial = partial_equiv_from_equiv same_unknown_part_equiv

-- the tree of the residual that is no value
abbrev pub residual_met : PartialValueToValueError → Tree
residual_met (no_value.ContainsUnknown e) = bare e.residual

-- the tree of the residual, where memory didn't run out
abbrev pub refused_residual : PartialValueToRestrictedExprError → Option Tree
refused_residual (refusal.NontrivialResidual r) = Some (bare r)
refused_residual (refusal.Memory e) = None

-- the same residual, or want of memory both times
abbrev pub same_refusal : PartialValueToRestrictedExprError → PartialValueToRestrictedExprError → Bool
same_refusal = on refused_residual (option_eq same_tree)

pub same_refusal_equiv : IsEquivalence same_refusal
same_refusal_equiv = on_equiv refused_residual (options_equiv same_tree_equiv)

pub same_refusal_partial : IsPartialEquivalence same_refusal
same_refusal_partial = partial_equiv_from_equiv same_refusal_equiv

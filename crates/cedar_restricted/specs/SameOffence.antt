-- Equality of what may not stand in a restricted expression: one feature, and one tree.
use Rattle.std.specs.Prelude.{Bool, nat_eq}
use Rattle.std.specs.Ordering.{on, eq_of_both}
use Rattle.std.specs.Cmp.{IsPartialEquivalence, IsEquivalence, partial_equiv_from_equiv}
use Rattle.std.specs.Cmp.Lexicographic.{pointwise, on_texts_equal}
use Rattle.std.proofs.lemmas.Cmp.{on_equiv, and_equiv}
use Rattle.cedar_trees.specs.Bare.{bare}
use Rattle.cedar_restricted.specs.Sameness.{same_tree, same_tree_equiv}
use Rattle.cedar_restricted.specs.declared.errors.InvalidRestrictedExpressionError.{InvalidRestrictedExpressionError}

abbrev same_feature : InvalidRestrictedExpressionError → InvalidRestrictedExpressionError → Bool
same_feature = on (λ e. e.feature.now) (pointwise nat_eq)

abbrev same_part : InvalidRestrictedExpressionError → InvalidRestrictedExpressionError → Bool
same_part = on (λ e. bare e.expr) same_tree

abbrev pub same_offence : InvalidRestrictedExpressionError → InvalidRestrictedExpressionError → Bool
same_offence = eq_of_both same_feature same_part

pub same_offence_equiv : IsEquivalence same_offence
same_offence_equiv = and_equiv (on_texts_equal (λ e. e.feature.now)) (on_equiv (λ e. bare e.expr) same_tree_equiv)

pub same_offence_partial : IsPartialEquivalence same_offence
same_offence_partial = partial_equiv_from_equiv same_offence_equiv

-- Equality of why a text is no literal: equal errors, or expressions of one tree.
use Rattle.std.specs.Prelude.{◌≡◌, refl, Bool, false, true}
use Rattle.std.specs.Cmp.{IsPartialEquivalence, IsEquivalence, partial_equiv_from_equiv}
use Rattle.cedar_parser.specs.declared.errors.ParseErrors.{ParseErrors}
use Rattle.cedar_restricted.specs.Sameness.{same_tree, same_tree_equiv}
use Rattle.cedar_trees.specs.Bare.{bare}
use Rattle.cedar_parser.specs.declared.literals.LiteralParseError.{LiteralParseError}
use Rattle.cedar_parser.specs.declared.literals.LiteralParseError.TheVariants.{Parse, InvalidLiteral}

-- by this equality of errors
abbrev pub same_refusal : (ParseErrors → ParseErrors → Bool) → LiteralParseError → LiteralParseError → Bool
same_refusal eq (Parse a) (Parse b) = eq a b
same_refusal eq (Parse a) (InvalidLiteral f) = false
same_refusal eq (InvalidLiteral e) (Parse b) = false
same_refusal eq (InvalidLiteral e) (InvalidLiteral f) = same_tree (bare e) (bare f)

module _ (eq : ParseErrors → ParseErrors → Bool) (laws : IsEquivalence eq) where
  refusal_refl : (a : LiteralParseError) → same_refusal eq a a ≡ true
  refusal_refl (Parse a) = laws.refl a
  refusal_refl (InvalidLiteral e) = same_tree_equiv.refl (bare e)

  refusal_symm : (a b : LiteralParseError) → same_refusal eq a b ≡ same_refusal eq b a
  refusal_symm (Parse a) (Parse b) = laws.symm a b
  refusal_symm (Parse a) (InvalidLiteral f) = refl
  refusal_symm (InvalidLiteral e) (Parse b) = refl
  refusal_symm (InvalidLiteral e) (InvalidLiteral f) = same_tree_equiv.symm (bare e) (bare f)

  refusal_congr : (a b c : LiteralParseError) → same_refusal eq a b ≡ true → same_refusal eq a c ≡ same_refusal eq b c
  refusal_congr (Parse a) (Parse b) (Parse c) h = laws.congr a b c h
  refusal_congr (Parse a) (Parse b) (InvalidLiteral g) h = refl
  refusal_congr (Parse a) (InvalidLiteral f) c h = cc
  refusal_congr (InvalidLiteral e) (Parse b) c h = cc
  refusal_congr (InvalidLiteral e) (InvalidLiteral f) (Parse c) h = refl
  refusal_congr (InvalidLiteral e) (InvalidLiteral f) (InvalidLiteral g) h = same_tree_equiv.congr (bare e) (bare f) (bare g) h

  pub same_refusal_equiv : IsEquivalence (same_refusal eq)
  same_refusal_equiv = record { refl = refusal_refl; symm = refusal_symm; congr = refusal_congr }

  pub same_refusal_partial : IsPartialEquivalence (same_refusal eq)
  same_refusal_partial = partial_equiv_from_equiv same_refusal_equiv

-- Restricted expressions, from the trees of their texts.
use Rattle.std.proofs.Common.{◌≡◌, sym, inl, inr, ℕ, Bool, true, false, Option, Some, None, Result, Ok, Err, refl, ◌∙◌, arith}
use Rattle.std.proofs.lemmas.Bool.{leb-true, leb-false}
use Rattle.std.specs.Prelude.{nat_le, IfErr}
use Rattle.cedar_language.specs.Uid.{Text}
use Rattle.cedar_language.specs.Height.{height}
use Rattle.cedar_language.specs.Restricted.{is_restricted}
use Rattle.cedar_language.specs.Tree.{Tree}
use Rattle.cedar_grammar.specs.Names.{Names}
use Rattle.cedar_grammar.specs.Policies.{ReadsExpr}
use Rattle.cedar_parser.specs.Errors as cause
use Rattle.cedar_parser.specs.Errors.{Cause}
use Rattle.cedar_restricted.specs.Offences.{OffencesAreWhatIsNotRestricted, offence, Restricts}
use Rattle.cedar_restricted.specs.Views.{restricted_tree}
use Rattle.cedar_restricted.specs.declared.errors.RestrictedExpressionError.{RestrictedExpressionError}
use Rattle.cedar_restricted.specs.declared.errors.RestrictedExpressionError.TheVariants as refused
use Rattle.cedar_restricted.specs.declared.restricted.RestrictedExpr.{RestrictedExpr}
use Rattle.cedar_parser.specs.declared.restricted.RestrictedExpressionParseError.{RestrictedExpressionParseError}
use Rattle.cedar_parser.specs.declared.restricted.RestrictedExpressionParseError.TheVariants as parse
use Rattle.cedar_parser.specs.Strict.{IsRefused, IsUnread, ReadsRestricted, TellsOffence, Keeps}
use Rattle.std.proofs.lemmas.Bool.{false_from_ne_true as not_true}

none_is_some : {A : Type 0} {x : A} (o : Option A) → o ≡ Some x → o ≡ None → ⊥
none_is_some o some none = cc (sym some ∙ none)

-- what is refused for an offence is kept back
pub unrestricted : OffencesAreWhatIsNotRestricted → (t : Tree) (e : RestrictedExpressionError) → Restricts restricted_tree t (Err e) → Keeps t (Err (parse.InvalidRestrictedExpression e))
unrestricted law t (refused.InvalidRestrictedExpression e) offends = (not_true (is_restricted t) (λ is. none_is_some (offence t) offends ((law t).1 is)), offends)
unrestricted law t (refused.Memory e) offends = tt

module _ (names : Names) (n : ℕ) (text : Text) where
  -- a text without a tree is refused for the same
  pub tree_refused : (c : Cause) → IsRefused (λ m t. ReadsExpr names m text t) n text c → IsUnread names n text c
  tree_refused cause.outside_the_grammar none = none
  tree_refused cause.means_nothing none = none
  tree_refused cause.nested_too_deep deep = inr deep
  tree_refused cause.out_of_memory none = tt

  module _ (t : Tree) (is : ReadsExpr names n text t) where
    pub too_high : nat_le (height t) n ≡ false → IsUnread names n text cause.nested_too_deep
    too_high high = inl (t, is, omega (arith, leb-false (height t) n high))

    pub tree_kept : nat_le (height t) n ≡ true → (r : Result RestrictedExpr RestrictedExpressionParseError) → Keeps t r → ReadsRestricted names n text r
    tree_kept low (Ok body) kept = (t, is, leb-true (height t) n low, sym kept)
    tree_kept low (Err (parse.Parse errors)) kept = absurd kept
    tree_kept low (Err (parse.InvalidRestrictedExpression (refused.InvalidRestrictedExpression e))) kept = (t, is, leb-true (height t) n low, kept.0)
    tree_kept low (Err (parse.InvalidRestrictedExpression (refused.Memory e))) kept = tt

    pub offence_told : nat_le (height t) n ≡ true → (r : Result RestrictedExpr RestrictedExpressionParseError) → Keeps t r → IfErr r (TellsOffence names n text)
    offence_told low (Ok body) kept = tt
    offence_told low (Err (parse.Parse errors)) kept = tt
    offence_told low (Err (parse.InvalidRestrictedExpression (refused.InvalidRestrictedExpression e))) kept = (t, is, leb-true (height t) n low, kept.1)
    offence_told low (Err (parse.InvalidRestrictedExpression (refused.Memory e))) kept = tt

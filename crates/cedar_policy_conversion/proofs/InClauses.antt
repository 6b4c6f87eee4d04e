-- What is told of a clause.
use Rattle.std.proofs.Common.{◌≡◌, inl, inr, Option, Some, Result, Err, sym, subst}
use Rattle.std.specs.Prelude.{IfErr}
use Rattle.std.specs.Option.{option_map}
use Rattle.cedar_grammar.specs.Names.{Names}
use Rattle.cedar_grammar.specs.Loose as loose
use Rattle.cedar_cst.specs.declared.node.Node.{Node}
use Rattle.cedar_cst.specs.declared.cst.Cond.{Cond}
use Rattle.cedar_cst.specs.LeafView.{shown_ident}
use Rattle.cedar_cst.specs.View.{shown_expr, view_cond, shown_cond}
use Rattle.cedar_cst.proofs.Views.{seen}
use Rattle.cedar_faults.specs.declared.errors.ConversionError.{ConversionError}
use Rattle.cedar_faults.specs.Telling.{TellsOnly}
use Rattle.cedar_faults.specs.Flat.{Flat}
use Rattle.cedar_faults.proofs.Telling.{flat_shows}
use Rattle.cedar_policy_conversion.specs.ClausesShow.{clause_word_shows, condition_shows, clause_shows}

module _ {A B E : Type 0} (names : Names) (n : Node (Option Cond)) (d : Cond) (is : n.node ≡ Some d) (a : Result A (ConversionError E)) (b : Result B (ConversionError E)) (e : ConversionError E) where
  pub clause_tells : Flat a b (Err e) → IfErr a (λ y. TellsOnly y (clause_word_shows (shown_ident d.cond))) → IfErr b (λ y. TellsOnly y (condition_shows names (shown_ident d.cond) (option_map shown_expr d.expr))) → TellsOnly e (clause_shows names (shown_cond n))
  clause_tells flat left right =
      subst (λ c. TellsOnly e (clause_shows names c)) (sym (seen loose.missing_cond view_cond n d is))
      (flat_shows a b e (clause_word_shows (shown_ident d.cond)) (condition_shows names (shown_ident d.cond) (option_map shown_expr d.expr)) _ flat left right
      (λ k s. inl s) (λ k s. inr s))

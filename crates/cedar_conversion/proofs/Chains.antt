-- Kinds that chains and lists tell, one part at a time.
use Rattle.std.proofs.Common.{◌≡◌, ◌⊎◌, inl, inr, List, ◌∷◌, map, Option, Some, Result, sym, subst}
use Rattle.std.specs.Prelude.{IfErr}
use Rattle.cedar_grammar.specs.Names.{Names}
use Rattle.cedar_grammar.specs.Loose as loose
use Rattle.cedar_cst.specs.declared.node.Node.{Node}
use Rattle.cedar_cst.specs.declared.leaves.AddOp.{AddOp}
use Rattle.cedar_cst.specs.declared.leaves.MultOp.{MultOp}
use Rattle.cedar_cst.specs.LeafView.{view_add_op, view_mult_op}
use Rattle.cedar_cst.specs.declared.cst.Expr.{Expr}
use Rattle.cedar_cst.specs.declared.cst.Or.{Or, out-Or}
use Rattle.cedar_cst.specs.declared.cst.And.{And, out-And}
use Rattle.cedar_cst.specs.declared.cst.Relation.{Relation}
use Rattle.cedar_cst.specs.declared.cst.Add.{Add, out-Add}
use Rattle.cedar_cst.specs.declared.cst.Mult.{Mult, out-Mult}
use Rattle.cedar_cst.specs.declared.cst.Unary.{Unary}
use Rattle.cedar_cst.specs.declared.cst.RecInit.{RecInit}
use Rattle.cedar_cst.specs.View.{shown_expr, shown_or, shown_and, shown_relation, shown_add, shown_mult, shown_unary, shown_rec_init}
use Rattle.cedar_faults.specs.declared.kinds.ToASTErrorKind.{ToASTErrorKind}
use Rattle.cedar_faults.specs.declared.errors.ConversionError.{ConversionError}
use Rattle.cedar_faults.specs.Telling.{Told, TellsOnly}
use Rattle.cedar_conversion.specs.declared.applying.Joint.TheVariants as joint
use Rattle.cedar_conversion.specs.SoFar.{ToldSoFar}
use Rattle.cedar_conversion.specs.Shows.{joint_shows, expr_shows, or_shows, ands_show, and_shows, relations_show, relation_shows, add_shows, mults_show, mult_shows, unaries_show, unary_shows, exprs_show, rec_inits_show, rec_init_shows}
use Rattle.cedar_conversion.proofs.Seen.{or_seen, and_seen, add_seen, mult_seen}
use Rattle.cedar_conversion.proofs.Told.{first_told, more_told, pushed_told}

module _ (names : Names) {A E : Type 0} where
  pub or_begun : (r : Result A (ConversionError E)) (n : Node (Option Or)) (t : Or) (xs : List (Node (Option And))) → n.node ≡ Some t → xs ≡ (out-Or t).extended.items → IfErr r (λ e. TellsOnly e (and_shows names (shown_and (out-Or t).initial)))
      → ToldSoFar r (ands_show names (loose.ands (map shown_and xs))) (or_shows names (shown_or n))
  unfolding or_shows
  or_begun r n t xs is same only =
      let at = sym (or_seen n t xs is same) in
      first_told r (and_shows names (shown_and (out-Or t).initial)) (ands_show names (loose.ands (map shown_and xs))) (or_shows names (shown_or n)) only (λ k s. subst (λ z. or_shows names z k) at (inl s)) (λ k s. subst (λ z. or_shows names z k) at (inr s))

  pub or_goes_on : {B : Type 0} (r r' : Result A (ConversionError E)) (next : Result B (ConversionError E)) (p : Node (Option And)) (xs ys : List (Node (Option And))) (whole : ToASTErrorKind → Type 0) → ToldSoFar r (ands_show names (loose.ands (map shown_and xs))) whole → xs ≡ p ∷ ys
      → IfErr r' (λ e. TellsOnly e (λ k. Told r k ⊎ Told next k ⊎ joint_shows joint.Or k)) → IfErr next (λ e. TellsOnly e (and_shows names (shown_and p))) → ToldSoFar r' (ands_show names (loose.ands (map shown_and ys))) whole
  unfolding ands_show
  or_goes_on r r' next p xs ys whole so cut only given =
      more_told r r' next (joint_shows joint.Or) (and_shows names (shown_and p)) (ands_show names (loose.ands (map shown_and (p ∷ ys)))) (ands_show names (loose.ands (map shown_and ys))) whole (subst (λ zs. ToldSoFar r (ands_show names (loose.ands (map shown_and zs))) whole) cut so) only given (λ k s. absurd s) (λ k s. inl s) (λ k s. inr s)

  pub and_begun : (r : Result A (ConversionError E)) (n : Node (Option And)) (t : And) (xs : List (Node (Option Relation))) → n.node ≡ Some t → xs ≡ (out-And t).extended.items → IfErr r (λ e. TellsOnly e (relation_shows names (shown_relation (out-And t).initial)))
      → ToldSoFar r (relations_show names (loose.relations (map shown_relation xs))) (and_shows names (shown_and n))
  unfolding and_shows
  and_begun r n t xs is same only =
      let at = sym (and_seen n t xs is same) in
      first_told r (relation_shows names (shown_relation (out-And t).initial)) (relations_show names (loose.relations (map shown_relation xs))) (and_shows names (shown_and n)) only (λ k s. subst (λ z. and_shows names z k) at (inl s)) (λ k s. subst (λ z. and_shows names z k) at (inr s))

  pub and_goes_on : {B : Type 0} (r r' : Result A (ConversionError E)) (next : Result B (ConversionError E)) (p : Node (Option Relation)) (xs ys : List (Node (Option Relation))) (whole : ToASTErrorKind → Type 0) → ToldSoFar r (relations_show names (loose.relations (map shown_relation xs))) whole → xs ≡ p ∷ ys
      → IfErr r' (λ e. TellsOnly e (λ k. Told r k ⊎ Told next k ⊎ joint_shows joint.And k)) → IfErr next (λ e. TellsOnly e (relation_shows names (shown_relation p))) → ToldSoFar r' (relations_show names (loose.relations (map shown_relation ys))) whole
  unfolding relations_show
  and_goes_on r r' next p xs ys whole so cut only given =
      more_told r r' next (joint_shows joint.And) (relation_shows names (shown_relation p)) (relations_show names (loose.relations (map shown_relation (p ∷ ys)))) (relations_show names (loose.relations (map shown_relation ys))) whole (subst (λ zs. ToldSoFar r (relations_show names (loose.relations (map shown_relation zs))) whole) cut so) only given (λ k s. absurd s) (λ k s. inl s) (λ k s. inr s)

  pub add_begun : (r : Result A (ConversionError E)) (n : Node (Option Add)) (t : Add) (xs : List (AddOp × Node (Option Mult))) → n.node ≡ Some t → xs ≡ (out-Add t).extended.items → IfErr r (λ e. TellsOnly e (mult_shows names (shown_mult (out-Add t).initial)))
      → ToldSoFar r (mults_show names (loose.mults (map {B = loose.AddOp × loose.Mult} (λ x. (view_add_op x.0, shown_mult x.1)) xs))) (add_shows names (shown_add n))
  unfolding add_shows
  add_begun r n t xs is same only =
      let at = sym (add_seen n t xs is same) in
      first_told r (mult_shows names (shown_mult (out-Add t).initial)) (mults_show names (loose.mults (map {B = loose.AddOp × loose.Mult} (λ x. (view_add_op x.0, shown_mult x.1)) xs))) (add_shows names (shown_add n)) only (λ k s. subst (λ z. add_shows names z k) at (inl s)) (λ k s. subst (λ z. add_shows names z k) at (inr s))

  pub add_goes_on : {B : Type 0} (r r' : Result A (ConversionError E)) (next : Result B (ConversionError E)) (p : AddOp × Node (Option Mult)) (xs ys : List (AddOp × Node (Option Mult))) (whole : ToASTErrorKind → Type 0) → ToldSoFar r (mults_show names (loose.mults (map {B = loose.AddOp × loose.Mult} (λ x. (view_add_op x.0, shown_mult x.1)) xs))) whole → xs ≡ p ∷ ys
      → IfErr r' (λ e. TellsOnly e (λ k. Told r k ⊎ Told next k ⊎ joint_shows (joint.Sum p.0) k)) → IfErr next (λ e. TellsOnly e (mult_shows names (shown_mult p.1))) → ToldSoFar r' (mults_show names (loose.mults (map {B = loose.AddOp × loose.Mult} (λ x. (view_add_op x.0, shown_mult x.1)) ys))) whole
  unfolding mults_show
  add_goes_on r r' next p xs ys whole so cut only given =
      more_told r r' next (joint_shows (joint.Sum p.0)) (mult_shows names (shown_mult p.1)) (mults_show names (loose.mults (map {B = loose.AddOp × loose.Mult} (λ x. (view_add_op x.0, shown_mult x.1)) (p ∷ ys)))) (mults_show names (loose.mults (map {B = loose.AddOp × loose.Mult} (λ x. (view_add_op x.0, shown_mult x.1)) ys))) whole (subst (λ zs. ToldSoFar r (mults_show names (loose.mults (map {B = loose.AddOp × loose.Mult} (λ x. (view_add_op x.0, shown_mult x.1)) zs))) whole) cut so) only given (λ k s. absurd s) (λ k s. inl s) (λ k s. inr s)

  pub mult_begun : (r : Result A (ConversionError E)) (n : Node (Option Mult)) (t : Mult) (xs : List (MultOp × Node (Option Unary))) → n.node ≡ Some t → xs ≡ (out-Mult t).extended.items → IfErr r (λ e. TellsOnly e (unary_shows names (shown_unary (out-Mult t).initial)))
      → ToldSoFar r (unaries_show names (loose.unaries (map {B = loose.MultOp × loose.Unary} (λ x. (view_mult_op x.0, shown_unary x.1)) xs))) (mult_shows names (shown_mult n))
  unfolding mult_shows
  mult_begun r n t xs is same only =
      let at = sym (mult_seen n t xs is same) in
      first_told r (unary_shows names (shown_unary (out-Mult t).initial)) (unaries_show names (loose.unaries (map {B = loose.MultOp × loose.Unary} (λ x. (view_mult_op x.0, shown_unary x.1)) xs))) (mult_shows names (shown_mult n)) only (λ k s. subst (λ z. mult_shows names z k) at (inl s)) (λ k s. subst (λ z. mult_shows names z k) at (inr s))

  pub mult_goes_on : {B : Type 0} (r r' : Result A (ConversionError E)) (next : Result B (ConversionError E)) (p : MultOp × Node (Option Unary)) (xs ys : List (MultOp × Node (Option Unary))) (whole : ToASTErrorKind → Type 0) → ToldSoFar r (unaries_show names (loose.unaries (map {B = loose.MultOp × loose.Unary} (λ x. (view_mult_op x.0, shown_unary x.1)) xs))) whole → xs ≡ p ∷ ys
      → IfErr r' (λ e. TellsOnly e (λ k. Told r k ⊎ Told next k ⊎ joint_shows (joint.Product p.0) k)) → IfErr next (λ e. TellsOnly e (unary_shows names (shown_unary p.1))) → ToldSoFar r' (unaries_show names (loose.unaries (map {B = loose.MultOp × loose.Unary} (λ x. (view_mult_op x.0, shown_unary x.1)) ys))) whole
  unfolding unaries_show
  mult_goes_on r r' next p xs ys whole so cut only given =
      more_told r r' next (joint_shows (joint.Product p.0)) (unary_shows names (shown_unary p.1)) (unaries_show names (loose.unaries (map {B = loose.MultOp × loose.Unary} (λ x. (view_mult_op x.0, shown_unary x.1)) (p ∷ ys)))) (unaries_show names (loose.unaries (map {B = loose.MultOp × loose.Unary} (λ x. (view_mult_op x.0, shown_unary x.1)) ys))) whole (subst (λ zs. ToldSoFar r (unaries_show names (loose.unaries (map {B = loose.MultOp × loose.Unary} (λ x. (view_mult_op x.0, shown_unary x.1)) zs))) whole) cut so) only given (λ k s. inl s) (λ k s. inr (inl s)) (λ k s. inr (inr s))

  pub items_go_on : {B : Type 0} (r r' : Result A (ConversionError E)) (next : Result B (ConversionError E)) (p : Node (Option Expr)) (xs ys : List (Node (Option Expr))) (whole : ToASTErrorKind → Type 0) → ToldSoFar r (exprs_show names (loose.exprs (map shown_expr xs))) whole → xs ≡ p ∷ ys
      → IfErr r' (λ e. TellsOnly e (λ k. Told r k ⊎ Told next k)) → IfErr next (λ e. TellsOnly e (expr_shows names (shown_expr p))) → ToldSoFar r' (exprs_show names (loose.exprs (map shown_expr ys))) whole
  unfolding exprs_show
  items_go_on r r' next p xs ys whole so cut only given =
      pushed_told r r' next (expr_shows names (shown_expr p)) (exprs_show names (loose.exprs (map shown_expr (p ∷ ys)))) (exprs_show names (loose.exprs (map shown_expr ys))) whole (subst (λ zs. ToldSoFar r (exprs_show names (loose.exprs (map shown_expr zs))) whole) cut so) only given (λ k s. inl s) (λ k s. inr s)

  pub entries_go_on : {B : Type 0} (r r' : Result A (ConversionError E)) (next : Result B (ConversionError E)) (p : Node (Option RecInit)) (xs ys : List (Node (Option RecInit))) (whole : ToASTErrorKind → Type 0) → ToldSoFar r (rec_inits_show names (loose.rec_inits (map shown_rec_init xs))) whole → xs ≡ p ∷ ys
      → IfErr r' (λ e. TellsOnly e (λ k. Told r k ⊎ Told next k)) → IfErr next (λ e. TellsOnly e (rec_init_shows names (shown_rec_init p))) → ToldSoFar r' (rec_inits_show names (loose.rec_inits (map shown_rec_init ys))) whole
  unfolding rec_inits_show
  entries_go_on r r' next p xs ys whole so cut only given =
      pushed_told r r' next (rec_init_shows names (shown_rec_init p)) (rec_inits_show names (loose.rec_inits (map shown_rec_init (p ∷ ys)))) (rec_inits_show names (loose.rec_inits (map shown_rec_init ys))) whole (subst (λ zs. ToldSoFar r (rec_inits_show names (loose.rec_inits (map shown_rec_init zs))) whole) cut so) only given (λ k s. inl s) (λ k s. inr s)

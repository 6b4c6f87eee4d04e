-- What is written, where no slot of templates may stand.
use Rattle.std.proofs.Common.{◌≡◌, ◌∙◌, refl, sym, ap, subst, true, ◌||◌, List, [], ◌∷◌, Option, Some, Result, Ok, Err, inr}
use Rattle.std.specs.Prelude.{◌⊎◌, IfErr}
use Rattle.std.specs.List.{list_any}
use Rattle.cedar_language.specs.Slots.{tree_slots}
use Rattle.cedar_language.specs.Tree.{SlotId, PrincipalSlot, ResourceSlot, Tree}
use Rattle.cedar_grammar.specs.Policy.{is_slot}
use Rattle.cedar_grammar.specs.Steps.{◌>>=◌}
use Rattle.cedar_grammar.specs.Converting.{if_none, without_slots}
use Rattle.cedar_shapes.specs.Leaves.{slots_among}
use Rattle.cedar_shapes.specs.Positions.{positions}
use Rattle.cedar_shapes.proofs.HeldSlots.{slots_met}
use Rattle.cedar_faults.specs.declared.kinds.ToASTErrorKind.{ToASTErrorKind}
use Rattle.cedar_parser.specs.Errors as cause
use Rattle.cedar_parser.specs.Errors.{Cause}
use Rattle.cedar_parser.specs.declared.errors.ParseErrors.{ParseErrors}
use Rattle.cedar_trees.specs.Bare.{bare}
use Rattle.cedar_trees.specs.declared.expr.Expr.{Expr}
use Rattle.cedar_parser.specs.Faults.{IsSlotFault, slots_show, TellOnly}
use Rattle.cedar_parser.specs.Strict.{Writes, WritesNot}

-- ---- slots that a walk meets

itself : (s : SlotId) → is_slot s s ≡ true
itself PrincipalSlot = refl
itself ResourceSlot = refl

-- the first one stands in the tree
pub met_shown : (t : Tree) (s : SlotId) (ss : List SlotId) (kind : ToASTErrorKind) → slots_among (positions t) ≡ s ∷ ss → IsSlotFault s kind → slots_show (Some t) kind
met_shown t s ss kind met told =
    (s, sym (slots_met (is_slot s) t) ∙ ap (list_any (is_slot s)) met ∙ ap (λ b. b || list_any (is_slot s) ss) (itself s), told)

-- a tree without slots is the tree
pub free_is : (t u : Tree) → without_slots t ≡ Some u → t ≡ u
free_is t u is = by (tree_slots t) is
  where
    by : (ss : List SlotId) → if_none ss t ≡ Some u → t ≡ u
    by [] h = cc h
    by (s ∷ ss) h = absurd (cc h)

-- ---- what is written without slots

-- where nothing is written, nothing is without slots
pub unwritten_free : (c : Cause) (o : Option Tree) → WritesNot c o → WritesNot c (o >>= without_slots)
unwritten_free cause.outside_the_grammar o none = absurd none
unwritten_free cause.means_nothing o none = ap (λ p. p >>= without_slots) none
unwritten_free cause.nested_too_deep o none = absurd none
unwritten_free cause.out_of_memory o none = tt

-- where this expression is written, it is where no slot stands in it, and a slot is shown where one does
module _ (o : Option Tree) (x : Expr (Unit {0})) (is : o ≡ Some (bare x)) (r : Result (Expr (Unit {0})) ParseErrors) where
  pub written_free : Writes bare r (without_slots (bare x)) → Writes bare r (o >>= without_slots)
  written_free writes = subst (λ p. Writes bare r (p >>= without_slots)) (sym is) writes

  pub shown_free : (shown : ToASTErrorKind → Type 0) → IfErr r (λ errors. TellOnly errors (slots_show (Some (bare x)))) → IfErr r (λ errors. TellOnly errors (λ kind. shown kind ⊎ slots_show o kind))
  shown_free shown tells = by r tells
    where
      by : (q : Result (Expr (Unit {0})) ParseErrors) → IfErr q (λ errors. TellOnly errors (slots_show (Some (bare x)))) → IfErr q (λ errors. TellOnly errors (λ kind. shown kind ⊎ slots_show o kind))
      by (Ok e) told = tt
      by (Err errors) told = record { each = λ kind held. inr (subst (λ p. slots_show p kind) (sym is) (told.each kind held)); behind = told.behind }

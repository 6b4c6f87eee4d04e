-- What a glance tells: values that are lent, and trees of which they are the value, within a limit of depth.
use Rattle.std.specs.Prelude.{◌≡◌, ◌≤◌, ℕ, suc, max, map, Bool}
use Rattle.std.specs.Rc.{rc_str_bytes}
use Rattle.cedar_language.specs.Tree.{Boolean, Long, String, Entity, Tree, If, And, Or, Apply, Trees, no_trees, a_tree}
use Rattle.cedar_language.specs.Value.{Value, Plain}
use Rattle.cedar_language.specs.Order.{set_of}
use Rattle.cedar_grammar.specs.Build.{trees}
use Rattle.cedar_language.specs.Facts.{Facts}
use Rattle.cedar_partial_evaluation.specs.Partial.{Evaluated}
use Rattle.cedar_policy_parts.specs.Bindings.{Bindings}
use Rattle.cedar_operators.specs.Store.{HasFacts}
use Rattle.cedar_trees.specs.Bare.{bare}
use Rattle.cedar_interpreter.specs.Holding.{held_by}
use Rattle.cedar_interpreter.specs.Naming.{naming_in}
use Rattle.cedar_interpreter.specs.Written.{literals_in}
use Rattle.cedar_interpreter.specs.declared.evaluator.Evaluator.{Evaluator}
use Rattle.cedar_interpreter.specs.declared.lent.Lent.{Lent}
use Rattle.cedar_interpreter.specs.declared.lent.Lent.TheVariants as lent

-- the value that is lent
abbrev pub value_lent : Lent → Value
value_lent (lent.Bool b) = Plain (Boolean b)
value_lent (lent.Long n) = Plain (Long n)
value_lent (lent.Text t) = Plain (String (rc_str_bytes t.now))
value_lent (lent.Entity u) = Plain (Entity u.now.value)
value_lent (lent.Held v) = v.now
value_lent (lent.Written es) = set_of (literals_in (trees (map bare es.now.items)))

-- how deep every evaluation of a tree nests at least: of the parts those count that are always evaluated
abbrev mutual
  pub least_depth : Tree → ℕ
  least_depth (If t y n) = suc (least_depth t)
  least_depth (And l r) = suc (least_depth l)
  least_depth (Or l r) = suc (least_depth l)
  least_depth (Apply op ts) = suc (least_depths ts)
  least_depth t = 1

  pub least_depths : Trees → ℕ
  least_depths no_trees = 0
  least_depths (a_tree t ts) = max (least_depth t) (least_depths ts)

-- the tree has this value, whatever slots are bound to, and whether or not calls may name unknowns, and the limit isn't met where
-- it is evaluated
pub record Tells {F : Type 0} (ev : Evaluator F) (depth : ℕ) (t : Tree) (v : Value) : Type 0 where
  pub value : (naming : Bool) (facts : Facts) (slots : Bindings) → HasFacts ev.entities.now facts → naming_in naming facts (held_by ev slots) t ≡ Evaluated v
  pub within : least_depth t ≤ depth

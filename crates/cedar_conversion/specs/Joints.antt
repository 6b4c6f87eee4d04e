-- What operators join two trees to.
use Rattle.std.specs.Prelude.{ℕ, nat_le, ◌^◌, pos, neg_ℤ, cond, Option, Some, None}
use Rattle.cedar_language.specs.Tree.{Tree}
use Rattle.cedar_grammar.specs.Build.{conjunction, disjunction, compared, nots, negs, long}
use Rattle.cedar_grammar.specs.Steps.{◌>>=◌}
use Rattle.cedar_grammar.specs.Converting.{comparison_of, sum, product}
use Rattle.cedar_cst.specs.LeafView.{view_rel_op, view_add_op, view_mult_op}
use Rattle.cedar_conversion.specs.declared.applying.Joint.{Joint}
use Rattle.cedar_conversion.specs.declared.applying.Joint.TheVariants as joint
use Rattle.cedar_conversion.specs.declared.signs.Sign.{Sign}
use Rattle.cedar_conversion.specs.declared.signs.Sign.TheVariants as sign

abbrev pub joined : Joint → Tree → Tree → Option Tree
joined joint.Or x y = Some (disjunction x y)
joined joint.And x y = Some (conjunction x y)
joined (joint.Relation op) x y = comparison_of (view_rel_op op) >>= λ c. Some (compared c x y)
joined (joint.Sum op) x y = Some (sum (view_add_op op) x y)
joined (joint.Product op) x y = product (view_mult_op op) x y

abbrev pub repeated : Sign → ℕ → Tree → Tree
repeated sign.Bang n t = nots n t
repeated sign.Minus n t = negs n t

-- a number under a minus
abbrev pub minus_long : ℕ → Option Tree
minus_long v = cond (nat_le v (2 ^ 63)) (Some (long (neg_ℤ (pos v)))) None

-- What may not stand in a restricted expression, and what it is called.
use Rattle.std.specs.Prelude.{◌≡◌, ◌↔◌, ⊤, true, Option, Some, None, Result, Ok, Err, codes}
use Rattle.std.specs.Option.{option_or}
use Rattle.cedar_language.specs.Uid.{Text}
use Rattle.cedar_language.specs.Tree.{Operator, Not, Neg, IsEmpty, Equal, Less, LessEq, Add, Sub, Mul, In, Contains, ContainsAll, ContainsAny, GetTag, HasTag, GetAttr, HasAttr, HasPath, Like, Is, MakeSet, MakeRecord, Call, Tree, Lit, Var, Slot, Unknown, If, And, Or, Apply, Trees, no_trees, a_tree}
use Rattle.cedar_language.specs.Restricted.{is_restricted}
use Rattle.cedar_trees.specs.Bare.{bare}
use Rattle.cedar_restricted.specs.declared.errors.InvalidRestrictedExpressionError.{InvalidRestrictedExpressionError}
use Rattle.cedar_restricted.specs.declared.errors.RestrictedExpressionError.{RestrictedExpressionError}
use Rattle.cedar_restricted.specs.declared.errors.RestrictedExpressionError.TheVariants.{InvalidRestrictedExpression, Memory}
use Rattle.cedar_restricted.specs.declared.offences.Offence.{Offence}

-- what an operator is called that may not stand there; sets, records and calls may
abbrev pub operator_feature : Operator → Option Text
operator_feature Not = Some (codes "!")
operator_feature Neg = Some (codes "-")
operator_feature IsEmpty = Some (codes "isEmpty")
operator_feature Equal = Some (codes "==")
operator_feature Less = Some (codes "<")
operator_feature LessEq = Some (codes "<=")
operator_feature Add = Some (codes "+")
operator_feature Sub = Some (codes "-")
operator_feature Mul = Some (codes "*")
operator_feature In = Some (codes "in")
operator_feature Contains = Some (codes "contains")
operator_feature ContainsAll = Some (codes "containsAll")
operator_feature ContainsAny = Some (codes "containsAny")
operator_feature GetTag = Some (codes "getTag")
operator_feature HasTag = Some (codes "hasTag")
operator_feature (GetAttr a) = Some (codes "attribute accesses")
operator_feature (HasAttr a) = Some (codes "'has'")
operator_feature (HasPath a as_) = Some (codes "'has'")
operator_feature (Like p) = Some (codes "'like'")
operator_feature (Is n) = Some (codes "'is'")
operator_feature MakeSet = None
operator_feature (MakeRecord ks) = None
operator_feature (Call f) = None

-- what a construct is called that may not stand there, whatever its parts are
abbrev pub construct_feature : Tree → Option Text
construct_feature (Lit l) = None
construct_feature (Unknown n ty) = None
construct_feature (Var v) = Some (codes "variables")
construct_feature (Slot s) = Some (codes "template slots")
construct_feature (If t y n) = Some (codes "if-then-else")
construct_feature (And l r) = Some (codes "&&")
construct_feature (Or l r) = Some (codes "||")
construct_feature (Apply op ts) = operator_feature op

abbrev pub unless_refused : Option Text → Tree → Option (Text × Tree) → Option (Text × Tree)
unless_refused (Some f) t below = Some (f, t)
unless_refused None t below = below

-- the leftmost outermost part that may not stand there, after what it is called; and that among the items of a set or a record and
-- the arguments of a call
abbrev mutual
  pub offence : Tree → Option (Text × Tree)
  offence (Apply op ts) = unless_refused (operator_feature op) (Apply op ts) (offence_among ts)
  offence t = unless_refused (construct_feature t) t None

  pub offence_among : Trees → Option (Text × Tree)
  offence_among no_trees = None
  offence_among (a_tree t ts) = option_or (offence t) (offence_among ts)

abbrev pub offence_below : Tree → Option (Text × Tree)
offence_below (Apply MakeSet ts) = offence_among ts
offence_below (Apply (MakeRecord ks) ts) = offence_among ts
offence_below (Apply (Call f) ts) = offence_among ts
offence_below t = None

-- none offends exactly where the tree is restricted
abbrev pub OffencesAreWhatIsNotRestricted : Type 0
OffencesAreWhatIsNotRestricted = (t : Tree) → (offence t ≡ None) ↔ (is_restricted t ≡ true)

abbrev pub seen_offence : Offence → Text × Tree
seen_offence o = (o.feature.now, bare o.expr.now)

abbrev pub refused_offence : InvalidRestrictedExpressionError → Text × Tree
refused_offence e = (e.feature.now, bare e.expr)

-- what a refusal tells, want of memory aside
abbrev pub offence_told : RestrictedExpressionError → Option (Text × Tree)
offence_told (InvalidRestrictedExpression e) = Some (refused_offence e)
offence_told (Memory e) = None

-- what was made of a restricted tree, or the offence of one that isn't; want of memory says nothing
abbrev pub Restricts : {E : Type 0} → (E → Tree) → Tree → Result E RestrictedExpressionError → Type 0
Restricts view t (Ok e) = (view e ≡ t) × (is_restricted t ≡ true)
Restricts view t (Err (InvalidRestrictedExpression e)) = offence t ≡ Some (refused_offence e)
Restricts view t (Err (Memory e)) = ⊤

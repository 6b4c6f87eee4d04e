-- Operators of one and of two operands, as the language has them, and how they are written.
use Rattle.std.proofs.Common.{◌≡◌, refl, sym, ap, ◌∙◌, codes}
use Rattle.cedar_language.specs.Uid.{Text}
use Rattle.cedar_language.specs.Tree as tree
use Rattle.cedar_language.specs.Tree.{Operator}
use Rattle.cedar_literals.specs.declared.operators.UnaryOp.{UnaryOp}
use Rattle.cedar_literals.specs.declared.operators.UnaryOp.TheVariants.{Not, Neg, IsEmpty}
use Rattle.cedar_literals.specs.declared.operators.BinaryOp.{BinaryOp}
use Rattle.cedar_literals.specs.declared.operators.BinaryOp.TheVariants.{Eq, Less, LessEq, Add, Sub, Mul, In, Contains, ContainsAll, ContainsAny, GetTag, HasTag}

abbrev pub unary_operator_of : UnaryOp → Operator
unary_operator_of Not = tree.Not
unary_operator_of Neg = tree.Neg
unary_operator_of IsEmpty = tree.IsEmpty

abbrev pub binary_operator_of : BinaryOp → Operator
binary_operator_of Eq = tree.Equal
binary_operator_of Less = tree.Less
binary_operator_of LessEq = tree.LessEq
binary_operator_of Add = tree.Add
binary_operator_of Sub = tree.Sub
binary_operator_of Mul = tree.Mul
binary_operator_of In = tree.In
binary_operator_of Contains = tree.Contains
binary_operator_of ContainsAll = tree.ContainsAll
binary_operator_of ContainsAny = tree.ContainsAny
binary_operator_of GetTag = tree.GetTag
binary_operator_of HasTag = tree.HasTag

abbrev pub unary_operator_text : UnaryOp → Text
unary_operator_text Not = codes "!"
unary_operator_text Neg = codes "-"
unary_operator_text IsEmpty = codes "isEmpty"

abbrev pub binary_operator_text : BinaryOp → Text
binary_operator_text Eq = codes "=="
binary_operator_text Less = codes "<"
binary_operator_text LessEq = codes "<="
binary_operator_text Add = codes "+"
binary_operator_text Sub = codes "-"
binary_operator_text Mul = codes "*"
binary_operator_text In = codes "in"
binary_operator_text Contains = codes "contains"
binary_operator_text ContainsAll = codes "containsAll"
binary_operator_text ContainsAny = codes "containsAny"
binary_operator_text GetTag = codes "getTag"
binary_operator_text HasTag = codes "hasTag"

abbrev unary_operator_from : Operator → UnaryOp
unary_operator_from tree.Neg = Neg
unary_operator_from tree.IsEmpty = IsEmpty
unary_operator_from _ = Not

unary_operator_back : (o : UnaryOp) → unary_operator_from (unary_operator_of o) ≡ o
unary_operator_back Not = refl
unary_operator_back Neg = refl
unary_operator_back IsEmpty = refl

-- each is an operator of the language's own
abbrev pub UnaryOperatorsAreToldApart : Type 0
UnaryOperatorsAreToldApart = (o p : UnaryOp) → unary_operator_of o ≡ unary_operator_of p → o ≡ p

pub unary_operators_told_apart : UnaryOperatorsAreToldApart
unary_operators_told_apart o p e = sym (unary_operator_back o) ∙ ap unary_operator_from e ∙ unary_operator_back p

abbrev binary_operator_from : Operator → BinaryOp
binary_operator_from tree.Less = Less
binary_operator_from tree.LessEq = LessEq
binary_operator_from tree.Add = Add
binary_operator_from tree.Sub = Sub
binary_operator_from tree.Mul = Mul
binary_operator_from tree.In = In
binary_operator_from tree.Contains = Contains
binary_operator_from tree.ContainsAll = ContainsAll
binary_operator_from tree.ContainsAny = ContainsAny
binary_operator_from tree.GetTag = GetTag
binary_operator_from tree.HasTag = HasTag
binary_operator_from _ = Eq

binary_operator_back : (o : BinaryOp) → binary_operator_from (binary_operator_of o) ≡ o
binary_operator_back Eq = refl
binary_operator_back Less = refl
binary_operator_back LessEq = refl
binary_operator_back Add = refl
binary_operator_back Sub = refl
binary_operator_back Mul = refl
binary_operator_back In = refl
binary_operator_back Contains = refl
binary_operator_back ContainsAll = refl
binary_operator_back ContainsAny = refl
binary_operator_back GetTag = refl
binary_operator_back HasTag = refl

-- each is an operator of the language's own
abbrev pub BinaryOperatorsAreToldApart : Type 0
BinaryOperatorsAreToldApart = (o p : BinaryOp) → binary_operator_of o ≡ binary_operator_of p → o ≡ p

pub binary_operators_told_apart : BinaryOperatorsAreToldApart
binary_operators_told_apart o p e = sym (binary_operator_back o) ∙ ap binary_operator_from e ∙ binary_operator_back p

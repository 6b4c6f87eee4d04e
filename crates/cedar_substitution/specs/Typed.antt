-- Values told for unknowns, and the types that are stated.
use Rattle.std.specs.Prelude.{◌≡◌, ⊤, List, [], ◌∷◌, cond, Option, None, Some, Result, Ok, Err}
use Rattle.std.specs.Option.{option_or}
use Rattle.std.specs.declared.alloc.Global.{Global}
use Rattle.std.specs.declared.rc.RcStr.{RcStr}
use Rattle.cedar_language.specs.Uid.{Text}
use Rattle.cedar_language.specs.Tree.{ValueType, Tree, Unknown}
use Rattle.cedar_language.specs.Value.{Value}
use Rattle.cedar_literals.specs.Types.{value_type_of, same_type}
use Rattle.cedar_literals.specs.declared.types.Type as code
use Rattle.cedar_values.specs.Types.{type_of_value}
use Rattle.cedar_restricted.specs.Expressing.{Expresses}
use Rattle.cedar_trees.specs.Bare.{bare}
use Rattle.cedar_trees.specs.declared.expr.Expr.{Expr}
use Rattle.cedar_builders.specs.Operations.{Operations, made}
use Rattle.cedar_shapes.specs.Leaves.{unknowns_among}
use Rattle.cedar_shapes.specs.Positions.{positions}
use Rattle.cedar_substitution.specs.Chains.{with_built}
use Rattle.cedar_substitution.specs.Rising.{RecordsRiseWith}
use Rattle.cedar_substitution.specs.Told.{told_for, Substitutes}
use Rattle.cedar_substitution.specs.declared.errors.SubstitutionError.{SubstitutionError}
use Rattle.cedar_substitution.specs.declared.errors.SubstitutionError.TheVariants.{TypeError, Memory}

-- the tree stands for an unknown: it writes the value that is told, or else is the unknown itself
abbrev pub StandsFor : Option Value → Text → Option ValueType → Tree → Type 0
StandsFor None name ty t = t ≡ Unknown name ty
StandsFor (Some v) name ty t = Expresses v t

-- trees for all unknowns, by the values that are told
abbrev pub Tells : List (RcStr Global × Value) → (Text → Option ValueType → Tree) → Type 0
Tells told trees = (name : Text) (ty : Option ValueType) → StandsFor (told_for told name) name ty (trees name ty)

-- a tree with trees that write the values told in the places of its unknowns
abbrev pub SubstitutesValues : List (RcStr Global × Value) → Tree → Tree → Type 0
SubstitutesValues told t substituted = (trees : Text → Option ValueType → Tree) × Tells told trees × Substitutes trees t substituted

-- a building of a tree with such trees in the places of its unknowns, or why it was refused
abbrev pub OnValuesRefused : {M R : Type 0} → Operations M R → List (RcStr Global × Value) → Tree → Option R → Type 0
OnValuesRefused o told t None = ⊤
OnValuesRefused o told t (Some r) = (trees : Text → Option ValueType → Tree) × Tells told trees × (made o (with_built o trees) t ≡ Err r)

abbrev pub GivesValues : {E B M R : Type 0} → Operations M R → (E → M) → (B → Option R) → List (RcStr Global × Value) → Tree → Result E B → Type 0
GivesValues o meaning refusal told t (Ok e) = (trees : Text → Option ValueType → Tree) × Tells told trees × RecordsRiseWith trees t × (made o (with_built o trees) t ≡ Ok (meaning e))
GivesValues o meaning refusal told t (Err b) = OnValuesRefused o told t (refusal b)

-- the type that is stated and the value's, where they differ
abbrev pub mistyped : Option ValueType → Option Value → Option (ValueType × ValueType)
mistyped None v = None
mistyped (Some ty) None = None
mistyped (Some ty) (Some v) = cond (same_type ty (type_of_value v)) None (Some (ty, type_of_value v))

-- of unknowns from the last to the first, those of the first that differ
abbrev pub mistyped_among : List (RcStr Global × Value) → List (Text × Option ValueType) → Option (ValueType × ValueType)
mistyped_among told [] = None
mistyped_among told (u ∷ us) = option_or (mistyped_among told us) (mistyped u.1 (told_for told u.0))

-- those at the leftmost unknown that is told a value of another type than its own, records in the order of their keys; the
-- positions of a tree go from its last part to its first
abbrev pub mistyped_in : List (RcStr Global × Value) → Tree → Option (ValueType × ValueType)
mistyped_in told t = mistyped_among told (unknowns_among (positions t))

abbrev pub types_apart : code.Type × code.Type → ValueType × ValueType
types_apart p = (value_type_of p.0, value_type_of p.1)

-- a substitution that is refused where a value of another type is told
abbrev pub SubstitutesTyped : List (RcStr Global × Value) → Tree → Result (Expr (Unit {0})) SubstitutionError → Type 0
SubstitutesTyped told t (Ok e) = (mistyped_in told t ≡ None) × SubstitutesValues told t (bare e)
SubstitutesTyped told t (Err (TypeError expected actual)) = mistyped_in told t ≡ Some (value_type_of expected, value_type_of actual)
SubstitutesTyped told t (Err (Memory e)) = ⊤

-- what stands for one unknown
abbrev pub StandsForTyped : Option Value → Text → Option ValueType → Result (Expr (Unit {0})) SubstitutionError → Type 0
StandsForTyped v name ty (Ok e) = (mistyped ty v ≡ None) × StandsFor v name ty (bare e)
StandsForTyped v name ty (Err (TypeError expected actual)) = mistyped ty v ≡ Some (value_type_of expected, value_type_of actual)
StandsForTyped v name ty (Err (Memory e)) = ⊤

-- What a construct is at the values of its parts, and what is left of it.
use Rattle.std.specs.Prelude.{◌≡◌, Bool, true, false, cond, is_some, ◌&&◌, Option, Some, None}
use Rattle.cedar_language.specs.Uid.{Text, Name}
use Rattle.cedar_language.specs.Tree.{ValueType, EntityType, MakeRecord, Call, Tree, Trees, Unknown, Apply}
use Rattle.cedar_language.specs.Value.{Values, TypeError, Outcome, Fails}
use Rattle.cedar_language.specs.Facts.{Facts}
use Rattle.cedar_language.specs.Operators.{applied}
use Rattle.cedar_language.specs.Order.{same_name}
use Rattle.cedar_language.specs.Restricted.{are_projectable}
use Rattle.cedar_partial_evaluation.specs.Partial.{Answer, ResidualTree, Answers, LeafAnswers, found_tree, stated_type, types_differ, residual_answer}
use Rattle.cedar_literals.specs.declared.operators.BinaryOp.{BinaryOp}
use Rattle.cedar_literals.specs.declared.operators.BinaryOp.TheVariants.{Eq}
use Rattle.cedar_partial_evaluation.specs.ReadUnknowns.{calls_unknown}
use Rattle.cedar_extensions.specs.Table.{Table}
pub use Rattle.cedar_extensions.specs.Table.{HasFunctions}
use Rattle.cedar_interpreter.specs.Naming.{construct_answer}

-- the construct of a tree at these values, where it is an operator
abbrev pub applied_in : Facts → Tree → Values → Outcome
applied_in facts (Apply op ts) vs = applied facts op vs
applied_in facts t vs = Fails TypeError

-- whether it is a call of an extension function
abbrev pub is_call : Tree → Bool
is_call (Apply (Call f) ts) = true
is_call t = false

-- what is left of it, where these trees are left of its parts
abbrev pub left_in : Facts → LeafAnswers → Tree → Trees → Answer
left_in facts holds (Apply op ts) us = residual_answer facts holds op us
left_in facts holds t us = ResidualTree t

-- both at once, by the answers of its parts; whether calls may name unknowns
abbrev pub operated : Bool → Facts → LeafAnswers → Tree → Answers → Answer
operated naming facts holds (Apply op ts) bs = construct_answer naming facts holds op bs
operated naming facts holds t bs = ResidualTree t

-- no call of the function by which an unknown is named, where the table has it
abbrev pub NamesNothing : Table → Tree → Type 0
NamesNothing table t = (table.has_unknown && calls_unknown t) ≡ false

-- the name of a type of entities
abbrev pub entity_type_in : Option ValueType → Option Name
entity_type_in (Some (EntityType n)) = Some n
entity_type_in _ = None

-- the unknown that a tree is
abbrev pub unknown_at : Tree → Option Tree
unknown_at (Unknown n ty) = Some (Unknown n ty)
unknown_at t = None

-- ---- what is told by what is left

abbrev pub is_equality : BinaryOp → Bool
is_equality Eq = true
is_equality _ = false

-- an equality of two things whose types are known to differ
abbrev pub is_decided : BinaryOp → Tree → Tree → Bool
is_decided op l r = is_equality op && types_differ (stated_type l) (stated_type r)

-- whether a record that is projected has the key
abbrev pub told_key : Text → Tree → Option Bool
told_key a (Apply (MakeRecord ks) ts) = cond (are_projectable ts) (Some (is_some (found_tree ks ts a))) None
told_key a t = None

abbrev pub is_type : Name → Option Name → Option Bool
is_type n (Some u) = Some (same_name u n)
is_type n None = None

-- whether an unknown with a stated type of entities is of this one
abbrev pub told_type : Name → Tree → Option Bool
told_type n (Unknown m ty) = is_type n (entity_type_in ty)
told_type n t = None

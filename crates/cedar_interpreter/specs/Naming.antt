-- Partial evaluation by a table that may hold the function by which an unknown is named: a call of it that gives a text is answered
-- as the unknown of this name is.
use Rattle.std.specs.Prelude.{◌≡◌, ◌≤◌, ℕ, suc, max, Bool, true, false, cond, ◌&&◌, Option, Some, None}
use Rattle.cedar_language.specs.Uid.{Text, Name}
use Rattle.cedar_language.specs.Tree.{String, Variable, SlotId, ValueType, GetAttr, Call, Operator, Tree, Lit, Var, Slot, Unknown, If, And, Or, Apply, Trees, no_trees, a_tree}
use Rattle.cedar_language.specs.Value.{Plain, no_values, a_value, Outcome, Gives}
use Rattle.cedar_language.specs.Facts.{Facts}
use Rattle.cedar_language.specs.Operators.{called}
use Rattle.cedar_language.specs.Order.{same_name}
use Rattle.cedar_partial_evaluation.specs.Partial.{Answer, Evaluated, ResidualTree, Answers, AllEvaluated, answer_of, LeafAnswers, and_next, and_answer, or_answer, if_answer, apply_answer, partial_in}
use Rattle.cedar_partial_evaluation.specs.ReadUnknowns.{unknown_function, read_unknowns, calls_unknown}
use Rattle.cedar_interpreter.specs.Depths.{left_height, branch_depth, depth_behind, evaluation_depth}

-- ---- what is answered

abbrev pub text_given : Outcome → Option Text
text_given (Gives (Plain (String n))) = Some n
text_given _ = None

-- the unknown that a call of this function names by what it gives, where calls may name unknowns
abbrev pub named_by : Bool → Name → Outcome → Option Text
named_by naming f o = cond (naming && same_name f unknown_function) (text_given o) None

abbrev pub named_or : (Text → Answer) → Option Text → Answer → Answer
named_or unknown (Some n) b = unknown n
named_or unknown None b = b

-- the answer to a call of this function, by what it gives, and by what is answered of unknowns
abbrev pub call_answer : Bool → (Text → Answer) → Name → Outcome → Answer
call_answer naming unknown f o = named_or unknown (named_by naming f o) (answer_of o)

-- the answer to a construct, by those to its parts
abbrev pub construct_answer : Bool → Facts → LeafAnswers → Operator → Answers → Answer
construct_answer naming facts holds (Call f) (AllEvaluated vs) = call_answer naming (λ n. holds.unknown n None) f (called (facts.function f) vs)
construct_answer naming facts holds op bs = apply_answer facts holds op bs

abbrev mutual
  pub naming_in : Bool → Facts → LeafAnswers → Tree → Answer
  naming_in naming facts holds (Lit l) = Evaluated (Plain l)
  naming_in naming facts holds (Var v) = holds.variable v
  naming_in naming facts holds (Slot s) = holds.slot s
  naming_in naming facts holds (Unknown n ty) = holds.unknown n ty
  naming_in naming facts holds (If t y n) =
      if_answer facts (naming_in naming facts holds t) (naming_in naming facts holds y) (naming_in naming facts holds n) y n
  naming_in naming facts holds (And l r) = and_answer facts (naming_in naming facts holds l) (naming_in naming facts holds r) r
  naming_in naming facts holds (Or l r) = or_answer facts (naming_in naming facts holds l) (naming_in naming facts holds r) r
  naming_in naming facts holds (Apply op ts) = construct_answer naming facts holds op (all_naming_in naming facts holds ts)

  pub all_naming_in : Bool → Facts → LeafAnswers → Trees → Answers
  all_naming_in naming facts holds no_trees = AllEvaluated no_values
  all_naming_in naming facts holds (a_tree t ts) = and_next facts (naming_in naming facts holds t) (all_naming_in naming facts holds ts)

-- ---- how deep that nests, as `evaluation_depth` says of partial evaluation

abbrev pub naming_again : Bool → Facts → LeafAnswers → Operator → Trees → ℕ
naming_again naming facts holds (GetAttr a) (a_tree t no_trees) = left_height (naming_in naming facts holds t)
naming_again naming facts holds op ts = 0

abbrev mutual
  pub naming_depth : Bool → Facts → LeafAnswers → Tree → ℕ
  naming_depth naming facts holds (Lit l) = 1
  naming_depth naming facts holds (Var v) = 1
  naming_depth naming facts holds (Slot s) = 1
  naming_depth naming facts holds (Unknown n ty) = 1
  naming_depth naming facts holds (If t y n) =
      suc (max (naming_depth naming facts holds t) (branch_depth (naming_in naming facts holds t) (naming_depth naming facts holds y) (naming_depth naming facts holds n)))
  naming_depth naming facts holds (And l r) = suc (max (naming_depth naming facts holds l) (branch_depth (naming_in naming facts holds l) (naming_depth naming facts holds r) 0))
  naming_depth naming facts holds (Or l r) = suc (max (naming_depth naming facts holds l) (branch_depth (naming_in naming facts holds l) 0 (naming_depth naming facts holds r)))
  naming_depth naming facts holds (Apply op ts) = max (suc (naming_depths naming facts holds ts)) (naming_again naming facts holds op ts)

  pub naming_depths : Bool → Facts → LeafAnswers → Trees → ℕ
  naming_depths naming facts holds no_trees = 0
  naming_depths naming facts holds (a_tree t ts) = max (naming_depth naming facts holds t) (depth_behind (naming_in naming facts holds t) (naming_depths naming facts holds ts))

-- ---- against the tree whose calls are read as unknowns

-- what is left, its calls read as unknowns
abbrev pub as_read : Answer → Answer
as_read (ResidualTree r) = ResidualTree (read_unknowns r)
as_read b = b

-- what is left calls no function for an unknown
abbrev pub IsPlain : Answer → Type 0
IsPlain (ResidualTree r) = calls_unknown r ≡ false
IsPlain b = Unit {0}

pub record ArePlain (holds : LeafAnswers) : Type 0 where
  pub variable : (v : Variable) → IsPlain (holds.variable v)
  pub unknown : (n : Text) (ty : Option ValueType) → IsPlain (holds.unknown n ty)
  pub slot : (s : SlotId) → IsPlain (holds.slot s)

-- of one text that function gives this text
abbrev pub GivesTexts : Facts → Type 0
GivesTexts facts = (f : Name) → same_name f unknown_function ≡ true → (n : Text) → called (facts.function f) (a_value (Plain (String n)) no_values) ≡ Gives (Plain (String n))

pub record NamesAreRead : Type 0 where
  -- where no call names an unknown this is partial evaluation, and nests as deep
  pub without : (naming : Bool) (facts : Facts) (holds : LeafAnswers) (t : Tree) → (naming && calls_unknown t) ≡ false →
      (naming_in naming facts holds t ≡ partial_in facts holds t) × (naming_depth naming facts holds t ≡ evaluation_depth facts holds t)
  -- and where each call of that function is on one string literal it is partial evaluation of the tree with unknowns in their places,
  -- what is left being read so too, and nests at most one level deeper
  pub reads : (facts : Facts) (holds : LeafAnswers) → GivesTexts facts → ArePlain holds → (t : Tree) → calls_unknown (read_unknowns t) ≡ false →
      (partial_in facts holds (read_unknowns t) ≡ as_read (naming_in true facts holds t)) × (naming_depth true facts holds t ≤ suc (evaluation_depth facts holds (read_unknowns t)))

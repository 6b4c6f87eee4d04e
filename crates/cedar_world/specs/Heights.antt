-- How high what is evaluated may grow, as values are written into it in the places of what they stand for.
use Rattle.std.specs.Prelude.{◌≡◌, ◌≤◌, ◌<◌, ◌+◌, ◌⊎◌, ℕ, suc, max, Bool, true, false, ◌&&◌, cond, Option, Some, None, codes}
use Rattle.std.specs.FinMap as map
use Rattle.cedar_language.specs.Uid.{Text, Name, Uid}
use Rattle.cedar_language.specs.Tree.{Variable, Principal, Action, Resource, Context, SlotId, ValueType, Operator, GetTag, GetAttr, MakeRecord, Call, Tree, Lit, Var, Slot, Unknown, If, And, Or, Apply, Trees, no_trees, a_tree}
use Rattle.cedar_language.specs.Value.{Value, Plain, SetOf, RecordOf, ExtensionOf, Values, no_values, a_value}
use Rattle.cedar_language.specs.Facts.{Held, Function, Facts}
use Rattle.cedar_language.specs.Constructing.{is_the_constructor, constructor_function}
use Rattle.cedar_language.specs.Height.{height}
use Rattle.cedar_language.specs.Slots.{bound_tree}
use Rattle.cedar_language.specs.Meaning.{Slots}
use Rattle.cedar_partial_evaluation.specs.Partial.{Answer, Evaluated, ResidualTree, Failed, LeafAnswers, partial_in}
use Rattle.cedar_partial_evaluation.specs.Question.{held_of}
use Rattle.cedar_grammar.specs.Functions.{evaluated_function}
use Rattle.cedar_grammar.specs.Syntax.{PolicySyntax, condition}
use Rattle.cedar_world.specs.Asking.{Entries, NoContext, WithEntries, Question, Told}
use Rattle.cedar_world.specs.Question.{Extends, IsKnown, HasOpenContext}
use Rattle.cedar_world.specs.Setting.{Setting}
use Rattle.cedar_world.specs.World.{World, EntityData, in_force_at}
use Rattle.cedar_world.specs.WorldFacts.{AreFactsOf}

-- ---- values

-- The height of a value: a literal is 1, a set or a record one more than the highest of what is in it, an extension value 2.
abbrev mutual
  pub value_height : Value → ℕ
  value_height (Plain l) = 1
  value_height (SetOf vs) = suc (value_heights vs)
  value_height (RecordOf ks vs) = suc (value_heights vs)
  value_height (ExtensionOf e) = 2

  pub value_heights : Values → ℕ
  value_heights no_values = 0
  value_heights (a_value v vs) = max (value_height v) (value_heights vs)

-- ---- trees

-- how high at most: what entities hold in an attribute of a name, and in tags; what functions answer; what stands for a name, and for the context
pub record Heights : Type 0 where
  pub held : Text → ℕ
  pub tagged : ℕ
  pub answered : ℕ
  pub named : Text → ℕ
  pub context : ℕ

-- what stands for a variable; a missing one is an unknown that is named as it
abbrev pub variable_height : Heights → Variable → ℕ
variable_height h Principal = h.named (codes "principal")
variable_height h Action = h.named (codes "action")
variable_height h Resource = h.named (codes "resource")
variable_height h Context = h.context

-- what is read by an operator, or called
abbrev pub read_height : Heights → Operator → ℕ
read_height h GetTag = h.tagged
read_height h (GetAttr a) = h.held a
read_height h (Call f) = cond (is_the_constructor f) 0 h.answered
read_height h op = 0

-- how high a tree may grow: its height, where each leaf and what is read or called counts as what may stand in its place
abbrev mutual
  pub grown : Heights → Tree → ℕ
  grown h (Lit l) = 1
  grown h (Var v) = variable_height h v
  grown h (Slot s) = 1
  grown h (Unknown n ty) = h.named n
  grown h (If t y n) = suc (max (grown h t) (max (grown h y) (grown h n)))
  grown h (And l r) = suc (max (grown h l) (grown h r))
  grown h (Or l r) = suc (max (grown h l) (grown h r))
  grown h (Apply op ts) = max (read_height h op) (suc (all_grown h ts))

  pub all_grown : Heights → Trees → ℕ
  all_grown h no_trees = 0
  all_grown h (a_tree t ts) = max (grown h t) (all_grown h ts)

abbrev pub grown_answer : Heights → Answer → ℕ
grown_answer h (Evaluated v) = value_height v
grown_answer h (ResidualTree r) = grown h r
grown_answer h (Failed k) = 0

-- What is held, of leaves and besides, is no higher. A height beyond the limit bounds nothing: what reads so high is too high anyway.
pub record AreWithin (h : Heights) (limit : ℕ) (facts : Facts) (holds : LeafAnswers) : Type 0 where
  pub some_named : (n : Text) → 1 ≤ h.named n
  pub some_context : 1 ≤ h.context
  pub variable : (v : Variable) → variable_height h v ≤ limit → grown_answer h (holds.variable v) ≤ variable_height h v
  pub unknown : (n : Text) (ty : Option ValueType) → grown_answer h (holds.unknown n ty) ≤ h.named n
  pub slot : (s : SlotId) → grown_answer h (holds.slot s) ≤ 1
  pub attribute : (u : Uid) (e : Held) (a : Text) (v : Value) → facts.entity u ≡ Some e → e.attribute a ≡ Some v
      → h.held a ≤ limit → value_height v ≤ h.held a
  pub tag : (u : Uid) (e : Held) (a : Text) (v : Value) → facts.entity u ≡ Some e → e.tag a ≡ Some v → h.tagged ≤ limit → value_height v ≤ h.tagged
  pub constructor : (n : Name) → is_the_constructor n ≡ true → facts.function n ≡ Some constructor_function
  pub function : (n : Name) (f : Function) (vs : Values) (v : Value) → is_the_constructor n ≡ false → facts.function n ≡ Some f
      → f.answer vs ≡ Some v → h.answered ≤ limit → value_height v ≤ h.answered

-- what an evaluation answers, or leaves of a tree, is no higher than the tree may grow, where that is within the limit
abbrev pub AnswersStayWithin : Type 0
AnswersStayWithin =
    (h : Heights) (limit : ℕ) (facts : Facts) (holds : LeafAnswers) → AreWithin h limit facts holds
    → (t : Tree) → grown h t ≤ limit → grown_answer h (partial_in facts holds t) ≤ grown h t

-- a tree with entities in the places of its slots grows as high
abbrev pub BoundTreesGrowAlike : Type 0
BoundTreesGrowAlike = (h : Heights) (slots : Slots) (t : Tree) → grown h (bound_tree slots t) ≡ grown h t

-- ---- a question

-- of a name of which nothing is told it is that of the name
abbrev pub told_height : Option Value → ℕ
told_height (Some v) = value_height v
told_height None = 1

-- of a context as it was written, with what is told in the places of its names
abbrev pub context_height : Heights → Entries → ℕ
context_height h NoContext = h.named (codes "context")
context_height h (WithEntries ks ts) = grown h (Apply (MakeRecord ks) ts)

-- These are heights of what may be written into a condition once these values are told: no attribute or tag that is held is higher,
-- no answer of a function, no value told, and not the question's context with what is told in it. One beyond the limit bounds nothing.
pub record AreHeights (by : Setting) (world : World) (q : Question) (told : Told) (h : Heights) : Type 0 where
  pub attribute : (u : Uid) (e : EntityData) (a : Text) (v : Value) → map.get world.entities u ≡ Some e → map.get e.attributes a ≡ Some v
      → h.held a ≤ by.depth → value_height v ≤ h.held a
  pub tag : (u : Uid) (e : EntityData) (a : Text) (v : Value) → map.get world.entities u ≡ Some e → map.get e.tags a ≡ Some v
      → h.tagged ≤ by.depth → value_height v ≤ h.tagged
  pub function : (n : Name) (f : Function) (vs : Values) (v : Value) → is_the_constructor n ≡ false
      → evaluated_function by.functions n ≡ Some f → f.answer vs ≡ Some v → h.answered ≤ by.depth → value_height v ≤ h.answered
  pub value_told : (n : Text) → told_height (map.get told n) ≤ h.named n
  pub context : h.context ≤ by.depth → context_height h q.context ≤ h.context

-- once no more is told than this, what is held of the question is no higher
abbrev pub HeldIsWithin : Type 0
HeldIsWithin =
    (by : Setting) (world : World) (facts : Facts) (q : Question) (told earlier : Told) (slots : Slots) (h : Heights)
    → AreFactsOf by world facts → AreHeights by world q told h → Extends earlier told → AreWithin h by.depth facts (held_of facts q slots earlier)

-- all these heights are at most so much
pub record AreAtMost (h : Heights) (most : ℕ) : Type 0 where
  pub held : (a : Text) → h.held a ≤ most
  pub tagged : h.tagged ≤ most
  pub answered : h.answered ≤ most
  pub named : (n : Text) → h.named n ≤ most
  pub context : h.context ≤ most

-- a tree grows by no more than the highest of what is written into it
abbrev pub GrowsByHighest : Type 0
GrowsByHighest =
    (by : Setting) (world : World) (q : Question) (told : Told) (h : Heights) (most : ℕ) → AreHeights by world q told h → AreAtMost h most
    → (t : Tree) → grown h t < height t + most

-- a condition in force is higher than the limit
abbrev pub SomeTooHigh : Setting → World → Type 0
SomeTooHigh by world = (id : Text) × (s : PolicySyntax) × (in_force_at world.policies id ≡ Some s) × (by.depth < height (condition s))

-- a condition in force may grow higher than this
abbrev pub SomeGrowsAbove : ℕ → World → Heights → Type 0
SomeGrowsAbove n world h = (id : Text) × (s : PolicySyntax) × (in_force_at world.policies id ≡ Some s) × (n < grown h (condition s))

-- what is left of a condition in force, which is a clause behind `true &&`, may grow higher than the limit
abbrev pub SomeGrowsTooHigh : Setting → World → Heights → Type 0
SomeGrowsTooHigh by world h = (id : Text) × (s : PolicySyntax) × (in_force_at world.policies id ≡ Some s) × (by.depth ≤ grown h (condition s))

-- the context names an unknown, and is higher than the limit with what is told in it
abbrev pub ContextIsTooHigh : Setting → Question → Heights → Type 0
ContextIsTooHigh by q h = HasOpenContext q × (by.depth < context_height h q.context)

-- The question is answered only by an evaluation that is too deep: whatever heights there are, a condition in force grows too high,
-- and where nothing is unknown one is too high as it stands.
abbrev pub AsksTooDeep : Setting → World → Question → Type 0
AsksTooDeep by world q = ((h : Heights) → AreHeights by world q map.empty h → SomeGrowsAbove by.depth world h) × (IsKnown q → SomeTooHigh by world)

-- The same once these values are told, when the context is evaluated again too.
abbrev pub TellsTooDeep : Setting → World → Question → Told → Type 0
TellsTooDeep by world q told = (h : Heights) → AreHeights by world q told h → SomeGrowsTooHigh by world h ⊎ ContextIsTooHigh by q h

-- ---- conditions that nothing is written into

-- neither an attribute, a tag, the context nor an unknown is read, and no function called but the language's own constructor
abbrev mutual
  pub reads_nothing : Tree → Bool
  reads_nothing (Lit l) = true
  reads_nothing (Var Context) = false
  reads_nothing (Var v) = true
  reads_nothing (Slot s) = true
  reads_nothing (Unknown n ty) = false
  reads_nothing (If t y n) = reads_nothing t && (reads_nothing y && reads_nothing n)
  reads_nothing (And l r) = reads_nothing l && reads_nothing r
  reads_nothing (Or l r) = reads_nothing l && reads_nothing r
  reads_nothing (Apply GetTag ts) = false
  reads_nothing (Apply (GetAttr a) ts) = false
  reads_nothing (Apply (Call f) ts) = is_the_constructor f && all_read_nothing ts
  reads_nothing (Apply op ts) = all_read_nothing ts

  pub all_read_nothing : Trees → Bool
  all_read_nothing no_trees = true
  all_read_nothing (a_tree t ts) = reads_nothing t && all_read_nothing ts

-- each condition in force reads nothing, and is no higher than this
abbrev pub EachReadsNothing : ℕ → World → Type 0
EachReadsNothing n world =
    (id : Text) (s : PolicySyntax) → in_force_at world.policies id ≡ Some s → (reads_nothing (condition s) ≡ true) × (height (condition s) ≤ n)

-- what was told for the principal, the action and the resource is no higher than a uid
abbrev pub TellsUids : Told → Type 0
TellsUids told = (told_height (map.get told (codes "principal")) ≡ 1) × (told_height (map.get told (codes "action")) ≡ 1) × (told_height (map.get told (codes "resource")) ≡ 1)

-- So of such conditions no evaluation is too deep, whatever is held, and whatever functions answer.
pub record UnreadIsNeverTooDeep : Type 0 where
  pub asks : (by : Setting) (world : World) (q : Question) → EachReadsNothing by.depth world → AsksTooDeep by world q → ⊥
  pub tells : (by : Setting) (world : World) (q : Question) (told : Told) (n : ℕ) → n < by.depth → EachReadsNothing n world
      → TellsUids told → (HasOpenContext q → ⊥) → TellsTooDeep by world q told → ⊥

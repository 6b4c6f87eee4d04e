-- What accesses have made of an operand so far.
use Rattle.std.specs.Prelude.{◌≡◌, ⊤, length, Option, Some, None, Result, Ok, Err, Vec}
use Rattle.std.specs.Global.{Global}
use Rattle.cedar_builders.specs.Operations.{Operations}
use Rattle.cedar_grammar.specs.Names.{Names}
use Rattle.cedar_grammar.specs.Converting as converting
use Rattle.cedar_cst.specs.LeafView.{shown_name}
use Rattle.cedar_faults.specs.declared.kinds.ToASTErrorKind.{ToASTErrorKind}
use Rattle.cedar_faults.specs.declared.errors.ConversionError.{ConversionError}
use Rattle.cedar_faults.specs.Converts.{Converts}
use Rattle.cedar_conversion.specs.declared.heads.Head.{Head}
use Rattle.cedar_conversion.specs.declared.heads.Head.TheVariants as head
use Rattle.cedar_conversion.specs.Building.{IsBuilt, IsRefused}
use Rattle.cedar_conversion.specs.Choices.{Used}
use Rattle.cedar_conversion.specs.Shows.{Before, a_name, an_attribute, an_operand, use_shows, call_shows}

abbrev pub IsHead : {E M R : Type 0} → Operations M R → (E → M) → Head E → converting.Head → Type 0
IsHead o meaning (head.Expr e) (converting.a_tree t) = IsBuilt o meaning e t
IsHead o meaning (head.Name n) (converting.a_name x) = shown_name n.now ≡ x
IsHead o meaning (head.Attribute e id at) (converting.an_attribute t s) = IsBuilt o meaning e t × (id ≡ s)
IsHead o meaning h g = ⊥

-- the operations make nothing of the expression in it
abbrev pub IsHeadRefused : {M R : Type 0} → Operations M R → converting.Head → Type 0
IsHeadRefused o (converting.a_tree t) = IsRefused o t
IsHeadRefused o (converting.a_name x) = ⊥
IsHeadRefused o (converting.an_attribute t s) = IsRefused o t

abbrev pub MakesHead : {E B M R : Type 0} → Operations M R → (E → M) → (B → Option R) → Result (Head E) (ConversionError B) → Option converting.Head → Type 0
MakesHead o meaning refusal result want = Converts (IsHead o meaning) (IsHeadRefused o) refusal result want

-- ---- which kinds of faults it shows

-- what is there, if it is
abbrev pub given : {A E : Type 0} → Result A E → Option A
given (Ok x) = Some x
given (Err e) = None

-- what it is to the next access
abbrev pub before_of : {E : Type 0} → Head E → Before
before_of (head.Expr e) = an_operand
before_of (head.Name n) = a_name (shown_name n.now)
before_of (head.Attribute e id at) = an_attribute (Some id)

-- the same, where it is there
abbrev pub IsBefore : {E B : Type 0} → Result (Head E) (ConversionError B) → Before → Type 0
IsBefore (Ok h) b = b ≡ before_of h
IsBefore (Err e) b = ⊤

-- of what is used so, where it is there
abbrev pub head_shows : {E B : Type 0} → Used → Result (Head E) (ConversionError B) → ToASTErrorKind → Type 0
head_shows used (Ok h) kind = use_shows (before_of h) used kind
head_shows used (Err e) kind = ⊥

-- of what is called with these arguments, where both are there
abbrev pub called_shows : {E B : Type 0} → Names → Result (Head E) (ConversionError B) → Result (Vec E Global) (ConversionError B) → ToASTErrorKind → Type 0
called_shows names (Err e) args kind = ⊥
called_shows names (Ok h) (Err e) kind = ⊥
called_shows names (Ok h) (Ok xs) kind = call_shows names (before_of h) (length xs.items) kind

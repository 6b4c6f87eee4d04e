-- What a text is by the strict grammar, or why it is refused. (Cedar language reference, "Grammar specification".)
use Rattle.std.specs.Prelude.{◌≡◌, ◌⊎◌, ◌<◌, ◌≤◌, ⊤, ℕ, false, codes, List, Option, Some, None, Result, Ok, Err}
use Rattle.cedar_language.specs.Uid.{Text, Uid}
use Rattle.cedar_language.specs.Height.{height}
use Rattle.cedar_language.specs.Restricted.{is_restricted}
use Rattle.cedar_language.specs.Tree.{Tree}
use Rattle.cedar_grammar.specs.Grammar.{IsEntity}
use Rattle.cedar_grammar.specs.Names.{Names, is_among, is_function}
use Rattle.cedar_grammar.specs.Nesting.{loose_nesting}
use Rattle.cedar_grammar.specs.Policies.{Reads, ReadsExpr}
use Rattle.cedar_grammar.specs.Policy.{Policy}
use Rattle.cedar_grammar.specs.Token.{Token}
use Rattle.cedar_grammar.specs.Tokens.{IsTokens}
use Rattle.cedar_grammar.specs.Functions.{the_unknown}
use Rattle.cedar_faults.specs.Reasons as reasons
use Rattle.cedar_faults.specs.Reasons.{Reason}
use Rattle.cedar_parser.specs.Errors.{Cause, outside_the_grammar, means_nothing, nested_too_deep, out_of_memory, cause_of}
use Rattle.cedar_parser.specs.declared.errors.ParseErrors.{ParseErrors}
use Rattle.cedar_grammar.specs.Loose as loose
use Rattle.cedar_grammar.specs.LooseReading.{read_policies}
use Rattle.cedar_loose.specs.Texts.{IsRead}
use Rattle.cedar_policy_conversion.specs.Gathered.{AreGathered}
use Rattle.cedar_policy_conversion.specs.declared.gathered.GatheredPolicies.{GatheredPolicies}
use Rattle.cedar_policy_set.specs.Entries.{Entries}
use Rattle.cedar_policy_set.specs.Texts.{text_entries}
use Rattle.cedar_restricted.specs.Offences.{offence, refused_offence}
use Rattle.cedar_restricted.specs.Views.{restricted_tree}
use Rattle.cedar_restricted.specs.declared.errors.RestrictedExpressionError.TheVariants as refused
use Rattle.cedar_restricted.specs.declared.restricted.RestrictedExpr.{RestrictedExpr}
use Rattle.cedar_parser.specs.declared.restricted.RestrictedExpressionParseError.{RestrictedExpressionParseError}
use Rattle.cedar_parser.specs.declared.restricted.RestrictedExpressionParseError.TheVariants as parse
use Rattle.cedar_trees.specs.Bare.{bare}
use Rattle.cedar_trees.specs.declared.expr.Expr.{Expr}

-- ---- why a text is refused

-- Where `Is m y` says that the text is y within a nesting of m: it is nothing within any nesting; or nothing within the limit, and
-- it has more places that open a construct. Of memory nothing is said.
abbrev pub IsRefused : {Y : Type 0} → (ℕ → Y → Type 0) → ℕ → Text → Cause → Type 0
IsRefused {Y} Is n text outside_the_grammar = (m : ℕ) (y : Y) → Is m y → ⊥
IsRefused {Y} Is n text means_nothing = (m : ℕ) (y : Y) → Is m y → ⊥
IsRefused {Y} Is n text nested_too_deep = ((y : Y) → Is n y → ⊥) × (n < loose_nesting text)
IsRefused Is n text out_of_memory = ⊤

-- ---- what a text is

abbrev pub ReadsTree : Names → ℕ → Text → Result (Expr (Unit {0})) ParseErrors → Type 0
ReadsTree names n text (Ok e) = ReadsExpr names n text (bare e)
ReadsTree names n text (Err errors) = IsRefused (λ m t. ReadsExpr names m text t) n text (cause_of errors.0.head)

-- its policies, under their numbers
abbrev pub ReadsSet : Names → ℕ → Text → Result Entries ParseErrors → Type 0
ReadsSet names n text (Ok es) = (ss : List Policy) × Reads names n text ss × (es ≡ text_entries 0 ss)
ReadsSet names n text (Err errors) = IsRefused (λ m ss. Reads names m text ss) n text (cause_of errors.0.head)

-- ---- on the way there

-- the errors of a text whose tree isn't converted for this reason
abbrev pub IsToldAs : {E : Type 0} → Reason E → Cause → Type 0
IsToldAs reasons.means_nothing told = (told ≡ means_nothing) ⊎ (told ≡ out_of_memory)
IsToldAs (reasons.refused e) told = told ≡ out_of_memory
IsToldAs reasons.out_of_memory told = told ≡ out_of_memory

-- what a loose tree doesn't write
abbrev pub WritesNot : {W : Type 0} → Cause → Option W → Type 0
WritesNot outside_the_grammar want = ⊥
WritesNot means_nothing want = want ≡ None
WritesNot nested_too_deep want = ⊥
WritesNot out_of_memory want = ⊤

-- what a loose tree writes, seen so
abbrev pub Writes : {E W : Type 0} → (E → W) → Result E ParseErrors → Option W → Type 0
Writes seen (Ok e) want = want ≡ Some (seen e)
Writes seen (Err errors) want = WritesNot (cause_of errors.0.head) want

-- the policies that the text's loose tree has, gathered in its order
abbrev pub GathersText : Names → ℕ → Text → GatheredPolicies → Type 0
GathersText names n text policies = (ps : List loose.Policy) × IsRead read_policies n text (loose.policies ps) × AreGathered names ps policies

-- neither a function nor a method is called `unknown`
abbrev pub LacksUnknown : Names → Type 0
LacksUnknown names = (is_function names the_unknown ≡ false) × (is_among (codes "unknown") names.methods ≡ false)

-- ---- restricted expressions

-- it is a tree that is higher than the limit, or nothing within the limit, and has more places that open a construct
abbrev pub IsTooDeep : Names → ℕ → Text → Type 0
IsTooDeep names n text =
    ((t : Tree) × ReadsExpr names n text t × (n < height t))
    ⊎ (((t : Tree) → ReadsExpr names n text t → ⊥) × (n < loose_nesting text))

abbrev pub IsUnread : Names → ℕ → Text → Cause → Type 0
IsUnread names n text outside_the_grammar = (m : ℕ) (t : Tree) → ReadsExpr names m text t → ⊥
IsUnread names n text means_nothing = (m : ℕ) (t : Tree) → ReadsExpr names m text t → ⊥
IsUnread names n text nested_too_deep = IsTooDeep names n text
IsUnread names n text out_of_memory = ⊤

-- a tree that is no higher than the limit, of which this holds
abbrev pub IsLowTree : Names → ℕ → Text → (Tree → Type 0) → Type 0
IsLowTree names n text Holds = (t : Tree) × ReadsExpr names n text t × (height t ≤ n) × Holds t

abbrev pub ReadsRestricted : Names → ℕ → Text → Result RestrictedExpr RestrictedExpressionParseError → Type 0
ReadsRestricted names n text (Ok e) = IsLowTree names n text (λ t. t ≡ restricted_tree e)
ReadsRestricted names n text (Err (parse.Parse errors)) = IsUnread names n text (cause_of errors.0.head)
ReadsRestricted names n text (Err (parse.InvalidRestrictedExpression (refused.InvalidRestrictedExpression e))) = IsLowTree names n text (λ t. is_restricted t ≡ false)
ReadsRestricted names n text (Err (parse.InvalidRestrictedExpression (refused.Memory e))) = ⊤

-- the error of a tree that isn't restricted has the first part that may not stand in it, and what that part is called
abbrev pub TellsOffence : Names → ℕ → Text → RestrictedExpressionParseError → Type 0
TellsOffence names n text (parse.Parse errors) = ⊤
TellsOffence names n text (parse.InvalidRestrictedExpression (refused.InvalidRestrictedExpression e)) = IsLowTree names n text (λ t. offence t ≡ Some (refused_offence e))
TellsOffence names n text (parse.InvalidRestrictedExpression (refused.Memory e)) = ⊤

-- the same tree, known to be restricted; or why it isn't
abbrev pub Keeps : Tree → Result RestrictedExpr RestrictedExpressionParseError → Type 0
Keeps t (Ok e) = restricted_tree e ≡ t
Keeps t (Err (parse.Parse errors)) = ⊥
Keeps t (Err (parse.InvalidRestrictedExpression (refused.InvalidRestrictedExpression e))) = (is_restricted t ≡ false) × (offence t ≡ Some (refused_offence e))
Keeps t (Err (parse.InvalidRestrictedExpression (refused.Memory e))) = ⊤

-- ---- entities and literals

-- the text is nothing; of memory nothing is said
abbrev pub IsNothing : {Y : Type 0} → (Y → Type 0) → Cause → Type 0
IsNothing {Y} Is outside_the_grammar = (y : Y) → Is y → ⊥
IsNothing {Y} Is means_nothing = (y : Y) → Is y → ⊥
IsNothing Is nested_too_deep = ⊥
IsNothing Is out_of_memory = ⊤

-- the text is this entity
abbrev pub ReadsEntity : Text → Uid → Type 0
ReadsEntity text u = (ts : List Token) × IsTokens text ts × IsEntity ts u

abbrev pub ReadsUid : Text → Result Uid ParseErrors → Type 0
ReadsUid text (Ok u) = ReadsEntity text u
ReadsUid text (Err errors) = IsNothing (ReadsEntity text) (cause_of errors.0.head)

-- What stands alone, one step at a time.
use Rattle.std.specs.Prelude.{ℕ, Option, Some, None}
use Rattle.cedar_language.specs.Uid.{Text}
use Rattle.cedar_grammar.specs.Loose as loose
use Rattle.cedar_grammar.specs.Steps.{◌>>=◌}
use Rattle.cedar_grammar.specs.Converting.{ident_text, without_accesses}

abbrev pub only_or : loose.Expr → Option loose.Or
only_or (loose.or_expr o) = Some o
only_or e = None

abbrev pub only_and : loose.Or → Option loose.And
only_and (loose.or a loose.no_ands) = Some a
only_and o = None

abbrev pub only_relation : loose.And → Option loose.Relation
only_relation (loose.and a loose.no_relations) = Some a
only_relation a = None

abbrev pub only_add : loose.Relation → Option loose.Add
only_add (loose.common a loose.no_adds) = Some a
only_add r = None

abbrev pub only_mult : loose.Add → Option loose.Mult
only_mult (loose.add a loose.no_mults) = Some a
only_mult a = None

abbrev pub only_unary : loose.Mult → Option loose.Unary
only_unary (loose.mult a loose.no_unaries) = Some a
only_unary m = None

-- the relation that stands alone
abbrev pub lone_relation : loose.Expr → Option loose.Relation
lone_relation e = only_or e >>= only_and >>= only_relation

-- without signs
abbrev pub unsigned : loose.Unary → Option loose.Member
unsigned (loose.unary None m) = Some m
unsigned u = None

-- the literal, or the name, that a primary is
abbrev pub only_literal : loose.Primary → Option loose.Literal
only_literal (loose.literal l) = Some l
only_literal p = None

abbrev pub only_name : loose.Primary → Option loose.Name
only_name (loose.named n) = Some n
only_name p = None

-- the expression that a primary holds in brackets
abbrev pub only_expr : loose.Primary → Option loose.Expr
only_expr (loose.expr e) = Some e
only_expr p = None

abbrev pub number_of : loose.Literal → Option ℕ
number_of (loose.num n) = Some n
number_of l = None

-- the word behind a dot
abbrev pub access_word : loose.MemAccess → Option Text
access_word (loose.field i) = ident_text i
access_word x = None

-- a literal that is there
abbrev pub read_literal : loose.Literal → Option loose.Literal
read_literal loose.missing_literal = None
read_literal l = Some l

-- the literal that a member is, without accesses
abbrev pub lone_literal : loose.Member → Option loose.Literal
lone_literal m = without_accesses m >>= λ p. only_literal p >>= read_literal

-- how deep the value of a node nests, by the size of such values; one without a value doesn't
abbrev pub depth : {A : Type 0} → (A → ℕ) → Option A → ℕ
depth size None = 0
depth size (Some x) = size x

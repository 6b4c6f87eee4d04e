-- Parts of policies that may be missing.
use Rattle.std.specs.Prelude.{List, Option, Some, None, Ok}
use Rattle.cedar_grammar.specs.Token as token
use Rattle.cedar_grammar.specs.Token.{Token}
use Rattle.cedar_grammar.specs.Steps.{eat, text_read}
use Rattle.cedar_grammar.specs.Loose as loose
use Rattle.cedar_grammar.specs.LooseReading.{Reading, Reader, ◌>>◌, needed}
use Rattle.cedar_cst.specs.declared.node.Node.{Node}
use Rattle.cedar_cst.specs.declared.leaves.RelOp.{RelOp}
use Rattle.cedar_cst.specs.LeafView.{view_rel_op}
use Rattle.cedar_cst.specs.declared.cst.Expr.{Expr}
use Rattle.cedar_cst.specs.View.{shown_expr}

-- an operator, and what it compares with
abbrev pub compared_expr : RelOp × Node (Option Expr) → loose.RelOp × loose.Expr
compared_expr x = (view_rel_op x.0, shown_expr x.1)

abbrev pub valued : List Token → Option (List Token) → Reading (Option loose.Str)
valued ts None = Ok (None, ts)
valued ts (Some us) = needed (text_read us) >> λ raw. needed (eat token.RightParen raw.1) >> λ vs. Ok (Some (loose.string raw.0), vs)

-- the value of an annotation, in parentheses
abbrev pub value_of : Reader (Option loose.Str)
value_of ts = valued ts (eat token.LeftParen ts)

abbrev pub inside : Reader loose.Expr → List Token → Option (List Token) → Reading (Option loose.Expr)
inside whole ts (Some us) = Ok (None, us)
inside whole ts None = whole ts >> λ e. needed (eat token.RightBrace e.1) >> λ us. Ok (Some e.0, us)

-- what stands between the braces of a clause
abbrev pub clause_of : Reader loose.Expr → Reader (Option loose.Expr)
clause_of whole ts = inside whole ts (eat token.RightBrace ts)

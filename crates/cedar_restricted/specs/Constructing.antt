-- The arguments of the language's own constructor of extension values, as they are written and read.
use Rattle.std.specs.Prelude.{ℕ, pos, nat_lt, cond, Option, Some, None}
use Rattle.cedar_language.specs.Uid.{Name}
use Rattle.cedar_language.specs.Tree.{Long, Entity, Tree, Lit}
use Rattle.cedar_language.specs.Value.{Value, Plain}

abbrev pub type_in : Value → Option Name
type_in (Plain (Entity u)) = Some u.type_name
type_in v = None

abbrev pub byte_in : Value → Option ℕ
byte_in (Plain (Long (pos b))) = cond (nat_lt b 256) (Some b) None
byte_in v = None

-- a byte of a key, as it is written
abbrev pub long_tree : ℕ → Tree
long_tree b = Lit (Long (pos b))

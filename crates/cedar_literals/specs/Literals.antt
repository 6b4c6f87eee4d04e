-- Literals: their order, and what they feed a hasher.
use Rattle.std.specs.Prelude.{◌≡◌, ◌++◌, Bool, if◌then◌else◌, codes, refl}
use Rattle.std.specs.Fmt.{signed_decimal}
use Rattle.cedar_language.specs.Uid.{Text, Uid}
use Rattle.cedar_literals.specs.Escapes.{escaped, uid_text}
use Rattle.std.specs.Rc.{rc_str_bytes}
use Rattle.std.specs.declared.cmp.Ordering.{Ordering}
use Rattle.std.specs.Ordering.{on, eq_by_cmp}
use Rattle.std.specs.Bool.{Decides}
use Rattle.std.specs.Cmp.{IsTotalOrder}
use Rattle.std.specs.FinMap.{IsAntisymmetric}
use Rattle.std.specs.Hash as fed
use Rattle.std.specs.Hash.{HashWrites, Alike, same_Alike, on_Alike}
use Rattle.std.proofs.lemmas.Cmp.{on_total}
use Rattle.cedar_language.specs.Tree as tree
use Rattle.cedar_language.specs.Value.{Plain}
use Rattle.cedar_language.specs.Order.{head_cmp, literal_head}
use Rattle.cedar_language.specs.OrderLaws.{value_cmp_same}
use Rattle.cedar_literals.specs.Uids.{uid_hash}
use Rattle.cedar_literals.specs.Heads.{head_cmp_total, order_decides}
use Rattle.cedar_literals.specs.declared.literals.Literal.{Literal}
use Rattle.cedar_literals.specs.declared.literals.Literal.TheVariants.{Bool as ABool, Long, String, EntityUID}

-- a literal, as the language has it
abbrev pub literal_of : Literal → tree.Literal
literal_of (ABool b) = tree.Boolean b
literal_of (Long n) = tree.Long n
literal_of (String s) = tree.String (rc_str_bytes s)
literal_of (EntityUID u) = tree.Entity u.value

abbrev pub IsEntity : tree.Literal → Type 0
IsEntity l = (u : Uid) × (l ≡ tree.Entity u)

-- how a literal is written: a string between quotes, with escapes
abbrev pub literal_text : tree.Literal → Text
literal_text (tree.Boolean b) = if b then codes "true" else codes "false"
literal_text (tree.Long n) = signed_decimal n
literal_text (tree.String s) = codes "\"" ++ escaped s ++ codes "\""
literal_text (tree.Entity u) = uid_text u

-- the order of values, at literals: Booleans, longs, strings, entities
abbrev pub literal_cmp : tree.Literal → tree.Literal → Ordering
literal_cmp = on literal_head head_cmp

abbrev pub same_literal : tree.Literal → tree.Literal → Bool
same_literal = eq_by_cmp literal_cmp

-- the number of its kind, and what it holds
abbrev pub literal_hash : tree.Literal → HashWrites
literal_hash (tree.Boolean b) = fed.u8 0 ++ fed.bool b
literal_hash (tree.Long n) = fed.u8 1 ++ fed.i64 n
literal_hash (tree.String s) = fed.u8 2 ++ fed.str s
literal_hash (tree.Entity u) = fed.u8 3 ++ uid_hash u

pub literal_cmp_total : IsTotalOrder literal_cmp
literal_cmp_total = on_total literal_head head_cmp_total

plain_inj : (l m : tree.Literal) → Plain l ≡ Plain m → l ≡ m
plain_inj l m e = cc

pub literal_cmp_same : IsAntisymmetric literal_cmp
literal_cmp_same l m e = plain_inj l m (value_cmp_same (Plain l) (Plain m) (rw e refl))

pub same_literal_decides : (l m : tree.Literal) → Decides (same_literal l m) (l ≡ m)
same_literal_decides = order_decides literal_cmp_total literal_cmp_same

-- the same, at the literals of the code
abbrev pub order_of_literals : Literal → Literal → Ordering
order_of_literals = on literal_of literal_cmp

pub literals_total : IsTotalOrder order_of_literals
literals_total = on_total literal_of literal_cmp_total

pub literals_alike : Alike (eq_by_cmp order_of_literals) (λ l. literal_hash (literal_of l))
literals_alike = on_Alike literal_of (same_Alike literal_hash same_literal_decides)

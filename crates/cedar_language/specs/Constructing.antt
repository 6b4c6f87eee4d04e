-- How an extension value is written as a tree: as a call of the language's own constructor of extension values, which gives
-- the value again whatever functions a caller has. No text calls it. (Cedar language reference, "Extension functions".)
use Rattle.std.specs.Prelude.{ℕ, pos, nat_lt, Bool, cond, List, [], ◌∷◌, Option, Some, None, codes}
use Rattle.std.specs.Option.{option_map}
use Rattle.cedar_language.specs.Uid.{Name}
use Rattle.cedar_language.specs.Tree.{Boolean, Long, Entity, Call, Tree, Lit, Apply, Trees, no_trees, a_tree}
use Rattle.cedar_language.specs.Value.{Extension, Value, Plain, ExtensionOf, Values, no_values, a_value}
use Rattle.cedar_language.specs.Order.{same_name}
use Rattle.cedar_language.specs.Facts.{Function}

-- its name
abbrev pub the_constructor : Name
the_constructor = codes "extension_value" ∷ []

abbrev pub is_the_constructor : Name → Bool
is_the_constructor name = same_name name the_constructor

-- ---- the call for a value: its type, as that of an entity without an id, whether the type has an order, and the bytes of the key

abbrev pub longs_of : List ℕ → Trees
longs_of [] = no_trees
longs_of (b ∷ bs) = a_tree (Lit (Long (pos b))) (longs_of bs)

abbrev pub construction : Extension → Tree
construction e = Apply (Call the_constructor) (a_tree (Lit (Entity (record { type_name = e.type_name; id = [] }))) (a_tree (Lit (Boolean e.ordered)) (longs_of e.key)))

-- ---- what the constructor gives

abbrev pub and_byte : ℕ → Option (List ℕ) → Option (List ℕ)
and_byte b (Some bs) = cond (nat_lt b 256) (Some (b ∷ bs)) None
and_byte b None = None

-- the bytes that longs are, where all of them are bytes
abbrev pub bytes_of : Values → Option (List ℕ)
bytes_of no_values = Some []
bytes_of (a_value (Plain (Long (pos b))) vs) = and_byte b (bytes_of vs)
bytes_of (a_value v vs) = None

abbrev pub constructed : Values → Option Value
constructed (a_value (Plain (Entity u)) (a_value (Plain (Boolean b)) vs)) =
    option_map (λ key. ExtensionOf (record { type_name = u.type_name; ordered = b; key = key })) (bytes_of vs)
constructed vs = None

abbrev pub constructor_function : Function
constructor_function = record { takes = None; answer = constructed }

-- what a name calls: the constructor, or one of these functions
abbrev pub or_constructor : (Name → Option Function) → Name → Option Function
or_constructor function name = cond (is_the_constructor name) (Some constructor_function) (function name)

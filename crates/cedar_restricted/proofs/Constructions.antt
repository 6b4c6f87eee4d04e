-- Calls of the language's own constructor, as they are written and read.
use Rattle.std.proofs.Common.{rules, ◌≡◌, ◌∙◌, ℕ, refl, ap, Bool, List, [], ◌∷◌, map, Some}
use Rattle.cedar_language.specs.Uid.{Name, Uid}
use Rattle.cedar_language.specs.Tree.{Boolean, Entity, Call, Tree, Lit, Apply, a_tree}
use Rattle.cedar_language.specs.Value.{Extension, Value, Plain, ExtensionOf}
use Rattle.cedar_language.specs.Constructing.{the_constructor, longs_of, construction, bytes_of, constructed}
use Rattle.cedar_language.specs.Order.{all_of}
use Rattle.cedar_grammar.specs.Build.{trees}
use Rattle.cedar_restricted.specs.Constructing.{long_tree, type_in}
use Rattle.cedar_values.specs.Readers.{boolean_in}

longs_written : (bs : List ℕ) → trees (map long_tree bs) ≡ longs_of bs
longs_written [] = refl
longs_written (b ∷ bs) = ap (a_tree (long_tree b)) (longs_written bs)

abbrev pub entity_of : Name → Uid
entity_of n = record { type_name = n; id = [] }

pub call_written : (e : Extension) (n : Name) (ts : List Tree) (t : Tree) → t ≡ Apply (Call n) (trees ts) → n ≡ the_constructor
    → ts ≡ Lit (Entity (entity_of e.type_name)) ∷ Lit (Boolean e.ordered) ∷ map long_tree e.key → t ≡ construction e
call_written e n ts t is named parts =
    is ∙ ap (λ m. Apply (Call m) (trees ts)) named ∙ ap (λ us. Apply (Call the_constructor) (trees us)) parts
    ∙ ap (λ us. Apply (Call the_constructor) (a_tree (Lit (Entity (entity_of e.type_name))) (a_tree (Lit (Boolean e.ordered)) us))) (longs_written e.key)

-- ---- read

pub read_back : (v w : Value) (longs : List Value) (n : Name) (b : Bool) (key : List ℕ) → type_in v ≡ Some n → boolean_in w ≡ Some b → bytes_of (all_of longs) ≡ Some key
    → Some (ExtensionOf (record { type_name = n; ordered = b; key = key })) ≡ constructed (all_of (v ∷ w ∷ longs))
read_back (Plain (Entity u)) (Plain (Boolean c)) longs n b key typed told bytes = search (rules, typed, told, bytes)
read_back v w longs n b key typed told bytes = search (rules, typed, told, bytes)

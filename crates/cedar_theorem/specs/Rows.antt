-- Worked rows: a body that asks, a link and entities, as the definitions of the theorem read them.
use Rattle.std.specs.Prelude.{◌≡◌, pos, true, false, [], ◌∷◌, codes}
use Rattle.cedar_language.specs.Uid.{Text, Uid}
use Rattle.cedar_language.specs.Tree.{Boolean, Long, Entity, MakeSet, MakeRecord, Tree, Lit, Apply, Trees, no_trees, a_tree}
use Rattle.cedar_language.specs.Value.{Plain, RecordOf, no_values, a_value}
use Rattle.cedar_language.specs.Authorization.{Known}
use Rattle.cedar_grammar.specs.Functions.{Functions}
use Rattle.cedar_theorem.specs.Holdings.{Entities, IsBody, nobody, put_all, add_all, without}
use Rattle.cedar_theorem.specs.Theorem.{Asks}

abbrev pub user : Text → Uid
user id = record { type_name = codes "User" ∷ []; id = id }

-- {action: User::"b", context: {strict: true}, principal: User::"a", resource: User::"c"}
abbrev pub asking : Tree
asking = Apply (MakeRecord (codes "action" ∷ codes "context" ∷ codes "principal" ∷ codes "resource" ∷ []))
    (a_tree (Lit (Entity (user (codes "b")))) (a_tree (Apply (MakeRecord (codes "strict" ∷ [])) (a_tree (Lit (Boolean true)) no_trees))
    (a_tree (Lit (Entity (user (codes "a")))) (a_tree (Lit (Entity (user (codes "c")))) no_trees))))

abbrev pub asked : Known
asked = record {
  principal = user (codes "a");
  action = user (codes "b");
  resource = user (codes "c");
  context = RecordOf (codes "strict" ∷ []) (a_value (Plain (Boolean true)) no_values);
}

-- [{attrs: {age: 3}, parents: [User::"b"], uid: User::"a"}]
abbrev pub one_entity : Tree
one_entity = Apply (MakeRecord (codes "attrs" ∷ codes "parents" ∷ codes "uid" ∷ []))
    (a_tree (Apply (MakeRecord (codes "age" ∷ [])) (a_tree (Lit (Long (pos 3))) no_trees))
    (a_tree (Apply MakeSet (a_tree (Lit (Entity (user (codes "b")))) no_trees)) (a_tree (Lit (Entity (user (codes "a")))) no_trees)))

-- the same entity without anything
abbrev pub bare : Tree
bare = Apply (MakeRecord (codes "uid" ∷ [])) (a_tree (Lit (Entity (user (codes "a")))) no_trees)

-- what is held where such a list is put or added, and nothing was
abbrev pub after_put : Functions → Trees → Entities
after_put functions ts = put_all functions nobody ts

abbrev pub after_add : Functions → Trees → Entities
after_add functions ts = add_all functions nobody ts

abbrev pub a : Uid
a = user (codes "a")

abbrev pub b : Uid
b = user (codes "b")

pub record Rows (functions : Functions) : Type 0 where
  pub asks : (text : Text) → IsBody functions text asking → Asks functions text asked
  pub put : (after_put functions (a_tree one_entity no_trees)).has_parent a b ≡ true
  pub other : (after_put functions (a_tree one_entity no_trees)).has_parent b a ≡ false
  pub last_put : (after_put functions (a_tree one_entity (a_tree bare no_trees))).has_parent a b ≡ false
  pub first_added : (after_add functions (a_tree one_entity (a_tree bare no_trees))).has_parent a b ≡ true
  pub removed : (without (after_put functions (a_tree one_entity no_trees)) (a_tree (Lit (Entity b)) no_trees)).has_parent a b ≡ false

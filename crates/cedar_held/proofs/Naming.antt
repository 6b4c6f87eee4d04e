-- The bodies of the world, from those that are written.
use Rattle.std.proofs.Common.{◌≡◌, ◌∙◌, refl, ap, sym, Bool, true, false, cond, Option, Some, None, option_map, List, [], ◌∷◌, map, codes}
use Rattle.cedar_language.specs.Uid.{Text, Uid}
use Rattle.cedar_language.specs.Tree.{Tree, Trees, no_trees, a_tree, Apply, MakeRecord}
use Rattle.cedar_grammar.specs.UnknownCalls.{named, all_named}
use Rattle.cedar_world.specs.Bodies.{Fields, EntityBody, zipped, found, and_then, each, read_with, are_among, required, optional, if_there, only_with, entity_of, uids_of, trees_of, fields_of, named_fields, entity_with, entity_fields, entity_body, entity_bodies}
use Rattle.cedar_held.specs.Entities.{written_fields, written_body, written_bodies, named_all, named_body}

zipped_named : (ks : List Text) (ts : Trees) → zipped ks (all_named ts) ≡ named_all (zipped ks ts)
zipped_named [] ts = refl
zipped_named (k ∷ ks) no_trees = refl
zipped_named (k ∷ ks) (a_tree t ts) = ap (λ l. (k, named t) ∷ l) (zipped_named ks ts)

named_so : (t : Tree) → named_fields t ≡ option_map named_all (fields_of t)
named_so (Apply (MakeRecord ks) ts) = ap Some (zipped_named ks ts)
named_so t = refl

inside : (o : Option Fields) → option_map (λ a. Some a) (option_map named_all o) ≡ option_map (option_map named_all) (option_map (λ a. Some a) o)
inside None = refl
inside (Some fs) = refl

if_named : (o : Option Tree) → if_there named_fields o ≡ option_map (option_map named_all) (if_there fields_of o)
if_named None = refl
if_named (Some t) = ap (option_map (λ a. Some a)) (named_so t) ∙ inside (fields_of t)

named_with : (x : Option Uid) (y : Option (Option (List Uid))) (z w : Option (Option Fields))
    → option_map named_body (entity_with x y z w) ≡ entity_with x y (option_map (option_map named_all) z) (option_map (option_map named_all) w)
named_with None y z w = refl
named_with (Some x) None z w = refl
named_with (Some x) (Some y) None w = refl
named_with (Some x) (Some y) (Some z) None = refl
named_with (Some x) (Some y) (Some None) (Some None) = refl
named_with (Some x) (Some y) (Some None) (Some (Some w)) = refl
named_with (Some x) (Some y) (Some (Some z)) (Some None) = refl
named_with (Some x) (Some y) (Some (Some z)) (Some (Some w)) = refl

fields_named : (fs : Fields) → option_map named_body (written_fields fs) ≡ entity_fields fs
fields_named fs =
    named_with (required entity_of (codes "uid") fs) (optional uids_of (codes "parents") fs) (optional fields_of (codes "attrs") fs) (optional fields_of (codes "tags") fs)
    ∙ (λ i. entity_with (required entity_of (codes "uid") fs) (optional uids_of (codes "parents") fs) (sym (if_named (found (codes "attrs") fs)) i) (sym (if_named (found (codes "tags") fs)) i))

abbrev keys_of : List Text
keys_of = codes "uid" ∷ codes "parents" ∷ codes "attrs" ∷ codes "tags" ∷ []

only_named : (b : Bool) (fs : Fields) → option_map named_body (cond b (written_fields fs) None) ≡ cond b (entity_fields fs) None
only_named true fs = fields_named fs
only_named false fs = refl

then_named : (o : Option Fields) → option_map named_body (and_then o (only_with keys_of written_fields)) ≡ and_then o (only_with keys_of entity_fields)
then_named None = refl
then_named (Some fs) = only_named (are_among keys_of fs) fs

body_named : (t : Tree) → option_map named_body (written_body t) ≡ entity_body t
body_named t = then_named (fields_of t)

both_named : (o : Option EntityBody) (os : Option (List EntityBody)) → option_map (map named_body) (read_with o os) ≡ read_with (option_map named_body o) (option_map (map named_body) os)
both_named None os = refl
both_named (Some b) None = refl
both_named (Some b) (Some bs) = refl

each_named : (ts : Trees) → option_map (map named_body) (each written_body ts) ≡ each entity_body ts
each_named no_trees = refl
each_named (a_tree t ts) = both_named (written_body t) (each written_body ts) ∙ (λ i. read_with (body_named t i) (each_named ts i))

list_named : (o : Option Trees) → option_map (map named_body) (and_then o (each written_body)) ≡ and_then o (each entity_body)
list_named None = refl
list_named (Some ts) = each_named ts

pub bodies_named : (t : Tree) → option_map (map named_body) (written_bodies t) ≡ entity_bodies t
bodies_named t = list_named (trees_of t)

-- what is written says what the world reads
pub named_from : (o : Option (List EntityBody)) (t : Tree) → o ≡ written_bodies t → option_map (map named_body) o ≡ entity_bodies t
named_from o t h = ap (option_map (map named_body)) h ∙ bodies_named t

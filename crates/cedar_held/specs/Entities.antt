-- Listed uids and entities, as the world has them.
use Rattle.std.specs.Prelude.{◌≡◌, Option, option_map, map, List, [], ◌∷◌, codes}
use Rattle.std.specs.Option.{unwrap_or}
use Rattle.std.specs.FinSet as set
use Rattle.std.specs.Borrow.{Bor}
use Rattle.std.specs.Global.{Vec}
use Rattle.std.specs.declared.alloc.Global.{Global}
use Rattle.std.specs.declared.rc.RcStr.{RcStr}
use Rattle.std.specs.BTreeMap.{BTreeMap}
use Rattle.cedar_language.specs.Uid.{Uid}
use Rattle.cedar_language.specs.Tree.{Tree}
use Rattle.cedar_trees.specs.declared.expr.Expr.{Expr}
use Rattle.cedar_world.specs.Bodies as world
use Rattle.cedar_grammar.specs.UnknownCalls.{named}
use Rattle.cedar_world.specs.Bodies.{Fields, and_then, each, required, optional, record_with, entity_of, uids_of, trees_of, fields_of, entity_with}
use Rattle.cedar_held.specs.Lent.{fields_in}
use Rattle.cedar_held.specs.declared.entities.EntityBody.{EntityBody}

abbrev pub listed_uids : Vec Uid → List Uid
listed_uids uids = uids.items

-- the uids of a field, and none where the field isn't there
abbrev pub listed_or_none : Option (List Uid) → List Uid
listed_or_none uids = unwrap_or uids []

-- ---- entities as they are written: a call of `unknown` in an attribute or a tag is a call

abbrev pub written_fields : Fields → Option world.EntityBody
written_fields fs = entity_with (required entity_of (codes "uid") fs) (optional uids_of (codes "parents") fs)
    (optional fields_of (codes "attrs") fs) (optional fields_of (codes "tags") fs)

abbrev pub written_body : Tree → Option world.EntityBody
written_body = record_with (codes "uid" ∷ codes "parents" ∷ codes "attrs" ∷ codes "tags" ∷ []) written_fields

abbrev pub written_bodies : Tree → Option (List world.EntityBody)
written_bodies t = and_then (trees_of t) (each written_body)

abbrev pub lent_fields : Option (Bor (BTreeMap (RcStr Global) (Expr (Unit {0})))) → Fields
lent_fields entries = unwrap_or (option_map (λ found. fields_in found.now) entries) []

abbrev pub written_of : EntityBody → world.EntityBody
written_of b = record {
  uid = b.uid.now;
  parents = set.from_list b.parents.items;
  attributes = lent_fields b.attrs;
  tags = lent_fields b.tags;
}

abbrev pub all_written : Vec EntityBody → List world.EntityBody
all_written bodies = map written_of bodies.items

-- ---- the same, where a call that names an unknown is that unknown

abbrev pub named_all : Fields → Fields
named_all fs = map (λ f. (f.0, named f.1)) fs

abbrev pub named_body : world.EntityBody → world.EntityBody
named_body b = record b { attributes = named_all b.attributes; tags = named_all b.tags }

abbrev pub entity_bodies_of : Vec EntityBody → List world.EntityBody
entity_bodies_of bodies = map named_body (all_written bodies)

-- the world's bodies are those that are written, with their unknowns named
abbrev pub BodiesAreWritten : Type 0
BodiesAreWritten = (t : Tree) → option_map (map named_body) (written_bodies t) ≡ world.entity_bodies t

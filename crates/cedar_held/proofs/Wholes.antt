-- What is read of a record, from its parts.
use Rattle.std.proofs.Common.{◌≡◌, ◌∙◌, refl, ap, sym, Option, Some, None, option_map, List, codes, Global, BTreeMap, Bor}
use Rattle.std.specs.FinSet as set
use Rattle.std.specs.declared.rc.RcStr.{RcStr}
use Rattle.cedar_language.specs.Uid.{Uid}
use Rattle.cedar_trees.specs.declared.expr.Expr.{Expr}
use Rattle.cedar_world.specs.Bodies.{Fields, required, optional, entity_of, uids_of, fields_of, entity_with}
use Rattle.cedar_held.specs.Lent.{fields_in}
use Rattle.cedar_held.specs.Entities.{listed_or_none, written_fields, lent_fields}

abbrev Map : Type 0
Map = BTreeMap (RcStr Global) (Expr (Unit {0}))

some_inside : (o : Option (Option (List Uid))) (uids : List Uid) → Some uids ≡ option_map listed_or_none o → (us : Option (List Uid)) × (o ≡ Some us) × (listed_or_none us ≡ uids)
some_inside None uids h = cc
some_inside (Some us) uids h = (us, refl, cc)

-- the fields of a record that is lent
abbrev given : Option (Bor Map) → Option Fields
given m = option_map (λ found. fields_in found.now) m

module _ (fs : Fields) (uid : Uid) (uids : List Uid) (attrs tags : Option (Bor Map)) where
  pub entity_from : Some uid ≡ required entity_of (codes "uid") fs → Some uids ≡ option_map listed_or_none (optional uids_of (codes "parents") fs)
      → Some (given attrs) ≡ optional fields_of (codes "attrs") fs → Some (given tags) ≡ optional fields_of (codes "tags") fs
      → Some (record { uid = uid; parents = set.from_list uids; attributes = lent_fields attrs; tags = lent_fields tags }) ≡ written_fields fs
  entity_from is_uid are_parents are_attrs are_tags =
      let parents = some_inside (optional uids_of (codes "parents") fs) uids are_parents in
      sym (
      (λ i. entity_with (sym is_uid i) (parents.1 i) (sym are_attrs i) (sym are_tags i))
      ∙ ap (λ us. Some (record { uid = uid; parents = set.from_list us; attributes = lent_fields attrs; tags = lent_fields tags })) parents.2)

-- The entity types that names stand for, where only such may stand.
use Rattle.std.specs.Prelude.{◌≡◌, List, [], ◌∷◌, Option, option_map}
use Rattle.std.specs.List.{find, cons_option}
use Rattle.std.specs.BTreeMap.{get}
use Rattle.cedar_language.specs.Uid.{Name}
use Rattle.cedar_language.specs.Order.{same_name, name_cmp}
use Rattle.cedar_schema_grammar.specs.Declared.{EntityType, Declared, first_of, places, entity_name}
use Rattle.cedar_schema_resolution.specs.declared.parents.EntityNames.{EntityNames}

abbrev pub name_at : EntityNames → Name → Option Name
name_at c n = get name_cmp c.by_name n

-- these entity types have their names, and there are no others
abbrev pub HaveNames : List EntityType → EntityNames → Type 0
HaveNames es c = (n : Name) → name_at c n ≡ option_map entity_name (find (λ e. same_name (entity_name e) n) es)

abbrev pub AreNamesOf : Declared → EntityNames → Type 0
AreNamesOf d c = HaveNames d.entities c

-- the entity type that a name stands for in a namespace, and those that names stand for
abbrev pub first_named : EntityNames → Name → Name → Option Name
first_named c namespace n = first_of (name_at c) (places namespace n)

abbrev pub all_named : EntityNames → Name → List Name → List Name
all_named c namespace [] = []
all_named c namespace (n ∷ ns) = cons_option (first_named c namespace n) (all_named c namespace ns)

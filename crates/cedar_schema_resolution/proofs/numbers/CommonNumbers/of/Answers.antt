-- Common types are put over entity types.
use Rattle.std.proofs.Common.{subst}
use Rattle.std.specs.Prelude.{map}
use Rattle.cedar_schema_resolution.specs.Declarations.{entity_view, type_view, declared_view}
use Rattle.cedar_schema_resolution.specs.Numbers.{HasNone, AreNumbered}
use Rattle.cedar_schema_resolution.proofs.Numbering.{numbers_are_of}
use Rattle.cedar_schema_resolution.proofs.numbers.CommonNumbers.of.Goals as goal

pub returns : goal.returns
returns c =
    numbers_are_of (declared_view c.args.declared.now) c.new-numbers.result c.add_entities.new.self c.add_types.new.self c.new-numbers.ensures
    (subst (λ es. HasNone (map entity_view es) c.new-numbers.result c.add_entities.new.self) c.deref.ensures.value c.in_ok-add_entities.ensures)
    (subst (λ ts. AreNumbered 0 (map type_view ts) c.add_entities.new.self c.add_types.new.self) c.deref-2.ensures.value c.in_ok-add_types.ensures)

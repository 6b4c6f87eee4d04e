use Rattle.std.proofs.Common.{◌≡◌, ◌++◌, take}
use Rattle.std.specs.Prelude.{map}
use Rattle.cedar_schema_grammar.specs.Declared.{entity_types_in, common_types_in, actions_in, of_block}
use Rattle.cedar_schema_syntax.specs.View as syntax
use Rattle.cedar_schema_resolution.specs.Declarations.{entities_view, types_view, actions_view}
use Rattle.cedar_schema_resolution.proofs.declarations.Declarations.add_all.Given as goal

abbrev pub invariant-loop-declaration : goal.invariant-loop-declaration
invariant-loop-declaration l = record {
  entities : entities_view l.self ≡ entities_view l.fn.self ++ of_block (entity_types_in l.namespace)
      (map syntax.declaration_view (take l.declaration-index l.declarations));
  types : types_view l.self ≡ types_view l.fn.self ++ of_block (common_types_in l.namespace)
      (map syntax.declaration_view (take l.declaration-index l.declarations));
  actions : actions_view l.self ≡ actions_view l.fn.self ++ of_block (actions_in l.namespace)
      (map syntax.declaration_view (take l.declaration-index l.declarations));
}

use Rattle.std.proofs.Common.{◌≡◌, ◌++◌, take}
use Rattle.std.specs.Prelude.{map}
use Rattle.cedar_schema_grammar.specs.Declared.{entity_types_in, common_types_in, actions_in, of_blocks}
use Rattle.cedar_schema_syntax.specs.View as syntax
use Rattle.cedar_schema_resolution.specs.Declarations.{entities_view, types_view, actions_view}
use Rattle.cedar_schema_resolution.proofs.declarations.Declarations.add_blocks.Given as goal

abbrev pub invariant-loop-block : goal.invariant-loop-block
invariant-loop-block l = record {
  entities : entities_view l.self ≡ entities_view l.fn.self ++ of_blocks entity_types_in (map syntax.namespace_view (take l.block-index l.blocks));
  types : types_view l.self ≡ types_view l.fn.self ++ of_blocks common_types_in (map syntax.namespace_view (take l.block-index l.blocks));
  actions : actions_view l.self ≡ actions_view l.fn.self ++ of_blocks actions_in (map syntax.namespace_view (take l.block-index l.blocks));
}

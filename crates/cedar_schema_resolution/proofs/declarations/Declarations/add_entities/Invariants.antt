use Rattle.std.proofs.Common.{◌≡◌, ◌++◌, take}
use Rattle.cedar_schema_syntax.specs.View as syntax
use Rattle.cedar_schema_resolution.specs.Declarations.{body_view, entities_view, types_view, actions_view, entities_named}
use Rattle.cedar_schema_resolution.proofs.declarations.Declarations.add_entities.Given as goal

abbrev pub invariant-loop-own : goal.invariant-loop-own
invariant-loop-own l = record {
  entities : entities_view l.self ≡ entities_view l.fn.self ++ entities_named l.namespace (body_view l.body) (syntax.names_view (take l.own-index l.names));
  types : types_view l.self ≡ types_view l.fn.self;
  actions : actions_view l.self ≡ actions_view l.fn.self;
}

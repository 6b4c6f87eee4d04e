use Rattle.std.proofs.Common.{◌≡◌, ◌++◌, take}
use Rattle.cedar_schema_syntax.specs.View as syntax
use Rattle.cedar_schema_resolution.specs.Declarations.{entities_view, types_view, actions_view, actions_named}
use Rattle.cedar_schema_resolution.proofs.declarations.Declarations.add_actions.Given as goal

abbrev pub invariant-loop-own : goal.invariant-loop-own
invariant-loop-own l = record {
  entities : entities_view l.self ≡ entities_view l.fn.self;
  types : types_view l.self ≡ types_view l.fn.self;
  actions : actions_view l.self ≡ actions_view l.fn.self ++ actions_named l.namespace (syntax.action_view l.written)
      (syntax.names_view (take l.own-index l.names));
}

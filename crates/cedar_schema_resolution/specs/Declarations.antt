-- What is declared, as the definition has it.
use Rattle.std.specs.Prelude.{List, map}
use Rattle.std.specs.Rc.{rc_str_bytes}
use Rattle.cedar_language.specs.Uid.{Text, Name}
use Rattle.cedar_schema_grammar.specs.Syntax as syntax
use Rattle.cedar_schema_grammar.specs.Declared as grammar
use Rattle.cedar_schema_syntax.specs.View as view
use Rattle.cedar_schema_resolution.specs.declared.declarations.EntityBody.{EntityBody}
use Rattle.cedar_schema_resolution.specs.declared.declarations.EntityBody.TheVariants as bodies
use Rattle.cedar_schema_resolution.specs.declared.declarations.DeclaredEntity.{DeclaredEntity}
use Rattle.cedar_schema_resolution.specs.declared.declarations.DeclaredType.{DeclaredType}
use Rattle.cedar_schema_resolution.specs.declared.declarations.DeclaredAction.{DeclaredAction}
use Rattle.cedar_schema_resolution.specs.declared.declarations.Declarations.{Declarations}

abbrev pub body_view : EntityBody → grammar.EntityBody
body_view (bodies.Shaped e) = grammar.shaped (view.entity_view e.now)
body_view (bodies.Listed e) = grammar.listed (map rc_str_bytes e.now.ids.items)

abbrev pub entity_view : DeclaredEntity → grammar.EntityType
entity_view e = record { namespace = e.namespace; own = view.name_view e.own.now; body = body_view e.body }

abbrev pub type_view : DeclaredType → grammar.CommonType
type_view t = record { namespace = t.namespace; own = view.name_view t.own.now; type = view.type_view t.written.now }

abbrev pub action_view : DeclaredAction → grammar.Action
action_view a = record { namespace = a.namespace; own = view.name_view a.own.now; written = view.action_view a.written.now }

abbrev pub entities_view : Declarations → List grammar.EntityType
entities_view d = map entity_view d.entities.items

abbrev pub types_view : Declarations → List grammar.CommonType
types_view d = map type_view d.types.items

abbrev pub actions_view : Declarations → List grammar.Action
actions_view d = map action_view d.actions.items

abbrev pub declared_view : Declarations → grammar.Declared
declared_view d = record { entities = entities_view d; types = types_view d; actions = actions_view d }

-- entity types of these names, with this body
abbrev pub entities_named : Name → grammar.EntityBody → List Text → List grammar.EntityType
entities_named p b names = map (λ s. record { namespace = p; own = s; body = b }) names

-- actions of these names, of one declaration
abbrev pub actions_named : Name → syntax.ActionSyntax → List Text → List grammar.Action
actions_named p a names = map (λ s. record { namespace = p; own = s; written = a }) names

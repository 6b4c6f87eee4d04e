-- A name is told where it stands for no entity type.
use Rattle.std.proofs.Common.{sym, ap, ◌∙◌}
use Rattle.std.specs.Prelude.{is_some}
use Rattle.std.proofs.lemmas.Result.{on_ok_weaker}
use Rattle.cedar_schema_syntax.specs.View.{path_view}
use Rattle.cedar_schema_faults.proofs.Typing.{entity_defined, entity_undefined}
use Rattle.cedar_schema_faults.proofs.names.SchemaNames.tell_undefined_entity.Goals as goal

pub returns-then-is_defined : goal.returns-then-is_defined
returns-then-is_defined c =
    entity_defined c.args.self.now c.args.namespace.now (path_view c.args.path.now) c.is_some-is_defined.result c.args.told.now
    (c.is_some-is_defined.ensures ∙ ap is_some c.in_ok-named.ensures) c.if-is_defined.true

pub returns : goal.returns
returns c = on_ok_weaker c.tell.result
    (λ e. entity_undefined c.args.self.now c.args.namespace.now (path_view c.args.path.now) c.is_some-is_defined.result c.args.told.now c.tell.new.told
    c.in_ok-name.name (c.is_some-is_defined.ensures ∙ ap is_some c.in_ok-named.ensures) c.if-is_defined.false c.in_ok-name.ensures e)
    c.tell.ensures

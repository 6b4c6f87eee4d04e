-- A name is told where it stands for nothing.
use Rattle.std.proofs.lemmas.Result.{on_ok_weaker}
use Rattle.cedar_schema_syntax.specs.View.{path_view}
use Rattle.cedar_schema_faults.proofs.Typing.{defined, undefined}
use Rattle.cedar_schema_faults.proofs.names.SchemaNames.tell_undefined.Goals as goal

pub returns-then-is_defined : goal.returns-then-is_defined
returns-then-is_defined c =
    defined c.args.self.now c.args.namespace.now (path_view c.args.path.now) c.in_ok-is_defined.is_defined c.args.told.now c.in_ok-is_defined.ensures
    c.if-is_defined.true

pub returns : goal.returns
returns c = on_ok_weaker c.tell.result
    (λ e. undefined c.args.self.now c.args.namespace.now (path_view c.args.path.now) c.in_ok-is_defined.is_defined c.args.told.now c.tell.new.told
    c.in_ok-name.name c.in_ok-is_defined.ensures c.if-is_defined.false c.in_ok-name.ensures e)
    c.tell.ensures

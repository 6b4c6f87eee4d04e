-- Nothing is known of it yet.
use Rattle.std.proofs.Common.{None, refl}
use Rattle.cedar_schema_grammar.specs.Declared.{type_name}
use Rattle.cedar_schema_resolution.specs.Declarations.{type_view}
use Rattle.cedar_schema_resolution.proofs.Putting.{put_one}
use Rattle.cedar_schema_resolution.proofs.table.put_type.Goals as goal

pub returns-clause-put : goal.returns-clause-put
returns-clause-put c =
    put_one (type_name (type_view c.args.common.now)) (λ n. None) c.in_ok-name.name None c.args.table.now c.declare.new.self c.in_ok-name.ensures refl
    c.in_ok-declare.ensures.declared

use Rattle.std.proofs.Common.{◌∙◌, ap}
use Rattle.cedar_typechecker.specs.Forms.{list_parts}
use Rattle.cedar_typechecker.specs.Operators.{part_count}
use Rattle.cedar_typechecker.specs.declared.operands.ListOperator.{ListOperator}
use Rattle.cedar_typechecker.proofs.Recorded.{entry_count}
use Rattle.cedar_typechecker.proofs.operators.list_type.Goals as goal

pub record_type-requires : goal.record_type-requires
record_type-requires g c = c.requires ∙ ap (λ (o : ListOperator). part_count (list_parts o)) c.in-Record.is ∙ entry_count c.in-Record.entries.now.entries

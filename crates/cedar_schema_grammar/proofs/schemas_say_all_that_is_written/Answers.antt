-- Where nothing is told, no common type is within itself, and each written type stands.
use Rattle.cedar_schema_grammar.proofs.Whole.{common_types_unfold, nothing_is_left_out, contexts_are_whole}
use Rattle.cedar_schema_grammar.proofs.schemas_say_all_that_is_written.Goals as goal

pub returns : goal.returns
returns c = record { common_types = common_types_unfold; entity_types = nothing_is_left_out; contexts = contexts_are_whole }

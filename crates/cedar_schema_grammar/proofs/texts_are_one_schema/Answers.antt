-- Both are what is read of the text.
use Rattle.cedar_schema_grammar.proofs.Texts.{one_schema}
use Rattle.cedar_schema_grammar.proofs.texts_are_one_schema.Goals as goal

pub returns : goal.returns
returns c = one_schema

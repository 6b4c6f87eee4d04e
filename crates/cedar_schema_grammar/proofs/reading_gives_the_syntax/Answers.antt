-- What is read is what the rules say.
use Rattle.cedar_schema_grammar.proofs.Texts.{tokens_are_read, texts_are_read}
use Rattle.cedar_schema_grammar.proofs.reading_gives_the_syntax.Goals as goal

pub returns : goal.returns
returns c = record { tokens = tokens_are_read; texts = texts_are_read }

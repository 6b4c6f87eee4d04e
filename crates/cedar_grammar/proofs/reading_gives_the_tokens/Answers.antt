-- Each kind of token has its function, which gives what the kind has and no more.
use Rattle.cedar_grammar.proofs.TokensComplete.{reads_tokens}
use Rattle.cedar_grammar.proofs.reading_gives_the_tokens.Goals as goal

pub returns : goal.returns
returns c = reads_tokens

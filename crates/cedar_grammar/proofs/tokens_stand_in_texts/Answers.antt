-- Reading finds whichever token stands in front, and a line feed behind a token keeps the next one apart.
use Rattle.cedar_grammar.proofs.TokensOfTexts.{one_token, tokens_of_texts}
use Rattle.cedar_grammar.proofs.tokens_stand_in_texts.Goals as goal

pub returns : goal.returns
returns c = record { front = one_token; lists = tokens_of_texts }

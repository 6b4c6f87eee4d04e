-- Each row by computing, once it is said which names are told.
use Rattle.cedar_partial_evaluation.proofs.EarlyRows.{early_rows as law}
use Rattle.cedar_partial_evaluation.proofs.early_rows.Goals as goal

pub returns : goal.returns
returns c = law

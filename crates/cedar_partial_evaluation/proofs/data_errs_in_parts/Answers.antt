-- All operators of data are strict, so an error of a part is one of the whole, and a refusal comes of such a part.
use Rattle.cedar_partial_evaluation.proofs.DataErrors.{data_errs_in_parts as law}
use Rattle.cedar_partial_evaluation.proofs.data_errs_in_parts.Goals as goal

pub returns : goal.returns
returns c = law

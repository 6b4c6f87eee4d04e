use Rattle.cedar_scalars.proofs.Dates.{dates_of_days}
use Rattle.cedar_scalars.proofs.laws.days_have_dates.Goals as goal

pub returns : goal.returns
returns c = dates_of_days

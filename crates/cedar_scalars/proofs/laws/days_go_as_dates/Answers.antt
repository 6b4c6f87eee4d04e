use Rattle.cedar_scalars.proofs.Dates.{days_rise}
use Rattle.cedar_scalars.proofs.laws.days_go_as_dates.Goals as goal

pub returns : goal.returns
returns c = days_rise

-- The rows compute.
use Rattle.std.proofs.Common.{refl}
use Rattle.cedar_theorem.specs.Rows.{asking}
use Rattle.cedar_theorem.proofs.rows.Goals as goal

pub returns : goal.returns
returns c functions = record {
  asks = λ text reads. record { body = asking; reads = reads; principal = refl; action = refl; resource = refl; context = refl };
  put = refl;
  other = refl;
  last_put = refl;
  first_added = refl;
  removed = refl;
}

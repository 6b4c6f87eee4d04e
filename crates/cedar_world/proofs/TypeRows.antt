-- The worked rows of types that questions state, each by computing.
use Rattle.std.proofs.Common.{refl}
use Rattle.cedar_world.specs.Rows.{TypeRows}

pub type_rows : TypeRows
type_rows = record {
  one_word = refl;
  two_words = refl;
  nothing = refl;
  one_colon = refl;
  three_colons = refl;
  no_last = refl;
  with_blank = refl;
  keyword = refl;
  reserved = refl;
  stated = refl;
  no_name = refl;
  given = refl;
  of_action = refl;
}

-- An identifier that isn't reserved is one.
use Rattle.std.proofs.Common.{sym, subst}
use Rattle.cedar_names.specs.Identifiers.{IsId}
use Rattle.cedar_data.proofs.names.id_of.Goals as goal

pub new_unchecked-requires : goal.new_unchecked-requires
new_unchecked-requires c = subst IsId (sym c.in_ok-from_str.ensures.ok) c.requires.0
